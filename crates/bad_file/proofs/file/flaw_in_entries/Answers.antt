use Rattle.std.proofs.Common.{map, sym, ◌∙◌}
use Rattle.serde_json.specs.View.{view}
use Rattle.bad_file.proofs.Places.{all_of, first_flaw, one_more}
use Rattle.bad_file.proofs.Viewed.{past, viewed, within}
use Rattle.bad_file.proofs.file.flaw_in_entries.Goals as goal

pub returns-then-is_some : goal.returns-then-is_some
returns-then-is_some c =
    let vs = c.args.entries.now in
    let i = c.loop-index.index in
    let item = c.index-entries-index.result in
    first_flaw c.args.is_old c.args.ranged (map view vs) i (view item) c.in_ok-found.found (sym c.is_some.ensures ∙ c.if-is_some.true) (within vs i c.loop-index-test.true) (viewed vs i item c.loop-index-test.true c.index-entries-index.is) c.loop-index.invariant c.in_ok-found.ensures.some

pub loop-index-preserved : goal.loop-index-preserved
loop-index-preserved c =
    let vs = c.args.entries.now in
    let i = c.loop-index.index in
    let item = c.index-entries-index.result in
    one_more c.args.is_old c.args.ranged (map view vs) i (view item) (within vs i c.loop-index-test.true) (viewed vs i item c.loop-index-test.true c.index-entries-index.is) c.loop-index.invariant (c.in_ok-found.ensures.none (sym c.is_some.ensures ∙ c.if-is_some.false))

pub returns : goal.returns
returns c d are =
    let vs = c.args.entries.now in
    all_of c.args.is_old c.args.ranged (map view vs) c.loop-index.index (past vs c.loop-index.index c.loop-index-test.false) c.loop-index.invariant
