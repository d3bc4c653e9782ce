use Rattle.std.proofs.Common.{◌≡◌, map, sym, Some, ◌∙◌}
use Rattle.std.proofs.lemmas.Result.{IfOk-weaker}
use Rattle.serde_json.specs.View.{view}
use Rattle.bad_file.specs.Places.{entries_of}
use Rattle.bad_file.proofs.Flaws.{callers_tell, entries_tell, members_tell, ranges_tell}
use Rattle.bad_file.proofs.file.flaw_in_value.Goals as goal

pub returns-then-is_some : goal.returns-then-is_some
returns-then-is_some c =
    members_tell (view c.args.file.now) c.flaw_in_members-misshapen.result (sym c.is_some.ensures ∙ c.if-is_some.true) c.flaw_in_members-misshapen.ensures

pub returns-then-is_some-2 : goal.returns-then-is_some-2
returns-then-is_some-2 c =
    let d = view c.args.file.now in
    let ds = map view c.in-Some.entries.now in
    let are : entries_of d ≡ Some ds = sym c.in-Some.ensures in
    entries_tell d c.is_old_file-is_old.result ds c.flaw_in_members-misshapen.result c.is_old_file-is_old.ensures are (sym c.is_some.ensures ∙ c.if-is_some.false) c.flaw_in_members-misshapen.ensures
    c.in_ok-misshapen.misshapen (sym c.is_some-2.ensures ∙ c.if-is_some-2.true) (c.in_ok-misshapen.ensures d are)

pub returns-then-is_some-3 : goal.returns-then-is_some-3
returns-then-is_some-3 c =
    let d = view c.args.file.now in
    let ds = map view c.in-Some.entries.now in
    let are : entries_of d ≡ Some ds = sym c.in-Some.ensures in
    ranges_tell d c.is_old_file-is_old.result ds c.flaw_in_members-misshapen.result c.is_old_file-is_old.ensures are (sym c.is_some.ensures ∙ c.if-is_some.false) c.flaw_in_members-misshapen.ensures
    c.in_ok-misshapen.misshapen c.flaw_in_members-out_of_range.result (sym c.is_some-2.ensures ∙ c.if-is_some-2.false) (c.in_ok-misshapen.ensures d are)
    (sym c.is_some-3.ensures ∙ c.if-is_some-3.true) c.flaw_in_members-out_of_range.ensures

pub returns : goal.returns
returns c =
    let d = view c.args.file.now in
    let ds = map view c.in-Some.entries.now in
    let are : entries_of d ≡ Some ds = sym c.in-Some.ensures in
    IfOk-weaker c.flaw_in_entries-2.result _ _ (λ last is.
    callers_tell d c.is_old_file-is_old.result ds c.flaw_in_members-misshapen.result c.is_old_file-is_old.ensures are (sym c.is_some.ensures ∙ c.if-is_some.false) c.flaw_in_members-misshapen.ensures
    c.in_ok-misshapen.misshapen c.flaw_in_members-out_of_range.result last (sym c.is_some-2.ensures ∙ c.if-is_some-2.false) (c.in_ok-misshapen.ensures d are)
    (sym c.is_some-3.ensures ∙ c.if-is_some-3.false) c.flaw_in_members-out_of_range.ensures (is d are)) c.flaw_in_entries-2.ensures
