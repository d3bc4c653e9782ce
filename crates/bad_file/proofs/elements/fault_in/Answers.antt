use Rattle.std.proofs.Common.{◌≡◌, List, [], ◌++◌, ◌∷◌, Some, map, ap, subst, sym, ◌∙◌, arith}
use Rattle.std.specs.Prelude.{reverse}
use Rattle.std.proofs.lemmas.List.{nil_from_length}
use Rattle.serde_json.specs.View.{view}
use Rattle.bad_file.specs.Flaws.{IsFault}
use Rattle.bad_file.specs.declared.expected.Expected.{Expected}
use Rattle.bad_file.specs.declared.expected.Expected.TheVariants.{EntryName}
use Rattle.bad_file.proofs.Faults.{not_expected, rest_of, sound, too_few, too_many, turn}
use Rattle.bad_file.proofs.Viewed.{past, seen_length, viewed, within}
use Rattle.bad_file.proofs.elements.fault_in.Goals as goal

pub loop-index-init : goal.loop-index-init
unfolding rest_of
loop-index-init c =
    let items : c.push.new.self.items ≡ EntryName ∷ [] = c.in_ok-push.ensures.items ∙ ap (λ (xs : List Expected). xs ++ EntryName ∷ []) c.new-stack.ensures.items in
    ap (λ (xs : List Expected). Some (reverse xs)) (sym items)

pub returns-in_default : goal.returns-in_default
returns-in_default c =
    let vs = c.args.values.now in
    let i = c.loop-index.index in
    let item = c.index-values-index.result in
    let none : c.loop-index.stack.items ≡ [] = nil_from_length c.loop-index.stack.items (omega (arith, c.loop-index.stack.ok.0, c.in_default.ensures.cases.0)) in
    too_many c.args.is_old c.args.ranged (map view vs) i (view item) c.loop-index.stack.items (within vs i c.loop-index-test.true) (viewed vs i item c.loop-index-test.true c.index-values-index.is) c.loop-index.invariant none

pub returns-then-not-is_of : goal.returns-then-not-is_of
returns-then-not-is_of c =
    let vs = c.args.values.now in
    let i = c.loop-index.index in
    let item = c.index-values-index.result in
    not_expected c.args.is_old c.args.ranged (map view vs) i (view item) c.in-Some.expected c.loop-index.stack.items c.pop.new.self.items (within vs i c.loop-index-test.true) (viewed vs i item c.loop-index-test.true c.index-values-index.is) c.loop-index.invariant c.in-Some.ensures.items (sym c.is_of.ensures ∙ c.if-not-is_of.true)

pub loop-index-preserved : goal.loop-index-preserved
loop-index-preserved c =
    let vs = c.args.values.now in
    let i = c.loop-index.index in
    let item = c.index-values-index.result in
    turn c.args.is_old c.args.ranged (map view vs) i (view item) c.in-Some.expected c.loop-index.stack.items c.pop.new.self.items c.push_after.new.stack.items (within vs i c.loop-index-test.true) (viewed vs i item c.loop-index-test.true c.index-values-index.is) c.loop-index.invariant c.in-Some.ensures.items (sym c.is_of.ensures ∙ c.if-not-is_of.false) c.in_ok-push_after.ensures

pub returns-in-Some-pop : goal.returns-in-Some-pop
returns-in-Some-pop c =
    let vs = c.args.values.now in
    let i = c.loop-index.index in
    let e = c.in-Some-pop.expected in
    subst (λ n. IsFault c.args.is_old c.args.ranged (map view vs) n (Some e)) (seen_length vs)
    (too_few c.args.is_old c.args.ranged (map view vs) i e c.loop-index.stack.items c.pop-2.new.self.items (past vs i c.loop-index-test.false) c.loop-index.invariant c.in-Some-pop.ensures.items)

pub returns : goal.returns
returns c =
    let vs = c.args.values.now in
    let none : c.loop-index.stack.items ≡ [] = nil_from_length c.loop-index.stack.items (omega (arith, c.loop-index.stack.ok.0, c.in-None.ensures.cases.0)) in
    sound c.args.is_old c.args.ranged (map view vs) c.loop-index.index c.loop-index.stack.items (past vs c.loop-index.index c.loop-index-test.false) c.loop-index.invariant none
