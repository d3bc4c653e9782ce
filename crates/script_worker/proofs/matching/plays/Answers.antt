use Rattle.std.proofs.Common.{◌≡◌, ◌+◌, ◌∷◌, List, drop, refl, subst, sym, ◌∙◌}
use Rattle.std.proofs.lemmas.List.{drop_more, drop_all}
use Rattle.txn_trace.specs.Plays.{ArePlayed, IsPlayed}
use Rattle.script_worker.proofs.Parts.{played_rest, played_whole, does_first, played_begun, begun_played, has_begun, lone_played, played_lone}
use Rattle.script_worker.proofs.matching.plays.Goals as goal

pub returns-in_default-clause-no : goal.returns-in_default-clause-no
returns-in_default-clause-no c is played =
    let (rest, begun) = has_begun c.args.script.now c.args.part.now played in
    c.in_default.ensures.other refl rest begun

pub loop-packed-init : goal.loop-packed-init
loop-packed-init c =
    (played_begun c.args.script.now c.args.part.now c.in-Some.entries.now c.in-Some.ensures.begun, begun_played c.args.script.now c.args.part.now c.in-Some.entries.now c.in-Some.ensures.begun)

pub returns-in_default-after-clause-no : goal.returns-in_default-after-clause-no
returns-in_default-after-clause-no c is played =
    let here = subst (λ a. drop c.loop-packed.packed-index c.args.script.now ≡ a ∷ drop (c.loop-packed.packed-index + 1) c.args.script.now) (sym (c.action.ensures ∙ c.packed-item.is)) (drop_more c.args.script.now c.loop-packed.packed-index _ c.loop-packed-test.true) in
    let (rest, does) = does_first _ _ _ (subst (λ s. ArePlayed s c.loop-packed.rest.now) here (c.loop-packed.invariant.0 played)) in
    c.in_default-after.ensures.other refl rest does

pub loop-packed-preserved : goal.loop-packed-preserved
loop-packed-preserved c =
    let here = subst (λ a. drop c.loop-packed.packed-index c.args.script.now ≡ a ∷ drop (c.loop-packed.packed-index + 1) c.args.script.now) (sym (c.action.ensures ∙ c.packed-item.is)) (drop_more c.args.script.now c.loop-packed.packed-index _ c.loop-packed-test.true) in
    let does = c.in-Some-after.ensures.does in (
      λ played. played_rest _ _ _ _ does (subst (λ s. ArePlayed s c.loop-packed.rest.now) here (c.loop-packed.invariant.0 played)),
      λ played. c.loop-packed.invariant.1 (subst (λ s. ArePlayed s c.loop-packed.rest.now) (sym here) (played_whole _ _ _ _ does played)),
    )

pub returns-clause-yes : goal.returns-clause-yes
returns-clause-yes c is =
    let none = drop_all c.loop-packed.packed-index c.args.script.now c.loop-packed-test.false in
    c.loop-packed.invariant.1 (subst (λ s. ArePlayed s c.loop-packed.rest.now) (sym none) (lone_played c.loop-packed.rest.now (c.is_commit.ensures.yes is)))

pub returns-clause-no : goal.returns-clause-no
returns-clause-no c is played =
    let none = drop_all c.loop-packed.packed-index c.args.script.now c.loop-packed-test.false in
    c.is_commit.ensures.no is (played_lone c.loop-packed.rest.now (subst (λ s. ArePlayed s c.loop-packed.rest.now) none (c.loop-packed.invariant.0 played)))
