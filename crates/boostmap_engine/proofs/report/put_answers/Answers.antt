use Rattle.std.proofs.Common.{◌++◌, ◌∷◌, [], ◌∙◌, ap, arith, refl, string_bytes, subst, sym}
use Rattle.std.specs.Prelude.{reverse}
use Rattle.std.proofs.lemmas.List.{append-nil, append_assoc, flat_map_more, reverse-append, reverse-reverse}
use Rattle.txn_words.specs.declared.answer.Answer.{Answer}
use Rattle.txn_words.specs.Text.{text_of}
use Rattle.boost_core.specs.Machine.{Happens}
use Rattle.boost_core.proofs.Runs.{Moves-then}
use Rattle.boostmap_engine.specs.Report.{line}
use Rattle.boostmap_engine.proofs.report.put_answers.Goals as goal

pub loop-step-init : goal.loop-step-init
loop-step-init c =
    ([], [], sym (ap reverse c.reverse.ensures.items ∙ reverse-reverse c.args.steps.items), refl, sym (append-nil _), c.requires)

pub loop-step-preserved : goal.loop-step-preserved
loop-step-preserved c =
    let happens = subst (λ s. Happens c.loop-step.core s c.step-answer.result c.step-answer.new.self) c.step.ensures c.step-answer.ensures.event in
    let before = c.loop-step.invariant in
    let turned = reverse-append c.pop.new.self.items (c.in-Some.step ∷ []) in (
      before.0 ++ c.in-Some.step ∷ [],
      before.1 ++ c.step-answer.result ∷ [],
      before.2
          ∙ ap (λ left. before.0 ++ reverse left) c.in-Some.ensures.items
          ∙ ap (λ left. before.0 ++ left) turned
          ∙ sym (append_assoc before.0 (c.in-Some.step ∷ []) (reverse c.pop.new.self.items))
          ∙ ap (λ left. (before.0 ++ c.in-Some.step ∷ []) ++ reverse left) (sym c.give_back.ensures),
      Moves-then c.args.core.now c.loop-step.core c.step-answer.new.self before.0 before.1 c.in-Some.step c.step-answer.result before.3 happens,
      grind (arith, flat_map_more (λ (answer : Answer). line (text_of answer)) (string_bytes c.args.text.now) before.1 c.step-answer.result, before.4, c.writeln.ensures),
      c.step-answer.ensures.words ∙ before.5,
    )
