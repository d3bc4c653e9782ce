use Rattle.std.proofs.Common.{◌≡◌, ◌++◌, false, List, vec_len}
use Rattle.std.specs.Prelude.{reverse, string_bytes}
use Rattle.txn_words.specs.declared.answer.Answer.{Answer}
use Rattle.txn_words.specs.declared.step.Step.{Step}
use Rattle.boost_core.specs.Machine.{Moves}
use Rattle.boostmap_engine.specs.Report.{answers_text}
use Rattle.boostmap_engine.proofs.report.put_answers.Given as goal

abbrev pub invariant-loop-step : goal.invariant-loop-step
invariant-loop-step l =
    (taken : List Step) × (answers : List Answer) × (l.fn.steps.items ≡ taken ++ reverse l.steps.items)
    × Moves l.fn.core taken answers l.core
    × (string_bytes l.text ≡ string_bytes l.fn.text ++ answers_text answers) × (l.core.words ≡ false)

abbrev pub decreases-loop-step : goal.decreases-loop-step
decreases-loop-step l = vec_len l.steps
