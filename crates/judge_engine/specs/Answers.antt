-- The answers of the commands.
use Rattle.std.specs.Prelude.{ℕ, Bool, true, false}
use Rattle.order_check.specs.declared.verdict.Verdict.{Verdict}
use Rattle.order_check.specs.declared.verdict.Verdict.TheVariants as verdicts
use Rattle.judge_engine.specs.declared.answer.Answer.{Answer}
use Rattle.judge_engine.specs.declared.answer.Answer.TheVariants.{Yes, No, Undecided}

-- The judge's exit status after this answer.
abbrev pub status_after : Answer → ℕ
status_after Yes = 0
status_after No = 1
status_after Undecided = 5

-- The answer of a command that says whether all is well.
abbrev pub answer_if : Bool → Answer
answer_if true = Yes
answer_if false = No

-- The answer that a verdict by any order gives.
abbrev pub answer_of : Verdict → Answer
answer_of (verdicts.Serializable order) = Yes
answer_of (verdicts.NotSerializable reason) = No
answer_of (verdicts.Undecided key value writers) = Undecided
