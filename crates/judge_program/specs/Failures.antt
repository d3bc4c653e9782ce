-- Why a request has no verdict or no outcomes.
use Rattle.std.specs.Prelude.{ℕ, List}
use Rattle.judge_engine.specs.Faults as engine
use Rattle.judge_engine.specs.Outcomes.{outcomes_message, outcomes_status}
use Rattle.judge_program.specs.declared.failure.TheConstants.{USAGE}
use Rattle.judge_program.specs.declared.failure.Failure.{Failure}
use Rattle.judge_program.specs.declared.failure.Failure.TheVariants.{Usage, Fault, Outcomes}

-- The exit status after a failure.
abbrev pub status_of : Failure → ℕ
status_of Usage = 2
status_of (Fault fault) = engine.status_of fault
status_of (Outcomes fault) = outcomes_status fault

-- The message of a failure.
abbrev pub message_of : Failure → List ℕ
message_of Usage = USAGE.now
message_of (Fault fault) = engine.message_of fault
message_of (Outcomes fault) = outcomes_message fault
