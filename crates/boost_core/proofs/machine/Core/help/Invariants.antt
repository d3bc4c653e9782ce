use Rattle.std.proofs.Common.{◌≡◌, ℕ}
use Rattle.boost_core.proofs.Vocabulary.{Drive, new_drive, State, Drives}
use Rattle.boost_core.proofs.HelpOutcomes.{Fits, left}
use Rattle.txn_drive.specs.declared.call.Call.TheVariants as calls
use Rattle.boost_core.proofs.machine.Core.help.Given as goal

-- So far the drive has made some moves. Suppose that further moves lead from the present state to a
-- state `new`. Then the moves so far and the further moves together lead from the drive's start to
-- `new`.
abbrev pub invariant-loop-step : goal.invariant-loop-step
invariant-loop-step l = record {
  drives : (more : ℕ) (last : Drive) (new : State) → Drives more l.drive l.self last new → (moves : ℕ) × Drives moves (new_drive l.fn.self.limits.half l.caller (calls.Help l.key)) l.fn.self last new;
  caller : l.drive.caller ≡ l.caller;
  call : l.drive.call ≡ calls.Help l.key;
  limits : l.self.limits ≡ l.fn.self.limits;
  words : l.self.words ≡ l.fn.self.words;
  fits : Fits l.self l.caller l.key l.drive.phase;
}

abbrev pub decreases-loop-step : goal.decreases-loop-step
decreases-loop-step l = left l.drive.phase
