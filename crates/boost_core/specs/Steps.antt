-- The two halves of `Step`: a caller's steps, and the steps that belong to no caller.
pub use Rattle.boost_core.specs.declared.steps.CallerStep.{CallerStep}
pub use Rattle.boost_core.specs.declared.steps.HelperStep.{HelperStep}
use Rattle.std.specs.Prelude.{ℕ}
use Rattle.boost_core.specs.Vocabulary.{Step, Begin, Ask, Seek, Act, Save, Back, Commit, Abort, Sweep, InitSeek, InitLink, InitStore, Double}
use Rattle.boost_core.specs.Words.{Claim, Lock}

-- A caller's step as a `Step`, if caller `c` takes it.
abbrev pub step_by : ℕ → CallerStep → Step
step_by c CallerStep.Begin = Begin c
step_by c (CallerStep.Ask op claim) = Ask c op
step_by c CallerStep.Seek = Seek c
step_by c CallerStep.Act = Act c
step_by c CallerStep.Save = Save c
step_by c (CallerStep.Back n) = Back c n
step_by c CallerStep.Commit = Commit c
step_by c CallerStep.Abort = Abort c

-- The claim of the step `Ask`. For any other step, it is `Lock`.
abbrev pub claim_in : CallerStep → Claim
claim_in (CallerStep.Ask op claim) = claim
claim_in step = Lock

-- A step that belongs to no caller, as a `Step`.
abbrev pub step_from : HelperStep → Step
step_from HelperStep.Sweep = Sweep
step_from (HelperStep.InitSeek h b) = InitSeek h b
step_from (HelperStep.InitLink h) = InitLink h
step_from (HelperStep.InitStore h) = InitStore h
step_from (HelperStep.Double seen) = Double seen
