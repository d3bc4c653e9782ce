-- Why a transfer in a map with one owner moved nothing.
use Rattle.std.specs.Prelude.{ℕ, ◌≡◌, ◌+◌, ◌^◌, ◌<◌, ◌≤◌, Some}
use Rattle.samples.specs.Vocabulary.{IsStopped, OnlyWorked, State, Stop, now}
use Rattle.txn_words.specs.declared.step.Step.{Step}
use Rattle.boost_core.specs.Refusals.{owner_of}
use Rattle.boost_core.specs.declared.owner.Owner.TheVariants.{Caller}
use Rattle.samples.specs.declared.bank.NotMoved.{NotMoved}
use Rattle.samples.specs.declared.bank.NotMoved.TheVariants.{TooLittle, TooMuch, Stopped}
use Rattle.samples.specs.Transfers.{balance}

-- A step of a caller was answered with a stop. Between `old` and this step, no other caller did
-- anything and nothing was committed.
pub record WasStopped (c : ℕ) (stop : Stop) (old : State) : Type 0 where
  pub before : State
  pub beside : OnlyWorked c old before
  pub step : Step
  pub whose : owner_of step ≡ Some (Caller c)
  pub after : State
  pub is : IsStopped before step stop after

-- Why a sum was not moved from one account to the other.
abbrev pub IsWhy : ℕ → ℕ → ℕ → ℕ → NotMoved → State → Type 0
IsWhy c from to sum TooLittle old = balance (now old.history) from < sum
IsWhy c from to sum TooMuch old = 2 ^ 64 ≤ balance (now old.history) to + sum
IsWhy c from to sum (Stopped stop) old = WasStopped c stop old
