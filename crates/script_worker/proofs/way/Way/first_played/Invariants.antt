use Rattle.std.proofs.Common.{length, ◌-◌, ◌≡◌, ℕ, ◌%◌, ◌<◌, ◌≤◌, List, Some}
use Rattle.std.specs.Prelude.{slice_get}
use Rattle.txn_words.specs.declared.action.Action.{Action}
use Rattle.txn_trace.specs.Plays.{IsPlayed}
use Rattle.script_worker.proofs.way.Way.first_played.Given as goal

abbrev pub invariant-loop-number : goal.invariant-loop-number
invariant-loop-number l =
    (l.fn.self.next ≤ l.number)
    × (l.number % l.fn.work.workers ≡ l.fn.self.next % l.fn.work.workers)
    × ((n : ℕ) (script : List Action) → l.fn.self.next ≤ n → n < l.number → n % l.fn.work.workers ≡ l.fn.self.next % l.fn.work.workers
    → slice_get l.fn.work.scripts.now n ≡ Some script → IsPlayed script l.fn.self.part.items → ⊥)

abbrev pub decreases-loop-number : goal.decreases-loop-number
decreases-loop-number l = length l.work.scripts.now - l.number
