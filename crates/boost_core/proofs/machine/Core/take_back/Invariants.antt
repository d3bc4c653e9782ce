use Rattle.std.proofs.Common.{◌≡◌, ℕ, List}
use Rattle.boost_core.proofs.Vocabulary.{Step, Answer, State, stance_in, Moves, undoing, undone}
use Rattle.boost_core.proofs.machine.Core.take_back.Given as goal

-- So far the loop has taken back `changes` changes, each by two steps. Suppose that further steps
-- lead from the present state to a state `new`. Then the steps so far and the further steps
-- together lead from the state before the loop to `new`.
abbrev pub invariant-loop-self : goal.invariant-loop-self
invariant-loop-self l = record {
  changes : ℕ;
  moves : (steps : List Step) (answers : List Answer) (new : State) → Moves l.self steps answers new → Moves l.fn.self (undoing changes l.caller steps) (undone changes answers) new;
  limits : l.self.limits ≡ l.fn.self.limits;
  words : l.self.words ≡ l.fn.self.words;
  phase : (stance_in l.self.history l.caller).phase ≡ (stance_in l.fn.self.history l.caller).phase;
}

abbrev pub decreases-loop-self : goal.decreases-loop-self
decreases-loop-self l = (stance_in l.self.history l.caller).standing
