-- PROMISES each-step-is-a-move-of-the-machine: Happens, Moves
-- The fifth claim, answers: each step makes a move of the machine. The rows of `Rows.antt` say what a
-- step with an answer does that is not a refusal. The definitions below add the refusals.
pub use Rattle.boost_core.specs.State.{State, start, start_with_words, holder_by}
use Rattle.std.specs.Prelude.{◌≡◌, ◌≤◌, ◌≢◌, ℕ, ◌⊎◌, List, [], ◌∷◌, ◌++◌, Option, Some, None}
use Rattle.boost_core.specs.Vocabulary.{Step, InitLink, Answer, NoMemory, StampsUsedUp, Sizes}
use Rattle.txn_words.specs.declared.answer.Answer.TheVariants as answers
use Rattle.txn_words.specs.Entries.{entries_of}
use Rattle.boost_core.specs.State.{Gap, Owner, Helper, gap_for}
use Rattle.boost_core.specs.Refusals.{refusal_of, MayLack, owner_of}
use Rattle.boost_core.specs.Nodes.{AreNeighbours, HasFit}
use Rattle.boost_core.specs.Rows.{row_of}

-- Whether a step may have this answer if nothing refuses the step.
abbrev pub IsAnswer : State → Step → Answer → Type 0
IsAnswer state step answer = (row_of step answer).Allows state

-- The owner of the cursor that was placed last, after a step and its answer. A refusal leaves the
-- owner unchanged.
abbrev pub placed_then : Option Owner → Step → Answer → Option Owner
placed_then before step (answers.Refused refusal) = before
placed_then before step answer = (row_of step answer).placed

-- The state after a step and its answer, except for the nodes and the gaps. `changes` and `stamp`
-- are the change number and the last stamp after the step. A refusal leaves the state unchanged.
abbrev pub after : State → Step → Answer → ℕ → ℕ → State
after state step (answers.Refused refusal) changes stamp = state
after state step answer changes stamp =
    let done = (row_of step answer).leaves state changes in
    record state {
      history = state.history ++ entries_of step answer;
      size = done.size;
      stored = done.stored;
      linked = done.linked;
      changes = changes;
      stamp = stamp;
      cursors = done.cursors;
      helpers = done.helpers;
      placed = (row_of step answer).placed;
    }

-- The effect of a step and its answer on the nodes and on the change number.
abbrev pub Touches : State → Step → Answer → State → Type 0
Touches old step answer new = (row_of step answer).Touches old new

abbrev pub stamp_after : ℕ → Step → Answer → ℕ
stamp_after stamp step answer = (row_of step answer).stamps stamp

-- Which cursor must fit before a step with its answer, and which one fits after it. If the step
-- `InitLink` is refused for lack of memory or of stamps, the helper's cursor fits.
abbrev pub Fits : State → Step → Answer → State → Type 0
Fits old (InitLink h) (answers.Refused NoMemory) new = HasFit old (Helper h)
Fits old (InitLink h) (answers.Refused StampsUsedUp) new = HasFit old (Helper h)
Fits old step answer new = (row_of step answer).Fits old new

-- The effect of a step and its answer on the list: on its nodes, its change number and its last
-- stamp.
pub record Lists (old : State) (step : Step) (answer : Answer) (new : State) : Type 0 where
  pub nodes : Touches old step answer new
  pub rises : old.changes ≤ new.changes
  pub stamp : new.stamp ≡ stamp_after old.stamp step answer

-- The owner whose cursor a step and its answer may move: the step's caller or helper. There is none
-- if the step is refused, or is `Sweep` or `Double`.
abbrev pub mover_of : Step → Answer → Option Owner
mover_of step (answers.Refused refusal) = None
mover_of step answer = owner_of step

-- If the cursor of an owner other than the mover fitted, and its two nodes are still unmarked
-- neighbours, the cursor still fits. Changes elsewhere do not affect it.
abbrev pub KeepsGaps : State → Step → Answer → State → Type 0
KeepsGaps old step answer new = (owner : Owner) (gap : Gap) → mover_of step answer ≢ Some owner
    → gap_for old owner ≡ Some gap → AreNeighbours new.nodes gap → gap_for new owner ≡ Some gap

-- The effect of a step on the cursors of callers and of helpers.
pub record Cursors (old : State) (step : Step) (answer : Answer) (new : State) : Type 0 where
  pub fits : Fits old step answer new
  pub keeps : KeepsGaps old step answer new

-- Whether a step may have this answer. If a test of the step holds, the only answer is the refusal
-- of the first such test. If no test holds, the step may be refused for lack of memory or of stamps
-- (`MayLack`), or have one of its answers (`IsAnswer`).
abbrev pub IsAllowed : State → Step → Answer → Type 0
IsAllowed state step (answers.Refused refusal) =
    (refusal_of state step ≡ Some refusal)
    ⊎ ((refusal_of state step ≡ None) × MayLack state step refusal)
IsAllowed state step answer = (refusal_of state step ≡ None) × IsAnswer state step answer

-- The step may have this answer, and the state after it is `new`. Nothing is said about the nodes,
-- the change number, the last stamp and the gaps of `new`.
pub record Move (old : State) (step : Step) (answer : Answer) (new : State) : Type 0 where
  pub allowed : IsAllowed old step answer
  pub state : new
      ≡ record (after old step answer new.changes new.stamp) {
        nodes = new.nodes;
        gaps = new.gaps;
        helper_gaps = new.helper_gaps;
      }

-- All that a step with its answer does. It makes a move, and `Lists` and `Cursors` say what happens
-- to the linked nodes, the change number, the last stamp and all cursors.
pub record Happens (old : State) (step : Step) (answer : Answer) (new : State) : Type 0 where
  pub move : Move old step answer new
  pub lists : Lists old step answer new
  pub cursors : Cursors old step answer new

-- The steps are taken one after the other, each with its answer.
abbrev pub Moves : State → List Step → List Answer → State → Type 0
Moves old [] [] new = new ≡ old
Moves old (step ∷ steps) (answer ∷ answers) new =
    (between : State) × Happens old step answer between × Moves between steps answers new
Moves old steps answers new = ⊥

-- A run of the machine: from the start, these steps have these answers, and lead to the state
-- `last`.
abbrev pub Run : Sizes → List Step → List Answer → State → Type 0
Run limits steps answers last = Moves (start limits) steps answers last
