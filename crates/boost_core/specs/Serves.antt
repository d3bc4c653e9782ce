-- The answers to the steps that belong to no caller, and the effects of these steps on the table.
use Rattle.std.specs.Prelude.{◌≡◌, ◌≢◌, ℕ, ◌-◌, ◌<◌, ◌^◌, ◌↔◌, Some, Result, Ok, Err}
use Rattle.boost_core.specs.Vocabulary.{slice_get, Answer, count_of, Refusal, TableAt, Help, SweepOutcome, KeepsTable, KeepsList, KeepsSpares, IsClean, content, regular, table_changes, size_of, largest_of, stored_of, linked_of, helps_of, Sweeps, SeekChanges, LinkChanges, StoreChanges, LacksSegment, Doubles, seek_answer, link_answer_of, store_answer, double_answer}
use Rattle.boost_core.specs.Steps.{HelperStep}
use Rattle.map_ops.specs.Double.{Double as Doubled}
use Rattle.map_ops.specs.InitSeek.{InitSeek as Sought}
use Rattle.map_ops.specs.InitLink.{InitLink as Linked}

-- The answer to the step `Sweep`, given the outcome that the table reports.
abbrev pub swept : SweepOutcome → Answer
swept SweepOutcome.Swept = Answer.Swept
swept SweepOutcome.Clean = Answer.Clean

abbrev pub answer_to_seek : Result Sought Refusal → Answer
answer_to_seek (Ok Sought.Ready) = Answer.Ready
answer_to_seek (Ok Sought.Placed) = Answer.Placed
answer_to_seek (Err refusal) = Answer.Refused refusal

abbrev pub linked : Result Linked Refusal → Answer
linked (Ok Linked.Again) = Answer.Again
linked (Ok Linked.Present) = Answer.Present
linked (Ok Linked.Linked) = Answer.Linked
linked (Err refusal) = Answer.Refused refusal

abbrev pub stored : Result Unit Refusal → Answer
stored (Ok done) = Answer.Stored
stored (Err refusal) = Answer.Refused refusal

abbrev pub doubled : Doubled → Answer
doubled (Doubled.Moved size) = Answer.Moved size
doubled Doubled.AtLimit = Answer.AtLimit
doubled Doubled.Light = Answer.Light
doubled (Doubled.Doubled size) = Answer.Doubled size

-- A sweep unlinks the first marked node and changes nothing else. If no node is marked, it changes
-- nothing.
pub record Sweeping (t t' : TableAt) (answer : Answer) : Type 0 where
  pub outcome : SweepOutcome
  pub answer_is : answer ≡ swept outcome
  pub clean : (outcome ≡ SweepOutcome.Clean) ↔ IsClean t
  pub sweeps : Sweeps t t' outcome
  pub keeps : KeepsTable t t'
  pub spares : KeepsSpares t t'
  pub stays : outcome ≡ SweepOutcome.Clean → table_changes t' ≡ table_changes t

-- A helper seeks the position of a bucket's dummy, and its step has this answer.
pub record Seeking (t t' : TableAt) (h b : ℕ) (answer : Answer) : Type 0 where
  pub outcome : Result Sought Refusal
  pub answer_is : answer ≡ answer_to_seek outcome
  pub says : outcome ≡ seek_answer (size_of t) (stored_of t) (slice_get (helps_of t) h) b
  pub changes : SeekChanges t t' h b outcome
  pub regular : regular t' ≡ regular t
  pub linked : linked_of t' ≡ linked_of t

-- A helper links the dummy whose position it sought, and its step has this answer.
pub record Linking (t t' : TableAt) (h : ℕ) (answer : Answer) : Type 0 where
  pub outcome : Result Linked Refusal
  pub answer_is : answer ≡ linked outcome
  pub says : outcome ≢ Err Refusal.NoMemory → outcome ≡ link_answer_of t h
  pub no_memory : outcome ≡ Err Refusal.NoMemory → link_answer_of t h ≡ Ok Linked.Linked
  pub unmoved : (bucket : ℕ)
      → slice_get (helps_of t) h ≡ Some (Help.Sought bucket (table_changes t))
      → table_changes t < 2 ^ 64 - 1 → outcome ≢ Ok Linked.Again
  pub changes : LinkChanges t t' h outcome
  pub regular : regular t' ≡ regular t

-- A helper stores its dummy as the dummy of a bucket, and its step has this answer.
pub record Storing (t t' : TableAt) (h : ℕ) (answer : Answer) : Type 0 where
  pub outcome : Result Unit Refusal
  pub answer_is : answer ≡ stored outcome
  pub says : outcome ≢ Err Refusal.NoMemory → outcome ≡ store_answer (slice_get (helps_of t) h)
  pub no_memory : outcome ≡ Err Refusal.NoMemory → store_answer (slice_get (helps_of t) h) ≡ Ok tt
  pub lacks : (bucket : ℕ) → slice_get (helps_of t) h ≡ Some (Help.Dummy bucket)
      → outcome ≡ Err Refusal.NoMemory → LacksSegment (stored_of t) bucket
  pub changes : StoreChanges t t' h outcome
  pub list : KeepsList t t'

-- The table's size is doubled, or the answer says why it is not.
pub record Doubling (t t' : TableAt) (seen : ℕ) (answer : Answer) : Type 0 where
  pub outcome : Doubled
  pub answer_is : answer ≡ doubled outcome
  pub says : outcome ≡ double_answer (size_of t) (largest_of t) (count_of (content t)) seen
  pub changes : Doubles t t' outcome
  pub list : KeepsList t t'

-- The answer to a step that belongs to no caller, and its effect on the table.
abbrev pub Serves : HelperStep → TableAt → Answer → TableAt → Type 0
Serves HelperStep.Sweep t answer t' = Sweeping t t' answer
Serves (HelperStep.InitSeek h b) t answer t' = Seeking t t' h b answer
Serves (HelperStep.InitLink h) t answer t' = Linking t t' h answer
Serves (HelperStep.InitStore h) t answer t' = Storing t t' h answer
Serves (HelperStep.Double seen) t answer t' = Doubling t t' seen answer
