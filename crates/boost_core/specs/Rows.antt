-- PROMISES each-step-is-a-move-of-the-machine: row_of
-- What the steps of the machine do: one row for each step with each answer that is not a refusal.
-- `Entries.antt` of `txn_words` says which entry it adds to the history.
use Rattle.std.specs.Prelude.{◌≡◌, ℕ, ◌+◌, ◌*◌, ◌==◌, ◌&&◌, ◌||◌, not, IsTrue, length, slice_set, Option, Some, None, if◌then◌else◌}
use Rattle.boost_core.specs.Vocabulary.{may_change, regular_at, dummy_at, is_began, is_commit, how_many, Op, Step, Begin, Ask, Seek, Act, Save, Back, Commit, Abort, Sweep, InitSeek, InitLink, InitStore, Double, Answer, now, log_of, parent_of}
use Rattle.txn_words.specs.declared.entry.Entry.TheVariants as entries
use Rattle.txn_words.specs.declared.answer.Answer.TheVariants.{Began, Asked, Busy, Placed, Again, Done, Undone, Returned, Aborted, Saved, Leaving, Committed, Swept, Clean, Ready, Present, Linked, Stored, Moved, AtLimit, Light, Doubled}
use Rattle.boost_core.specs.State.{State, Owner, Caller, Helper, Help, Nothing, Sought, Dummy, stance_in, gap_for, bucket_of, is_set, with_bucket}
use Rattle.boost_core.specs.Refusals.{has_job, has_target, has_stamp, has_stamp_for, lacks_dummy}
use Rattle.boost_core.specs.Answers.{may_be_stale, may_stand, may_grow, is_crowded, is_back_at, is_at_end, IsReply}
use Rattle.boost_core.specs.Nodes.{LeavesNodes, Links, Sweeps, SeeksFrom, SeeksKey, OpDoesIn, BackDoes, IsClean, StandsAt, HasFit, next_key}

-- What a step with an answer does.
pub record Row : Type 1 where
  -- The state allows the answer, if nothing refuses the step.
  pub Allows : State → Type 0
  -- The size, the buckets, the cursors and the helpers after the step, as parts of a state. The
  -- number is the list's change number after the step.
  pub leaves : State → ℕ → State
  -- The effect on the linked nodes and on the change number.
  pub Touches : State → State → Type 0
  -- The last stamp after the step.
  pub stamps : ℕ → ℕ
  -- Which cursor must fit before the step, and which one fits after it.
  pub Fits : State → State → Type 0
  -- The owner of the cursor that the step placed, if it placed one.
  pub placed : Option Owner

-- A row that adds only an entry to the history.
abbrev quiet : Row
quiet = record {
  Allows = λ state. Unit {0};
  leaves = λ state changes. state;
  Touches = LeavesNodes;
  stamps = λ stamp. stamp;
  Fits = λ old new. Unit {0};
  placed = None;
}

-- The row of an answer that a step never has.
abbrev never : Row
never = record quiet { Allows = λ state. ⊥ }

-- The state with this cursor of the caller `c`. `noted` is the change number that the cursor noted,
-- or None if the caller has no cursor.
abbrev pub with_cursor : State → ℕ → Option ℕ → State
with_cursor state c noted = record state { cursors = slice_set state.cursors c noted }

abbrev pub with_help : State → ℕ → Help → State
with_help state h help = record state { helpers = slice_set state.helpers h help }

-- The caller drops its cursor.
abbrev drops : ℕ → Row
drops c = record quiet { leaves = λ state changes. with_cursor state c None }

-- Asking for an operation that takes a node gives a stamp.
abbrev asks : Op → Row
asks op = record quiet { stamps = λ stamp. if may_change op then stamp + 1 else stamp }

-- A row has only what is not so for every step (`quiet`). `Asked` means that the operation's stripe
-- is free or is the caller's own, and `Busy` that it is held by the caller that the answer names.
-- After `Again` an owner has no cursor, since its cursor no longer fits. With `Returned` the caller
-- has taken back every change above the level, with `Aborted` all its changes.
abbrev pub row_of : Step → Answer → Row
row_of (Begin c) (Began t) = record quiet {
  Allows = λ state. t ≡ how_many is_began state.history + 1;
}
row_of (Ask c op) Asked = record (asks op) {
  Allows = λ state. IsTrue (has_stamp_for state op && may_stand state (entries.Asked c op));
}
row_of (Ask c op) (Busy x) = record (asks op) {
  Allows = λ state.
      IsTrue ((state.words || has_stamp_for state op) && may_stand state (entries.Busy c op x));
}
row_of (Seek c) Placed = record quiet {
  leaves = λ state changes. with_cursor state c (Some changes);
  Touches = λ old new. SeeksKey old new (next_key old c);
  Fits = λ old new. StandsAt new (Caller c) (regular_at (next_key old c));
  placed = Some (Caller c);
}
row_of (Act c) Again = record (drops c) {
  Allows = λ state.
      IsTrue (has_target (stance_in state.history c) && may_be_stale state (Caller c));
  Fits = λ old new. gap_for old (Caller c) ≡ None;
}
row_of (Act c) (Done reply) = record (drops c) {
  Allows = λ state. IsReply (stance_in state.history c).phase (now state.history) reply;
  Touches = λ old new. OpDoesIn old new (stance_in old.history c).phase;
  Fits = λ old new. HasFit old (Caller c);
}
row_of (Act c) Undone = record (drops c) {
  Allows = λ state. IsTrue (has_job (stance_in state.history c));
  Touches = λ old new. BackDoes old new (log_of c old.history);
  Fits = λ old new. HasFit old (Caller c);
}
row_of (Act c) (Returned n) = record quiet {
  Allows = λ state. IsTrue
      (not (has_job (stance_in state.history c)) && is_back_at n (stance_in state.history c).phase);
}
row_of (Act c) Aborted = record quiet {
  Allows = λ state. IsTrue
      (not (has_job (stance_in state.history c)) && is_at_end (stance_in state.history c).phase);
}
row_of (Save c) (Saved n) = record quiet {
  Allows = λ state. n ≡ length (stance_in state.history c).kept;
}
row_of (Back c n) Leaving = drops c
row_of (Commit c) (Committed p) = record quiet {
  Allows = λ state. p ≡ how_many is_commit state.history + 1;
}
row_of (Abort c) Leaving = drops c
row_of Sweep Swept = record quiet { Touches = Sweeps }
row_of Sweep Clean = record quiet { Touches = λ old new. IsClean old.nodes × LeavesNodes old new }
row_of (InitSeek h b) Ready = record quiet {
  Allows = λ state. IsTrue (is_set state.stored b);
  leaves = λ state changes. with_help state h Nothing;
}
row_of (InitSeek h b) Placed = record quiet {
  Allows = λ state. IsTrue (not (is_set state.stored b));
  leaves = λ state changes. with_help state h (Sought b changes);
  Touches = λ old new. SeeksFrom old new (parent_of b) (dummy_at b);
  Fits = λ old new. StandsAt new (Helper h) (dummy_at b);
  placed = Some (Helper h);
}
row_of (InitLink h) Again = record quiet {
  Allows = λ state. IsTrue (may_be_stale state (Helper h));
  leaves = λ state changes. with_help state h Nothing;
  Fits = λ old new. gap_for old (Helper h) ≡ None;
}
row_of (InitLink h) Present = record quiet {
  Allows = λ state. IsTrue (not (lacks_dummy state h));
  leaves = λ state changes. with_help state h (Dummy (bucket_of state h));
  Fits = λ old new. HasFit old (Helper h);
}
row_of (InitLink h) Linked = record quiet {
  Allows = λ state. IsTrue (lacks_dummy state h && has_stamp state);
  leaves = λ state changes. record (with_help state h (Dummy (bucket_of state h))) {
    linked = with_bucket state.linked (bucket_of state h);
  };
  Touches = λ old new. Links old new (dummy_at (bucket_of old h));
  stamps = λ stamp. stamp + 1;
  Fits = λ old new. HasFit old (Helper h);
}
row_of (InitStore h) Stored = record quiet {
  leaves = λ state changes. record (with_help state h Nothing) {
    stored = with_bucket state.stored (bucket_of state h);
  };
}
row_of (Double seen) (Moved size) = record quiet {
  Allows = λ state. (size ≡ state.size) × IsTrue (not (state.size == seen));
}
row_of (Double seen) AtLimit = record quiet {
  Allows = λ state. IsTrue (state.size == seen && state.size == state.limits.buckets);
}
row_of (Double seen) Light = record quiet {
  Allows = λ state. IsTrue (may_grow state seen && not (is_crowded state));
}
row_of (Double seen) (Doubled size) = record quiet {
  Allows = λ state. (size ≡ 2 * state.size) × IsTrue (may_grow state seen && is_crowded state);
  leaves = λ state changes. record state { size = size };
}
row_of step answer = never
