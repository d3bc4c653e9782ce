-- What the answers to steps depend on.
use Rattle.std.specs.Prelude.{◌≡◌, ℕ, ◌*◌, ◌-◌, ◌^◌, ◌==◌, Bool, true, false, not, nat_lt, ◌&&◌, Option, Some, None}
use Rattle.boost_core.specs.Vocabulary.{Answer, Entry, Map, count_of, reply_of, now, Phase, Waiting, LeavingTo, LeavingToEnd, is_locked}
use Rattle.boost_core.specs.State.{State, Owner, Caller, Helper, caller_changes, help_in, helper_changes, holder_by}

abbrev pub is_same_owner : Owner → Owner → Bool
is_same_owner (Caller c) (Caller d) = c == d
is_same_owner (Helper h) (Helper i) = h == i
is_same_owner owner other = false

-- Whether the last move placed the cursor of this owner.
abbrev pub is_just_placed : Owner → Option Owner → Bool
is_just_placed owner None = false
is_just_placed owner (Some other) = is_same_owner owner other

-- The list's change number that an owner's cursor noted, if the owner has a cursor.
abbrev pub owner_changes : State → Owner → Option ℕ
owner_changes state (Caller c) = caller_changes state.cursors c
owner_changes state (Helper h) = helper_changes (help_in state.helpers h)

-- Whether a cursor may turn out not to fit. It certainly fits if the last move placed it. It also
-- fits if the list's change number is below 2^64 - 1 and still equals the number that the cursor
-- noted.
abbrev pub may_be_stale : State → Owner → Bool
may_be_stale state owner = elim (owner_changes state owner) [
  | None ↦ false
  | Some noted ↦
      not (is_just_placed owner state.placed)
      && not (noted == state.changes && nat_lt noted (2 ^ 64 - 1))
]

abbrev pub IsReply : Phase → Map → Option ℕ → Type 0
IsReply (Waiting op) m reply = reply ≡ reply_of m op
IsReply phase m reply = ⊥

abbrev pub is_back_at : ℕ → Phase → Bool
is_back_at n (LeavingTo m) = n == m
is_back_at n phase = false

abbrev pub is_at_end : Phase → Bool
is_at_end LeavingToEnd = true
is_at_end phase = false

-- The answer to the step that ends the undoing, for a caller in this phase.
abbrev pub end_answer : Phase → Answer
end_answer (LeavingTo n) = Answer.Returned n
end_answer phase = Answer.Aborted

abbrev pub may_grow : State → ℕ → Bool
may_grow state seen = state.size == seen && not (state.size == state.limits.buckets)

abbrev pub is_crowded : State → Bool
is_crowded state = nat_lt (2 * state.size) (count_of (now state.history))

-- Whether the rule of locks allows this entry after the state's history.
abbrev pub may_stand : State → Entry → Bool
may_stand state e = is_locked (holder_by state.words) state.limits.stripes state.history e
