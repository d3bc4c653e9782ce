-- Moves of the machine, given a step's changes to the table and to one caller's side.
use Rattle.std.proofs.Common.{◌≡◌, ℕ, ◌++◌, append-nil, List, [], set, Option, Some, None, refl, sym, ap, subst, ◌∙◌, ◌-◌, ◌^◌, ◌<◌, ◌==◌, ◌&&◌, Bool, true, false, map, nat_lt, not, slice_get, slice_set, eq-eqb, eqb-true, ltb-true, inl, inr, option_map}
use Rattle.boost_core.proofs.Vocabulary.{and_parts, cases_Bool, get_or_from_slice_get, Entry, Refusal, Step, Answer, map-set, Refused, cursor_changes, TableAt, KeepsBuckets, size_of, stored_of, linked_of, helps_of, table_changes, last_of, Counts, Begin, entries_of, Session, State, Owner, Caller, Helper, owner_changes, is_just_placed, may_be_stale, refusal_of, MayLack, Move, World, state_of, session_changes, nodes_at, gap_by, helper_gaps_of}
use Rattle.std.proofs.Math.Seq.{map-set_same}
use Rattle.boost_core.specs.Machine.{after}

-- If a test refuses a step, this refusal is a move that leaves the state unchanged.
pub refused : (state : State) (step : Step) (refusal : Refusal) → refusal_of state step ≡ Some refusal → Move state step (Refused refusal) state
refused state step refusal is = record { allowed = inl is; state = refl }

pub lacks : (state : State) (step : Step) (refusal : Refusal) → refusal_of state step ≡ None → MayLack state step refusal → Move state step (Refused refusal) state
lacks state step refusal free lack = record { allowed = inr (free, lack); state = refl }

-- A refusal adds no entry.
no_entries : (step : Step) (refusal : Refusal) → entries_of step (Refused refusal) ≡ []
no_entries (Begin c) refusal = refl
no_entries step refusal = refl

pub refused_over : (state : State) (step : Step) (refusal : Refusal) → state.history ≡ state.history ++ entries_of step (Refused refusal)
refused_over state step refusal = sym (ap (λ es. state.history ++ es) (no_entries step refusal) ∙ append-nil state.history)

-- A move adds the entries of its step to the history, and changes neither the limits nor whether
-- stripes are words.
pub record GoesOver (old new : State) (step : Step) (answer : Answer) : Type 0 where
  pub history : new.history ≡ old.history ++ entries_of step answer
  pub limits : new.limits ≡ old.limits
  pub words : new.words ≡ old.words

after_over : (state : State) (step : Step) (answer : Answer) (changes stamp : ℕ) → GoesOver state (after state step answer changes stamp) step answer
after_over state step (Refused refusal) changes stamp = record { history = refused_over state step refusal; limits = refl; words = refl }
after_over state step answer changes stamp = record { history = refl; limits = refl; words = refl }

pub move_over : (old new : State) (step : Step) (answer : Answer) → Move old step answer new → GoesOver old new step answer
move_over old new step answer move =
    let over = after_over old step answer new.changes new.stamp in record {
      history = ap (λ (s : State). s.history) move.state ∙ over.history;
      limits = ap (λ (s : State). s.limits) move.state ∙ over.limits;
      words = ap (λ (s : State). s.words) move.state ∙ over.words;
    }

-- The state after a step that leaves size, buckets and helpers unchanged.
pub state_is : (w : World) (h' h'' : List Entry) (counts' : Counts) (t' : TableAt) (cursors : List (Option ℕ)) (sessions' : List Session) (locks' : List (Option ℕ)) (placed' : Option Owner) → KeepsBuckets w.table t' → linked_of t' ≡ linked_of w.table → h' ≡ h'' → map session_changes sessions' ≡ cursors
    → state_of (record { limits = w.limits; history = h'; counts = counts'; table = t'; sessions = sessions'; locks = locks'; placed = placed'; words = w.words })
    ≡ record { limits = w.limits; words = w.words; history = h''; size = size_of w.table; stored = stored_of w.table; linked = linked_of w.table; nodes = nodes_at t'; changes = table_changes t'; stamp = last_of t'; cursors = cursors; gaps = map (gap_by t') sessions'; helper_gaps = helper_gaps_of t'; helpers = helps_of w.table; placed = placed' }
state_is w h' h'' counts' t' cursors sessions' locks' placed' buckets linked entries same = λ i. record { limits = w.limits; words = w.words; history = entries i; size = buckets.size i; stored = buckets.stored i; linked = linked i; nodes = nodes_at t'; changes = table_changes t'; stamp = last_of t'; cursors = same i; gaps = map (gap_by t') sessions'; helper_gaps = helper_gaps_of t'; helpers = buckets.helps i; placed = placed' }

-- The given state, but with the nodes of the table, and with the nodes that are beside the cursors
-- of callers and helpers in that table.
abbrev pub with_nodes : TableAt → List Session → State → State
with_nodes t sessions s = record s { nodes = nodes_at t; gaps = map (gap_by t) sessions; helper_gaps = helper_gaps_of t }

-- If one caller's cursor is set or dropped, only the change number of this caller's cursor changes.
pub changes_set : (sessions : List Session) (c : ℕ) (y : Session) (noted : Option ℕ) → session_changes y ≡ noted → map session_changes (slice_set sessions c y) ≡ slice_set (map session_changes sessions) c noted
changes_set sessions c y noted is = map-set session_changes sessions c y ∙ ap (set (map session_changes sessions) c) is

pub changes_same : (sessions : List Session) (c : ℕ) (x y : Session) → slice_get sessions c ≡ Some x → session_changes y ≡ session_changes x → map session_changes (slice_set sessions c y) ≡ map session_changes sessions
changes_same sessions c x y at same = map-set_same session_changes sessions c y x (same ∙ ap session_changes (sym (get_or_from_slice_get sessions c x x at)))

-- If a caller has no cursor, dropping its cursor changes nothing.
pub none_dropped : (sessions : List Session) (c : ℕ) (x : Session) → slice_get sessions c ≡ Some x → x.cursor ≡ None
    → slice_set (map session_changes sessions) c None ≡ map session_changes sessions
none_dropped sessions c x at none =
    sym (changes_set sessions c x None (ap (option_map cursor_changes) none)) ∙ changes_same sessions c x x at refl

-- Let one caller's side change while the nodes beside its cursor stay the same. Then the nodes
-- beside all callers' cursors are unchanged.
pub gaps_same : (t : TableAt) (sessions : List Session) (c : ℕ) (x y : Session) → slice_get sessions c ≡ Some x → gap_by t y ≡ gap_by t x → map (gap_by t) (slice_set sessions c y) ≡ map (gap_by t) sessions
gaps_same t sessions c x y at same = map-set_same (gap_by t) sessions c y x (same ∙ ap (gap_by t) (sym (get_or_from_slice_get sessions c x x at)))

-- If two states are equal, a move from one is a move from the other.
pub move_of : (state old new : State) (step : Step) (answer : Answer) → state ≡ old → Move state step answer new → Move old step answer new
move_of state old new step answer is move = subst (λ s. Move s step answer new) is move

-- If nothing refuses a step in a state, nothing refuses the step in an equal state.
pub none_of : (state old : State) (step : Step) (r : Option Refusal) → state ≡ old → r ≡ refusal_of old step → r ≡ None → refusal_of state step ≡ None
none_of state old step r is says none = ap (λ (s : State). refusal_of s step) is ∙ sym says ∙ none

-- Returns true if a cursor that noted this change number may be stale.
abbrev stale_if : State → Owner → Option ℕ → Bool
stale_if state owner o = elim o as (λ _. Bool) [
  | None ↦ false
  | Some noted ↦ not (is_just_placed owner state.placed) && not (noted == state.changes && nat_lt noted (2 ^ 64 - 1))
]

-- The cursor that was placed last is not stale.
pub just_placed : (state : State) (owner : Owner) → state.placed ≡ Some owner → may_be_stale state owner ≡ false
just_placed state owner placed = at (owner_changes state owner)
  where
    own : (owner : Owner) → is_just_placed owner (Some owner) ≡ true
    own (Caller c) = eq-eqb c c refl
    own (Helper h) = eq-eqb h h refl

    at : (o : Option ℕ) → stale_if state owner o ≡ false
    at None = refl
    at (Some noted) =
        ap (λ b. not b && not (noted == state.changes && nat_lt noted (2 ^ 64 - 1))) (ap (is_just_placed owner) placed ∙ own owner)

-- A cursor that was not placed last may be stale in two cases: the change number is no longer the
-- one that the cursor noted, or it has reached its maximum.
pub stale_since : (state : State) (owner : Owner) (noted : ℕ) → owner_changes state owner ≡ Some noted
    → is_just_placed owner state.placed ≡ false → (noted ≡ state.changes → noted < 2 ^ 64 - 1 → ⊥) → may_be_stale state owner ≡ true
stale_since state owner noted had not_placed moved =
    ap (stale_if state owner) had ∙ (λ i. not (not_placed i) && not (elsewhere i))
  where
    elsewhere : (noted == state.changes && nat_lt noted (2 ^ 64 - 1)) ≡ false
    elsewhere = elim (cases_Bool (noted == state.changes && nat_lt noted (2 ^ 64 - 1))) [
      | inr is ↦ is
      | inl is ↦
          let parts = and_parts (noted == state.changes) (nat_lt noted (2 ^ 64 - 1)) is in
          absurd (moved (eqb-true noted state.changes parts.0) (ltb-true noted (2 ^ 64 - 1) parts.1))
    ]
