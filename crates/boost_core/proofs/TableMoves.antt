-- Shows that each step of the table or of a helper is a move that keeps the core's invariants,
-- because pairs, spares, the largest size and the number of helpers stay as they are.
use Rattle.std.proofs.Common.{◌≡◌, ◌≢◌, ℕ, ◌&&◌, Bool, true, false, cond, List, [], ◌++◌, length, Option, Some, None, Result, Ok, Err, refl, sym, ap, ◌∙◌, arith, slice_get, slice_set, unwrap_or, map, nat_le, not, le-leb, append-nil, inl, inr}
use Rattle.boost_core.proofs.Vocabulary.{cases_lt, slice_get_within, slice_get-get_or, unwrap_or-slice_get, InitSeek, Refusal, Step, Answer, InitRefusal, is_stored, answer_for, seek_answer, store_answer, LacksSegment, TableAt, Help, Nothing, Sought, Dummy, Follows, KeepsTable, KeepsList, KeepsSpares, map_of, regular, size_of, stored_of, linked_of, helps_of, table_changes, last_of, largest_of, State, Owner, Helper, is_set, help_in, bucket_at, refusal_of, holds_dummy, Move, IsAllowed, World, Tells, LastPlacedFits, state_of, session_changes, all_times, Idle, Holding, with_helper, Seeks, Stores, HelperOutOfOrder, NoMemory, NoSuchBucket, NoSuchHelper, ParentMissing}
use Rattle.map_ops.specs.Buckets.{parent_of}
use Rattle.boost_core.specs.Machine.{after}
use Rattle.boost_core.proofs.Tables.{Becomes, help_is, idle_becomes, sought_becomes, stored_becomes}
use Rattle.boost_core.proofs.Spares.{still_covered}
use Rattle.boost_core.proofs.SideRefusals.{le_false}
use Rattle.boost_core.proofs.OneCaller.{table_stayed}
use Rattle.boost_core.proofs.Moves.{refused, lacks, state_is, with_nodes}
use Rattle.map_ops.specs.InitSeek.TheVariants as seeks
use Rattle.bucket_table.specs.declared.answer.InitRefusal.TheVariants as inits
use Rattle.txn_words.specs.declared.step.Step.TheVariants as steps
use Rattle.txn_words.specs.declared.answer.Answer.TheVariants as answers

-- The world after a step of the table or of a helper.
abbrev pub served : World → TableAt → Option Owner → World
served w t' placed' = record { limits = w.limits; history = w.history; counts = w.counts; table = t'; sessions = w.sessions; locks = w.locks; placed = placed'; words = w.words }

-- The invariants of a core still hold if the pairs, the spares, the largest size and the number of
-- helpers are unchanged.
pub tells_table : (w : World) → Tells w
    → (t' : TableAt) (placed' : Option Owner) → regular t' ≡ regular w.table → Follows w.table t' → KeepsSpares w.table t' → largest_of t' ≡ largest_of w.table → length (helps_of t') ≡ length (helps_of w.table) → LastPlacedFits t' w.sessions placed'
    → Tells (served w t' placed')
tells_table w tells t' placed' same follows spares largest helpers fresh =
    table_stayed w tells t' placed' (ap map_of same) (record { placed = follows.placed; sound = follows.list.sound })
    (still_covered w.table t' (all_times w.sessions) spares tells.spares) largest helpers fresh

-- The invariants of a core still hold after the step `Sweep`.
pub sweep_tells : (w : World) → Tells w
    → (t' : TableAt) → KeepsTable w.table t' → KeepsSpares w.table t' → Follows w.table t' → Tells (served w t' None)
sweep_tells w tells t' keeps spares follows =
    tells_table w tells t' None keeps.regular follows spares keeps.buckets.largest (ap length keeps.buckets.helps) tt

pub swept_move : (w : World) (t' : TableAt) → KeepsTable w.table t' → (answer : Answer) → IsAllowed (state_of w) steps.Sweep answer
    → after (state_of w) steps.Sweep answer (table_changes t') (last_of t') ≡ record (state_of w) { history = w.history ++ []; changes = table_changes t'; stamp = last_of t'; placed = None }
    → Move (state_of w) steps.Sweep answer (state_of (served w t' None))
swept_move w t' keeps answer allowed after_is = record {
  allowed = allowed;
  state = state_is w w.history (w.history ++ []) w.counts t' (map session_changes w.sessions) w.sessions w.locks None keeps.buckets keeps.linked (sym (append-nil w.history)) refl
      ∙ ap (with_nodes t' w.sessions) (sym after_is);
}

-- The invariants of a core still hold if only the buckets and the helpers change.
pub becomes_tells : (w : World) → Tells w
    → (t' : TableAt) (placed' : Option Owner) (size : ℕ) (stored linked : List Bool) (helps : List Help) → Becomes w.table t' size stored linked helps → length helps ≡ length (helps_of w.table) → Follows w.table t' → LastPlacedFits t' w.sessions placed'
    → Tells (served w t' placed')
becomes_tells w tells t' placed' size stored linked helps becomes many follows fresh =
    tells_table w tells t' placed' becomes.regular follows becomes.spares
    becomes.largest (ap length becomes.helps_is ∙ many) fresh

-- The state after the buckets and the helpers change, but with the old nodes.
abbrev pub became : World → TableAt → Option Owner → ℕ → List Bool → List Bool → List Help → State
became w t' placed' size stored linked helps = record (state_of w) {
  history = w.history ++ [];
  size = size;
  stored = stored;
  linked = linked;
  changes = table_changes t';
  stamp = last_of t';
  helpers = helps;
  placed = placed';
}

-- If the buckets and the helpers change, the new state is `became` with the nodes of the new table.
pub becomes_state : (w : World) (t' : TableAt) (placed' : Option Owner) (size : ℕ) (stored linked : List Bool) (helps : List Help)
    → Becomes w.table t' size stored linked helps → state_of (served w t' placed') ≡ with_nodes t' w.sessions (became w t' placed' size stored linked helps)
becomes_state w t' placed' size stored linked helps becomes = λ i.
    with_nodes t' w.sessions (record (became w t' placed' (becomes.size_is i) (becomes.stored_is i) (becomes.linked_is i) (becomes.helps_is i)) { history = sym (append-nil w.history) i })

-- A step on the buckets and the helpers is a move.
pub becomes_move : (w : World) (t' : TableAt) (placed' : Option Owner) (size : ℕ) (stored linked : List Bool) (helps : List Help)
    (step : Step) (answer : Answer) → Becomes w.table t' size stored linked helps → IsAllowed (state_of w) step answer
    → after (state_of w) step answer (table_changes t') (last_of t') ≡ became w t' placed' size stored linked helps
    → Move (state_of w) step answer (state_of (served w t' placed'))
becomes_move w t' placed' size stored linked helps step answer becomes allowed after_is = record {
  allowed = allowed;
  state = becomes_state w t' placed' size stored linked helps becomes ∙ ap (with_nodes t' w.sessions) (sym after_is);
}

-- The refusal in the result of a helper's step. None if the step is not refused.
abbrev pub refusal_in_result : {A : Type 0} → Result A Refusal → Option Refusal
refusal_in_result (Ok answer) = None
refusal_in_result (Err refusal) = Some refusal

-- A helper has the number `h` if and only if `h` is less than the number of helpers.
pub helper_there : (helps : List Help) (n h : ℕ) (help : Help) → length helps ≡ n → slice_get helps h ≡ Some help → nat_le n h ≡ false
helper_there helps n h help long is = le_false n h (omega (arith, long, slice_get_within helps h help is))

pub helper_none : (helps : List Help) (n h : ℕ) → length helps ≡ n → slice_get helps h ≡ None → nat_le n h ≡ true
helper_none helps n h long none = elim (cases_lt h (length helps)) [
  | inl within ↦ absurd (cc (sym none ∙ slice_get-get_or helps h Nothing within))
  | inr past ↦ le-leb n h (omega arith)
]

seek_tests : (large here above : Bool) → cond large (Some NoSuchBucket) (cond (not here && not above) (Some ParentMissing) None)
    ≡ refusal_in_result (answer_for (cond {A = Result InitSeek InitRefusal} large (Err inits.NoSuchBucket) (cond here (Ok seeks.Ready) (cond above (Ok seeks.Placed) (Err inits.ParentMissing)))))
seek_tests true here above = refl
seek_tests false true above = refl
seek_tests false false true = refl
seek_tests false false false = refl

pub is_set_is : (buckets : List Bool) (bucket : ℕ) → is_set buckets bucket ≡ is_stored buckets bucket
is_set_is buckets bucket = unwrap_or-slice_get buckets bucket false

pub seek_refusal : (w : World) (helper bucket : ℕ) → length (helps_of w.table) ≡ w.limits.callers
    → refusal_of (state_of w) (steps.InitSeek helper bucket) ≡ refusal_in_result (seek_answer (size_of w.table) (stored_of w.table) (slice_get (helps_of w.table) helper) bucket)
seek_refusal w helper bucket many = at (slice_get (helps_of w.table) helper) refl
  where
    at : (o : Option Help) → slice_get (helps_of w.table) helper ≡ o → refusal_of (state_of w) (steps.InitSeek helper bucket) ≡ refusal_in_result (seek_answer (size_of w.table) (stored_of w.table) o bucket)
    at None is = ap (λ b. cond b (Some NoSuchHelper) (cond (nat_le (size_of w.table) bucket) (Some NoSuchBucket) (cond (not (is_set (stored_of w.table) bucket) && not (is_set (stored_of w.table) (parent_of bucket))) (Some ParentMissing) None))) (helper_none (helps_of w.table) w.limits.callers helper many is)
    at (Some help) is =
        ap (λ b. cond b (Some NoSuchHelper) (cond (nat_le (size_of w.table) bucket) (Some NoSuchBucket) (cond (not (is_set (stored_of w.table) bucket) && not (is_set (stored_of w.table) (parent_of bucket))) (Some ParentMissing) None)))
        (helper_there (helps_of w.table) w.limits.callers helper help many is)
        ∙ (λ i. cond (nat_le (size_of w.table) bucket) (Some NoSuchBucket) (cond (not (is_set_is (stored_of w.table) bucket i) && not (is_set_is (stored_of w.table) (parent_of bucket) i)) (Some ParentMissing) None))
        ∙ seek_tests (nat_le (size_of w.table) bucket) (is_stored (stored_of w.table) bucket) (is_stored (stored_of w.table) (parent_of bucket))

seek_ready : (large here above : Bool) → answer_for (cond {A = Result InitSeek InitRefusal} large (Err inits.NoSuchBucket) (cond here (Ok seeks.Ready) (cond above (Ok seeks.Placed) (Err inits.ParentMissing)))) ≡ Ok seeks.Ready → here ≡ true
seek_ready false true above is = refl
seek_ready false false true is = absurd (cc (is))
seek_ready _ _ _ is = absurd (cc (is))

seek_placed : (large here above : Bool) → answer_for (cond {A = Result InitSeek InitRefusal} large (Err inits.NoSuchBucket) (cond here (Ok seeks.Ready) (cond above (Ok seeks.Placed) (Err inits.ParentMissing)))) ≡ Ok seeks.Placed → not here ≡ true
seek_placed false false above is = refl
seek_placed _ _ _ is = absurd (cc (is))

-- If a seek for a bucket's dummy is answered with `Ready`, the bucket is stored. If it is answered
-- with `Placed`, the bucket is not stored.
pub ready_stored : (t : TableAt) (o : Option Help) (bucket : ℕ) → seek_answer (size_of t) (stored_of t) o bucket ≡ Ok seeks.Ready → is_set (stored_of t) bucket ≡ true
ready_stored t None bucket is = absurd (cc (is))
ready_stored t (Some help) bucket is = is_set_is (stored_of t) bucket ∙ seek_ready (nat_le (size_of t) bucket) (is_stored (stored_of t) bucket) (is_stored (stored_of t) (parent_of bucket)) is

pub placed_not : (t : TableAt) (o : Option Help) (bucket : ℕ) → seek_answer (size_of t) (stored_of t) o bucket ≡ Ok seeks.Placed → not (is_set (stored_of t) bucket) ≡ true
placed_not t None bucket is = absurd (cc (is))
placed_not t (Some help) bucket is = ap not (is_set_is (stored_of t) bucket) ∙ seek_placed (nat_le (size_of t) bucket) (is_stored (stored_of t) bucket) (is_stored (stored_of t) (parent_of bucket)) is

pub seek_ready_move : (w : World) (t' : TableAt) (helper bucket : ℕ) → length (helps_of w.table) ≡ w.limits.callers
    → seek_answer (size_of w.table) (stored_of w.table) (slice_get (helps_of w.table) helper) bucket ≡ Ok seeks.Ready
    → t'.buckets ≡ with_helper w.table.buckets helper Idle → KeepsList w.table t'
    → Move (state_of w) (steps.InitSeek helper bucket) answers.Ready (state_of (served w t' None))
seek_ready_move w t' helper bucket many is idle list =
    becomes_move w t' None _ _ _ _ (steps.InitSeek helper bucket) answers.Ready (idle_becomes w.table t' helper idle list)
    (seek_refusal w helper bucket many ∙ ap refusal_in_result is, ready_stored w.table (slice_get (helps_of w.table) helper) bucket is) refl

pub seek_placed_move : (w : World) (t' : TableAt) (helper bucket : ℕ) → length (helps_of w.table) ≡ w.limits.callers
    → seek_answer (size_of w.table) (stored_of w.table) (slice_get (helps_of w.table) helper) bucket ≡ Ok seeks.Placed
    → Seeks w.table.buckets t'.buckets w.table.list t'.list helper bucket
    → regular t' ≡ regular w.table → linked_of t' ≡ linked_of w.table
    → Move (state_of w) (steps.InitSeek helper bucket) answers.Placed (state_of (served w t' (Some (Helper helper))))
seek_placed_move w t' helper bucket many is sought same linked =
    becomes_move w t' (Some (Helper helper)) _ _ _ _ (steps.InitSeek helper bucket) answers.Placed (sought_becomes w.table t' helper bucket sought same linked)
    (seek_refusal w helper bucket many ∙ ap refusal_in_result is, placed_not w.table (slice_get (helps_of w.table) helper) bucket is) refl

-- If a test refuses a helper's step and the table is unchanged, the refusal is a move of the
-- machine.
pub helper_refused : (w : World) (t' : TableAt) (step : Step) (refusal : Refusal) → t' ≡ w.table → refusal_of (state_of w) step ≡ Some refusal
    → Move (state_of w) step (answers.Refused refusal) (state_of (served w t' w.placed))
helper_refused w t' step refusal same is = rw same (refused (state_of w) step refusal is)

-- The tests of the step `InitStore` give the same refusal as `store_answer` gives for the helper.
pub store_refusal : (w : World) (helper : ℕ) → length (helps_of w.table) ≡ w.limits.callers
    → refusal_of (state_of w) (steps.InitStore helper) ≡ refusal_in_result (store_answer (slice_get (helps_of w.table) helper))
store_refusal w helper many = at (slice_get (helps_of w.table) helper) refl
  where
    held : (help : Help) → cond (not (holds_dummy help)) (Some HelperOutOfOrder) None ≡ refusal_in_result (store_answer (Some help))
    held Nothing = refl
    held (Sought bucket noted) = refl
    held (Dummy bucket) = refl

    at : (o : Option Help) → slice_get (helps_of w.table) helper ≡ o → refusal_of (state_of w) (steps.InitStore helper) ≡ refusal_in_result (store_answer o)
    at None is = ap (λ b. cond b (Some NoSuchHelper) (cond (not (holds_dummy (help_in (helps_of w.table) helper))) (Some HelperOutOfOrder) None)) (helper_none (helps_of w.table) w.limits.callers helper many is)
    at (Some help) is =
        ap (λ b. cond b (Some NoSuchHelper) (cond (not (holds_dummy (help_in (helps_of w.table) helper))) (Some HelperOutOfOrder) None)) (helper_there (helps_of w.table) w.limits.callers helper help many is)
        ∙ ap (λ (o : Option Help). cond (not (holds_dummy (unwrap_or o Nothing))) (Some HelperOutOfOrder) None) is ∙ held help

-- If the step `InitStore` lacks memory, no bucket of the helper's segment is stored.
store_lacks : (w : World) (helper : ℕ) (o : Option Help) → slice_get (helps_of w.table) helper ≡ o → store_answer o ≡ Ok tt
    → ((bucket : ℕ) → slice_get (helps_of w.table) helper ≡ Some (Dummy bucket) → LacksSegment (stored_of w.table) bucket) → LacksSegment (stored_of w.table) (bucket_at (help_in (helps_of w.table) helper))
store_lacks w helper (Some (Dummy bucket)) is answer lacks = rw is (lacks bucket is)
store_lacks w helper _ is answer lacks = absurd (cc answer)

pub store_refused_move : (w : World) (t' : TableAt) (helper : ℕ) → length (helps_of w.table) ≡ w.limits.callers → (result : Result Unit Refusal) → (result ≢ Err NoMemory → result ≡ store_answer (slice_get (helps_of w.table) helper))
    → (result ≡ Err NoMemory → store_answer (slice_get (helps_of w.table) helper) ≡ Ok tt) → ((bucket : ℕ) → slice_get (helps_of w.table) helper ≡ Some (Dummy bucket) → result ≡ Err NoMemory → LacksSegment (stored_of w.table) bucket)
    → (refusal : Refusal) → result ≡ Err refusal → t' ≡ w.table → Move (state_of w) (steps.InitStore helper) (answers.Refused refusal) (state_of (served w t' w.placed))
store_refused_move w t' helper many result says no_memory lacking NoMemory is same =
    rw same
    (lacks (state_of w) (steps.InitStore helper) NoMemory (store_refusal w helper many ∙ ap refusal_in_result (no_memory is)) (store_lacks w helper (slice_get (helps_of w.table) helper) refl (no_memory is) (λ bucket had. lacking bucket had is)))
store_refused_move w t' helper many result says no_memory lacking refusal is same =
    helper_refused w t' (steps.InitStore helper) refusal same
    (store_refusal w helper many ∙ ap refusal_in_result (sym (says (λ e. cc (is, e))) ∙ is))

pub stored_move : (w : World) (t' : TableAt) (helper : ℕ) → length (helps_of w.table) ≡ w.limits.callers
    → store_answer (slice_get (helps_of w.table) helper) ≡ Ok tt → Stores w.table.buckets t'.buckets helper → KeepsList w.table t'
    → Move (state_of w) (steps.InitStore helper) answers.Stored (state_of (served w t' None))
stored_move w t' helper many is stores list =
    becomes_move w t' None _ _ _ _ (steps.InitStore helper) answers.Stored (stored_becomes w.table t' helper stores list)
    (store_refusal w helper many ∙ ap refusal_in_result is, tt)
    (ap (λ (o : Option Help). became w t' None (size_of w.table) (slice_set (stored_of w.table) (bucket_at (unwrap_or o Nothing)) true)
    (linked_of w.table) (slice_set (helps_of w.table) helper Nothing))
    (help_is w.table helper (Holding stores.bucket stores.place) stores.had))
