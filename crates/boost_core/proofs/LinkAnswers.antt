-- Shows that each answer to `InitLink` is a move of the machine, because the table tests the
-- cursor, the dummy and the stamps in the same order as the machine.
use Rattle.std.proofs.Common.{◌≡◌, ◌≢◌, ℕ, ◌-◌, ◌^◌, ◌<◌, ◌==◌, Bool, true, false, cond, length, Option, Some, None, Result, Ok, Err, is_some, refl, sym, ap, subst, ◌∙◌, slice_get, slice_set, unwrap_or, nat_le, not, ne_eqb, inl, inr}
use Rattle.boost_core.proofs.Vocabulary.{false≢true, cases_eq, and_from, InitLink, Refusal, InitRefusal, is_stored, answer_for, link_answer, helper_fits, link_answer_of, Idle, Seeking, with_helper, HoldsDummy, LinksDummy, TableAt, Help, Nothing, Sought, Dummy, HasParents, KeepsList, regular, size_of, stored_of, linked_of, helps_of, table_changes, last_of, State, Owner, Caller, Helper, is_set, help_in, bucket_at, helper_changes, refusal_of, has_cursor, has_stamp, lacks_dummy, is_just_placed, may_be_stale, Move, World, LastPlacedFits, state_of, HelperOutOfOrder, NoMemory, NoSuchHelper, StampsUsedUp}
use Rattle.list_steps.specs.Found.{change_number_of}
use Rattle.boost_core.proofs.Moves.{refused, lacks, stale_since}
use Rattle.boost_core.proofs.Tables.{help_is, idle_becomes, held_becomes, linked_becomes}
use Rattle.boost_core.proofs.TableMoves.{served, became, becomes_move, helper_there, helper_none, is_set_is}
use Rattle.map_ops.specs.InitLink.TheVariants as links
use Rattle.bucket_table.specs.declared.answer.InitRefusal.TheVariants as inits
use Rattle.txn_words.specs.declared.step.Step.TheVariants as steps
use Rattle.txn_words.specs.declared.answer.Answer.TheVariants as answers

-- The refusal of the step `InitLink`, if a test refuses the step. A lack of memory or of stamps is
-- found only after all tests, so it is not such a refusal.
abbrev pub refusal_by_test : Result InitLink Refusal → Option Refusal
refusal_by_test (Err NoMemory) = None
refusal_by_test (Err StampsUsedUp) = None
refusal_by_test (Err refusal) = Some refusal
refusal_by_test (Ok answer) = None

-- The result of the step `InitLink` if the helper has a cursor. The arguments say whether the
-- cursor fits, whether the dummy is linked already, and whether the stamps are used up.
abbrev linking : Bool → Bool → Bool → Result InitLink Refusal
linking fitting there used = answer_for (cond {A = Result InitLink InitRefusal} (not fitting) (Ok links.Again) (cond there (Ok links.Present) (cond used (Err inits.StampsUsedUp) (Ok links.Linked))))

linking_test : (fitting there used : Bool) → None ≡ refusal_by_test (linking fitting there used)
linking_test false there used = refl
linking_test true true used = refl
linking_test true false true = refl
linking_test true false false = refl

-- What a result of the step `InitLink` says about the arguments of `linking`.
abbrev Says : Result InitLink Refusal → Bool → Bool → Bool → Type 0
Says (Ok links.Again) fitting there used = fitting ≡ false
Says (Ok links.Present) fitting there used = there ≡ true
Says (Ok links.Linked) fitting there used = (there ≡ false) × (used ≡ false)
Says (Err StampsUsedUp) fitting there used = (there ≡ false) × (used ≡ true)
Says (Err refusal) fitting there used = Unit {0}

linking_says : (fitting there used : Bool) → Says (linking fitting there used) fitting there used
linking_says false there used = refl
linking_says true true used = refl
linking_says true false true = (refl, refl)
linking_says true false false = (refl, refl)

-- The helper has a cursor for a bucket. This holds if no test refuses the helper's step `InitLink`.
pub record HasSought (t : TableAt) (helper : ℕ) (result : Result InitLink Refusal) : Type 0 where
  pub bucket : ℕ
  pub noted : ℕ
  pub had : slice_get (helps_of t) helper ≡ Some (Sought bucket noted)
  pub answer : linking (helper_fits t helper) (is_stored (linked_of t) bucket) (last_of t == 2 ^ 64 - 2) ≡ result
  pub says : Says result (helper_fits t helper) (is_stored (linked_of t) bucket) (last_of t == 2 ^ 64 - 2)

has_sought : (t : TableAt) (helper : ℕ) (result : Result InitLink Refusal) → link_answer_of t helper ≡ result → refusal_by_test result ≡ None → HasSought t helper result
has_sought t helper result is free = at (slice_get (helps_of t) helper) refl is
  where
    at : (o : Option Help) → slice_get (helps_of t) helper ≡ o → link_answer (helper_fits t helper) (linked_of t) (last_of t) o ≡ result → HasSought t helper result
    at (Some (Sought bucket noted)) had is = record {
      bucket = bucket;
      noted = noted;
      had = had;
      answer = is;
      says = subst (λ r. Says r (helper_fits t helper) (is_stored (linked_of t) bucket) (last_of t == 2 ^ 64 - 2)) is (linking_says _ _ _);
    }
    at None had is = absurd (let e : Some NoSuchHelper ≡ None = ap refusal_by_test is ∙ free in cc)
    at _ had is = absurd (let e : Some HelperOutOfOrder ≡ None = ap refusal_by_test is ∙ free in cc)

-- If the answer to the step `InitLink` is `Again`, the helper's cursor no longer fits. If the step
-- has another answer and no test refuses it, the cursor fits.
pub stale_where : (t : TableAt) (helper : ℕ) → link_answer_of t helper ≡ Ok links.Again → helper_fits t helper ≡ false
stale_where t helper is = (has_sought t helper (Ok links.Again) is refl).says

pub fits_where : (t : TableAt) (helper : ℕ) (result : Result InitLink Refusal) → link_answer_of t helper ≡ result → refusal_by_test result ≡ None → result ≢ Ok links.Again → helper_fits t helper ≡ true
fits_where t helper result is free other = fitting _ _ _ (has_sought t helper result is free).answer
  where
    fitting : (b there used : Bool) → linking b there used ≡ result → b ≡ true
    fitting false there used is = absurd (other (sym is))
    fitting true there used is = refl

module _ (w : World) (helper : ℕ) (many : length (helps_of w.table) ≡ w.limits.callers) where
  abbrev before : State
  before = state_of w

  abbrev answer_now : Result InitLink Refusal
  answer_now = link_answer_of w.table helper

  link_refusal : refusal_of before (steps.InitLink helper) ≡ refusal_by_test answer_now
  link_refusal = at (slice_get (helps_of w.table) helper) refl
    where
      tested : (o : Option Help) → nat_le w.limits.callers helper ≡ not (is_some o) → slice_get (helps_of w.table) helper ≡ o → refusal_of before (steps.InitLink helper) ≡ cond (not (is_some o)) (Some NoSuchHelper) (cond (not (has_cursor (unwrap_or o Nothing))) (Some HelperOutOfOrder) None)
      tested o within is = λ i. cond (within i) (Some NoSuchHelper) (cond (not (has_cursor (unwrap_or (is i) Nothing))) (Some HelperOutOfOrder) None)

      at : (o : Option Help) → slice_get (helps_of w.table) helper ≡ o → refusal_of before (steps.InitLink helper) ≡ refusal_by_test (link_answer (helper_fits w.table helper) (linked_of w.table) (last_of w.table) o)
      at None is = tested None (helper_none (helps_of w.table) w.limits.callers helper many is) is
      at (Some Nothing) is = tested (Some Nothing) (helper_there (helps_of w.table) w.limits.callers helper Nothing many is) is
      at (Some (Dummy bucket)) is = tested (Some (Dummy bucket)) (helper_there (helps_of w.table) w.limits.callers helper (Dummy bucket) many is) is
      at (Some (Sought bucket noted)) is = tested (Some (Sought bucket noted)) (helper_there (helps_of w.table) w.limits.callers helper (Sought bucket noted) many is) is ∙ linking_test (helper_fits w.table helper) (is_stored (linked_of w.table) bucket) (last_of w.table == 2 ^ 64 - 2)

  bucket_had : (help : Help) → slice_get (helps_of w.table) helper ≡ Some help → bucket_at (help_in (helps_of w.table) helper) ≡ bucket_at help
  bucket_had help had = ap (λ (o : Option Help). bucket_at (unwrap_or o Nothing)) had

  lacks_when : {result : Result InitLink Refusal} (sought : HasSought w.table helper result) (there : Bool) → is_stored (linked_of w.table) sought.bucket ≡ there → lacks_dummy before helper ≡ not there
  lacks_when sought there is =
      ap (λ n. not (is_set (linked_of w.table) n)) (bucket_had (Sought sought.bucket sought.noted) sought.had) ∙ ap not (is_set_is (linked_of w.table) sought.bucket ∙ is)

  -- If the step `InitLink` is refused, by a test or for lack of memory or of stamps, the refusal is
  -- a move of the machine.
  pub link_refused_move : (result : Result InitLink Refusal) → (result ≢ Err NoMemory → result ≡ answer_now) → (result ≡ Err NoMemory → answer_now ≡ Ok links.Linked) → (refusal : Refusal) → result ≡ Err refusal → (t' : TableAt) → t' ≡ w.table
      → Move before (steps.InitLink helper) (answers.Refused refusal) (state_of (served w t' w.placed))
  link_refused_move result says no_memory refusal is t' same = rw same (at refusal is)
    where
      now : (refusal : Refusal) → result ≡ Err refusal → refusal ≢ NoMemory → answer_now ≡ Err refusal
      now refusal is other = sym (says (λ e. other (let both : Err refusal ≡ Err NoMemory = sym is ∙ e in cc))) ∙ is

      at : (refusal : Refusal) → result ≡ Err refusal → Move before (steps.InitLink helper) (answers.Refused refusal) before
      at NoMemory is =
          let sought = has_sought w.table helper (Ok links.Linked) (no_memory is) refl in
          lacks before (steps.InitLink helper) NoMemory (link_refusal ∙ ap refusal_by_test (no_memory is))
          (and_from (lacks_dummy before helper) (has_stamp before) (lacks_when sought false sought.says.0) (ap not sought.says.1))
      at StampsUsedUp is =
          let used = now StampsUsedUp is (λ e. cc e) in
          let sought = has_sought w.table helper (Err StampsUsedUp) used refl in
          lacks before (steps.InitLink helper) StampsUsedUp (link_refusal ∙ ap refusal_by_test used)
          (and_from (lacks_dummy before helper) (not (has_stamp before)) (lacks_when sought false sought.says.0) (ap (λ b. not (not b)) sought.says.1))
      at refusal is = refused before (steps.InitLink helper) refusal (link_refusal ∙ ap refusal_by_test (now refusal is (λ e. cc e)))

  -- If the helper's cursor does not fit, dropping it with the answer `Again` is a move of the
  -- machine.
  pub link_again_move : answer_now ≡ Ok links.Again → LastPlacedFits w.table w.sessions w.placed → ((bucket : ℕ) → slice_get (helps_of w.table) helper ≡ Some (Sought bucket (table_changes w.table)) → table_changes w.table < 2 ^ 64 - 1 → ⊥)
      → (t' : TableAt) → t'.buckets ≡ with_helper w.table.buckets helper Idle → KeepsList w.table t' → Move before (steps.InitLink helper) answers.Again (state_of (served w t' None))
  link_again_move is fresh unmoved t' idle list =
      let sought = has_sought w.table helper (Ok links.Again) is refl in
      becomes_move w t' None _ _ _ _ (steps.InitLink helper) answers.Again (idle_becomes w.table t' helper idle list) (
        link_refusal ∙ ap refusal_by_test is,
        stale sought.bucket sought.noted sought.had sought.says,
      ) refl
    where
      not_fresh : helper_fits w.table helper ≡ false → (o : Option Owner) → LastPlacedFits w.table w.sessions o → is_just_placed (Helper helper) o ≡ false
      not_fresh misfit None fresh = refl
      not_fresh misfit (Some (Caller d)) fresh = refl
      not_fresh misfit (Some (Helper d)) fresh = elim (cases_eq helper d) [
        | inl same ↦ absurd (false≢true (sym misfit ∙ ap (helper_fits w.table) same ∙ fresh))
        | inr other ↦ ne_eqb helper d other
      ]

      stale : (bucket noted : ℕ) → slice_get (helps_of w.table) helper ≡ Some (Sought bucket noted) → helper_fits w.table helper ≡ false → may_be_stale before (Helper helper) ≡ true
      stale bucket noted had misfit =
          stale_since before (Helper helper) noted (ap (λ (o : Option Help). helper_changes (unwrap_or o Nothing)) had)
          (not_fresh misfit w.placed fresh)
          (λ same below. unmoved bucket (rw same at had) (rw same at below))

  -- If the dummy is already linked, the answer `Present` is a move of the machine.
  pub link_present_move : answer_now ≡ Ok links.Present → (t' : TableAt) → HoldsDummy w.table.buckets t'.buckets t'.list helper
      → KeepsList w.table t' → Move before (steps.InitLink helper) answers.Present (state_of (served w t' None))
  link_present_move is t' holds list =
      let sought = has_sought w.table helper (Ok links.Present) is refl in
      becomes_move w t' None _ _ _ _ (steps.InitLink helper) answers.Present (held_becomes w.table t' helper holds list) (
        link_refusal ∙ ap refusal_by_test is,
        ap not (lacks_when sought true sought.says),
      )
      (ap (λ n. became w t' None (size_of w.table) (stored_of w.table) (linked_of w.table) (slice_set (helps_of w.table) helper (Dummy n)))
      (bucket_had (Sought holds.bucket (change_number_of holds.cursor)) (help_is w.table helper (Seeking holds.bucket holds.cursor) holds.had)))

  -- Linking the dummy with the answer `Linked` is a move of the machine.
  pub link_linked_move : answer_now ≡ Ok links.Linked → HasParents w.table
      → (t' : TableAt) → LinksDummy w.table.buckets t'.buckets w.table.list t'.list helper
      → regular t' ≡ regular w.table → Move before (steps.InitLink helper) answers.Linked (state_of (served w t' None))
  link_linked_move is parents t' linked same =
      let sought = has_sought w.table helper (Ok links.Linked) is refl in
      becomes_move w t' None _ _ _ _ (steps.InitLink helper) answers.Linked (linked_becomes w.table t' helper parents linked same)
      (link_refusal ∙ ap refusal_by_test is, and_from (lacks_dummy before helper) (has_stamp before) (lacks_when sought false sought.says.0) (ap not sought.says.1))
      (ap (λ n. became w t' None (size_of w.table) (stored_of w.table) (slice_set (linked_of w.table) n true) (slice_set (helps_of w.table) helper (Dummy n)))
      (bucket_had (Sought linked.bucket (change_number_of linked.cursor))
      (help_is w.table helper (Seeking linked.bucket linked.cursor) linked.had)))
