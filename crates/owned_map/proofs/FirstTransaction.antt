-- Shows that the first transaction of a new history is refused only if memory or stamps are
-- missing, because only caller 0 takes steps: no stripe is held by another, and no step is out of
-- order.
use Rattle.std.proofs.Common.{◌≡◌, ◌≢◌, ℕ, ◌*◌, ◌-◌, ◌^◌, ◌<◌, ◌≤◌, ◌==◌, zero, suc, Bool, true, false, cond, List, [], ◌∷◌, ◌++◌, length, take, drop, slice_index_or, Option, Some, None, refl, sym, ap, subst, ◌∙◌, arith}
use Rattle.std.specs.Prelude.{nat_le, not, ◌||◌, unwrap_or}
use Rattle.std.specs.Option.{option_eq}
use Rattle.std.specs.Prelude.{nat_eq}
use Rattle.std.proofs.lemmas.Bool.{false≢true, and_parts, eq-eqb, eqb-true, lt-leb}
use Rattle.std.specs.Ordering.{eq_by_cmp}
use Rattle.std.proofs.lemmas.List.{take-append-drop}
use Rattle.std.proofs.Math.Seq.{drop-cons}
use mathlib.Core.Logic.{inl, inr, ◌⊎◌}
use Rattle.txn_words.specs.declared.op.Op.{Op}
use Rattle.txn_words.specs.declared.op.Op.TheVariants.{Put}
use Rattle.txn_words.specs.declared.refusal.Refusal.{Refusal}
use Rattle.txn_words.specs.declared.refusal.Refusal.TheVariants as refusals
use Rattle.txn_words.specs.declared.step.Step.{Step}
use Rattle.txn_words.specs.declared.step.Step.TheVariants.{Begin, Ask, Commit}
use Rattle.txn_words.specs.declared.answer.Answer.{Answer}
use Rattle.txn_words.specs.declared.answer.Answer.TheVariants as answers
use Rattle.txn_words.specs.declared.entry.Entry.TheVariants as entry
use Rattle.txn_words.specs.declared.holder.Holder.TheVariants.{Now}
use Rattle.txn_words.specs.declared.stance.Phase.TheVariants.{Opened}
use Rattle.txn_trace.specs.Legal.{IsLegal, is_running}
use Rattle.txn_trace.specs.Locks.{stripe_of, is_locked, holder_of}
use Rattle.txn_words.specs.Map.{Map, key_of}
use Rattle.txn_trace.specs.Now.{now}
use Rattle.txn_words.specs.Ordered.{split_cmp, ordered}
use Rattle.txn_words.specs.Stances.{is_closed, is_leaving, is_waiting}
use Rattle.txn_words.specs.Shape.{Stance, closed_stance, stance_after, own}
use Rattle.txn_words.specs.Sizes.{Sizes, are_limits, is_bad_key}
use Rattle.txn_trace.proofs.Holders.{is_locked-busy}
use Rattle.txn_trace.proofs.HeldStripes.{holder_running}
use Rattle.txn_words.proofs.Order.{split_cmp_tied, value_at, value_at-ordered}
use Rattle.boost_core.specs.State.{State, holder_by, stance_in}
use Rattle.boost_core.specs.Refusals.{refusal_of, MayLack, has_stamp_for}
use Rattle.boost_core.specs.Machine.{IsAllowed, Move}
use Rattle.boost_core.specs.Plain.{Operates}
use Rattle.owned_map.specs.Within.{IsAt, OnlyWorked, IsGrown}
use Rattle.owned_map.specs.Taken.{HasTakenKeys}
use Rattle.owned_map.specs.Trimmed.{IsFilling, LacksFor}
use Rattle.owned_map.proofs.Histories.{stance_there}
use Rattle.owned_map.proofs.Only as only
use Rattle.owned_map.proofs.Growing.{KeepsHistory, kept_by}
use Rattle.owned_map.proofs.Steps.{begins, does, based, phase_in}

-- If the limits are valid, there is a caller 0.
some_caller : (callers stripes buckets : ℕ) → are_limits callers stripes buckets ≡ true → 0 < callers
some_caller callers stripes buckets are = grind arith

pub caller_there : (here : Sizes) (callers stripes buckets : ℕ) → are_limits callers stripes buckets ≡ true → callers ≡ here.callers → 0 < here.callers
caller_there here callers stripes buckets are same = subst (λ c. 0 < c) same (some_caller callers stripes buckets are)

within_of : (s : State) → 0 < s.limits.callers → nat_le s.limits.callers 0 ≡ false
within_of s there = lt-leb s.limits.callers 0 there

-- If the phase of caller 0 is `Opened`, `IsAt` holds for this caller.
at_open : (s : State) → IsLegal (holder_by s.words) s.limits.stripes s.history → nat_le s.limits.callers 0 ≡ false → (stance_in s.history 0).phase ≡ Opened → IsAt 0 (based 0 s) Opened s
at_open s legal within opened =
    let stance = stance_there 0 s.history legal.shape in
    record {
      within = within;
      legal = legal;
      stance = stance.0;
      stance_is = stance.1;
      phase_is = sym (ap (λ (o : Option Stance). (unwrap_or o closed_stance).phase) stance.1) ∙ opened;
      back = refl;
    }

opened_at : (s : State) (base : Map) → IsAt 0 base Opened s → (stance_in s.history 0).phase ≡ Opened
opened_at s base stands = ap (λ (stance : Stance). stance.phase) (phase_in 0 base Opened s stands) ∙ stands.phase_is

others : (old new : State) → ((d : ℕ) → d ≢ 0 → own d old.history ≡ []) → OnlyWorked 0 old new → (d : ℕ) → d ≢ 0 → own d new.history ≡ []
others old new none beside d apart = beside.only d apart ∙ none d apart

-- When caller 0 has begun a transaction in a new core, `IsFilling` holds.
pub begun : (old new : State) (t : ℕ) → old.history ≡ [] → 0 < old.limits.callers → IsLegal (holder_by old.words) old.limits.stripes old.history → Move old (Begin 0) (answers.Began t) new → IsFilling new
begun old new t blank there legal move = record {
  there = subst (λ (l : Sizes). 0 < l.callers) (sym (ap (λ (s : State). s.limits) move.state)) there;
  opened = opened_at new (now old.history) (begins old new 0 t legal move).0;
  alone = others old new (λ d apart. ap (own d) blank) (only.moved 0 old new (Begin 0) (answers.Began t) (record { whose = refl; quiet = refl }) move);
}

lacks_begin : (state : State) (refusal : Refusal) → MayLack state (Begin 0) refusal → refusal ≡ refusals.NoMemory
lacks_begin state refusals.NoMemory lack = refl
lacks_begin state _ lack = absurd lack

-- A step that passes every test is refused only if memory or stamps are missing.
lacked : (state : State) (step : Step) (refusal : Refusal) → refusal_of state step ≡ None → IsAllowed state step (answers.Refused refusal) → MayLack state step refusal
lacked state step refusal free (inl is) = absurd (let both : None ≡ Some refusal = sym free ∙ is in cc)
lacked state step refusal free (inr is) = is.1

begin_free : (s : State) → s.history ≡ [] → nat_le s.limits.callers 0 ≡ false → refusal_of s (Begin 0) ≡ None
begin_free s blank within =
    ap (λ h. cond (nat_le s.limits.callers 0) (Some refusals.NoSuchCaller)
    (cond (is_leaving (stance_in h 0).phase) (Some refusals.Leaving) (cond (not (is_closed (stance_in h 0).phase)) (Some refusals.AlreadyOpen) None))) blank
    ∙ ap (λ b. cond b (Some refusals.NoSuchCaller) None) within

pub begin_lacks : (old new : State) (refusal : Refusal) → old.history ≡ [] → 0 < old.limits.callers → Move old (Begin 0) (answers.Refused refusal) new → refusal ≡ refusals.NoMemory
begin_lacks old new refusal blank there move = lacks_begin old refusal (lacked old (Begin 0) refusal (begin_free old blank (within_of old there)) move.allowed)

-- If caller 0 exists and its transaction is open, the first four tests of a step pass, and the
-- result is `rest`.
ready_for : (s : State) (rest : Option Refusal) → nat_le s.limits.callers 0 ≡ false → (stance_in s.history 0).phase ≡ Opened
    → cond (nat_le s.limits.callers 0) (Some refusals.NoSuchCaller)
    (cond (is_closed (stance_in s.history 0).phase) (Some refusals.NotOpen)
    (cond (is_leaving (stance_in s.history 0).phase) (Some refusals.Leaving)
    (cond (is_waiting (stance_in s.history 0).phase) (Some refusals.OperationUnfinished) rest))) ≡ rest
ready_for s rest within opened =
    ap (λ q. cond (nat_le s.limits.callers 0) (Some refusals.NoSuchCaller)
    (cond (is_closed q) (Some refusals.NotOpen)
    (cond (is_leaving q) (Some refusals.Leaving)
    (cond (is_waiting q) (Some refusals.OperationUnfinished) rest)))) opened
    ∙ ap (λ b. cond b (Some refusals.NoSuchCaller) rest) within

-- If the limits accept the key of a put, the put is refused only for lack of memory or stamps.
pub put_lacks : (old new : State) (k v : ℕ) (refusal : Refusal) → IsFilling old → is_bad_key old.limits.half k ≡ false
    → Operates old 0 (Put k v) (answers.Refused refusal) new → MayLack old (Ask 0 (Put k v)) refusal
put_lacks old new k v refusal filling taken event = lacked old (Ask 0 (Put k v)) refusal free event.move.allowed
  where
    free : refusal_of old (Ask 0 (Put k v)) ≡ None
    free = ready_for old (cond (is_bad_key old.limits.half k) (Some refusals.BadKey) None) (within_of old filling.there) filling.opened ∙ ap (λ b. cond b (Some refusals.BadKey) None) taken

-- If the puts before this one have taken at most two stamps each, and memory or stamps are missing
-- for this one, they are missing for all pairs.
pub lacks_for : (s : State) (k v at pairs : ℕ) (refusal : Refusal) → s.stamp ≤ 2 * at → at < pairs → MayLack s (Ask 0 (Put k v)) refusal → LacksFor pairs refusal
lacks_for s k v at pairs refusals.NoMemory few less lack = tt
lacks_for s k v at pairs refusals.StampsUsedUp few less lack =
    let last : s.stamp ≡ 2 ^ 64 - 2 = eqb-true s.stamp (2 ^ 64 - 2) (not_not (s.stamp == 2 ^ 64 - 2) lack) in
    omega (arith, last, few, less)
  where
    not_not : (b : Bool) → not (not b) ≡ true → b ≡ true
    not_not true is = refl
    not_not false is = absurd (false≢true is)
lacks_for s k v at pairs _ few less lack = absurd lack

pub lacks_memory : (pairs : ℕ) (refusal : Refusal) → refusal ≡ refusals.NoMemory → LacksFor pairs refusal
lacks_memory pairs refusal is = subst (LacksFor pairs) (sym is) tt

-- No operation is answered `Busy`, since no other caller holds a stripe.
never_busy : (old new : State) (op : Op) (x : ℕ) → IsFilling old → old.words ≡ false → IsLegal (holder_by old.words) old.limits.stripes old.history → Operates old 0 op (answers.Busy x) new → ⊥
never_busy old new op x filling ordinary legal event =
    let stripe : ℕ = stripe_of old.limits.stripes (key_of op) in
    let stands : is_locked (holder_by old.words) old.limits.stripes old.history (entry.Busy 0 op x) ≡ true = (and_parts (old.words || has_stamp_for old op) _ event.move.allowed.1).1 in
    let by_now : is_locked Now old.limits.stripes old.history (entry.Busy 0 op x) ≡ true = subst (λ w. is_locked (holder_by w) old.limits.stripes old.history (entry.Busy 0 op x) ≡ true) ordinary stands in
    let legal_now : IsLegal Now old.limits.stripes old.history = subst (λ w. IsLegal (holder_by w) old.limits.stripes old.history) ordinary legal in
    let parts = and_parts (not (x == 0)) (option_eq nat_eq (holder_of old.limits.stripes stripe old.history) (Some x))
    (sym (is_locked-busy Now old.limits.stripes old.history 0 op x legal_now.shape legal_now.locks) ∙ by_now) in
    let running = holder_running old.limits.stripes old.history legal_now.shape stripe x (held (holder_of old.limits.stripes stripe old.history) parts.1) in
    false≢true (sym (ap (λ es. is_running (stance_after es)) (filling.alone x (apart x parts.0))) ∙ running)
  where
    held : (o : Option ℕ) → option_eq nat_eq o (Some x) ≡ true → o ≡ Some x
    held None is = absurd (false≢true is)
    held (Some y) is = ap Some (eqb-true y x is)

    apart : (n : ℕ) → not (n == 0) ≡ true → n ≢ 0
    apart zero is same = false≢true is
    apart (suc n) is same = omega (arith, same)

-- If `IsFilling` holds, a put by caller 0 is answered `Done` or `Refused`.
pub only_puts : (old new : State) (k v : ℕ) (answer : Answer) → IsFilling old → old.words ≡ false → IsLegal (holder_by old.words) old.limits.stripes old.history
    → ((x : Option ℕ) → answer ≡ answers.Done x → ⊥) → ((refusal : Refusal) → answer ≡ answers.Refused refusal → ⊥) → Operates old 0 (Put k v) answer new → ⊥
only_puts old new k v (answers.Done x) filling ordinary legal not_done not_refused moves = not_done x refl
only_puts old new k v (answers.Refused refusal) filling ordinary legal not_done not_refused event = not_refused refusal refl
only_puts old new k v (answers.Busy x) filling ordinary legal not_done not_refused event = never_busy old new (Put k v) x filling ordinary legal event
only_puts old new k v answers.Asked filling ordinary legal not_done not_refused none = none
only_puts old new k v _ filling ordinary legal not_done not_refused event = absurd event.move.allowed.1

kept_limits : (old new : State) (op : Op) (x : Option ℕ) → Operates old 0 op (answers.Done x) new → new.limits ≡ old.limits
kept_limits old new op x (s1, ask, (s2, seek, (s3, did, last))) =
    ap (λ (s : State). s.limits) last ∙ ap (λ (s : State). s.limits) did.move.state ∙ ap (λ (s : State). s.limits) seek.move.state ∙ ap (λ (s : State). s.limits) ask.move.state

pub put_on : (old between new : State) (k v : ℕ) (x : Option ℕ) → IsFilling old → IsLegal (holder_by old.words) old.limits.stripes old.history
    → Operates old 0 (Put k v) (answers.Done x) between → IsGrown 0 between new → IsFilling new
put_on old between new k v x filling legal operates grows = record {
  there = subst (λ (l : Sizes). 0 < l.callers) (sym (grown.limits ∙ kept_limits old between (Put k v) x operates)) filling.there;
  opened = ap (λ h. (stance_in h 0).phase) grown.history ∙ opened_at between (based 0 old) (does old between 0 (based 0 old) (Put k v) x (at_open old legal (within_of old filling.there) filling.opened) operates).0;
  alone = λ d apart. ap (own d) grown.history ∙ others old between filling.alone (only.operated 0 old between (Put k v) (answers.Done x) operates) d apart;
}
  where
    grown : KeepsHistory between new
    grown = kept_by 0 between new grows

-- If `IsFilling` holds, a commit of caller 0 is not refused.
pub only_commits : (old new : State) (answer : Answer) → IsFilling old → ((p : ℕ) → answer ≡ answers.Committed p → ⊥) → Move old (Commit 0) answer new → ⊥
only_commits old new (answers.Committed p) filling not_committed move = not_committed p refl
only_commits old new (answers.Refused refusal) filling not_committed move = never move.allowed
  where
    free : refusal_of old (Commit 0) ≡ None
    free = ready_for old None (within_of old filling.there) filling.opened

    never : (refusal_of old (Commit 0) ≡ Some refusal) ⊎ ((refusal_of old (Commit 0) ≡ None) × ⊥) → ⊥
    never (inl is) = absurd (let both : None ≡ Some refusal = sym free ∙ is in cc)
    never (inr is) = is.1
only_commits old new _ filling not_committed move = absurd move.allowed.1

rest_none : (b : Bool) (v : ℕ) (rest : Option ℕ) → cond b (Some v) rest ≡ None → rest ≡ None
rest_none true v rest none = absurd (cc none)
rest_none false v rest none = none

listed_at : (k v : ℕ) (front back : List (ℕ × ℕ)) → value_at k (front ++ (k, v) ∷ back) ≡ None → ⊥
listed_at k v [] back none = absurd (let there : Some v ≡ None = sym (ap (λ b. cond b (Some v) (value_at k back)) (split_cmp_tied k k ∙ eq-eqb k k refl)) ∙ none in cc)
listed_at k v (pair ∷ front) back none = listed_at k v front back (rest_none (eq_by_cmp split_cmp k pair.0) pair.1 (value_at k (front ++ (k, v) ∷ back)) none)

not_bad : (b : Bool) → (b ≡ true → ⊥) → b ≡ false
not_bad true never = absurd (never refl)
not_bad false never = refl

pub taken_at : (half : Bool) (m : Map) (pairs : List (ℕ × ℕ)) (i : ℕ) → pairs ≡ ordered m → HasTakenKeys half m → i < length pairs → is_bad_key half (slice_index_or pairs i (0, 0)).0 ≡ false
taken_at half m pairs i is taken less =
    let pair : ℕ × ℕ = slice_index_or pairs i (0, 0) in
    let parts : take i pairs ++ pair ∷ drop (suc i) pairs ≡ pairs =
    ap (λ rest. take i pairs ++ rest) (sym (drop-cons pairs i (0, 0) less)) ∙ take-append-drop i pairs in
    not_bad (is_bad_key half pair.0) (λ bad.
    listed_at pair.0 pair.1 (take i pairs) (drop (suc i) pairs) (ap (value_at pair.0) parts ∙ ap (value_at pair.0) is ∙ value_at-ordered m pair.0 ∙ taken pair.0 bad))
