-- Shows what a step or a plain call does to a transaction that no other caller interrupts, because
-- the map to which it can be taken back stays the same (`IsAt`).
use Rattle.std.proofs.Common.{◌≡◌, ℕ, zero, suc, Bool, true, false, cond, List, [], ◌∷◌, ◌++◌, Option, Some, None, refl, sym, ap, subst, ◌∙◌, arith}
use Rattle.std.specs.Prelude.{nat_le, nat_lt, not, ◌||◌, unwrap_or}
use Rattle.std.proofs.lemmas.Bool.{false≢true, and_parts, ltb-true, lt-ltb}
use Rattle.std.proofs.lemmas.List.{append-nil}
use mathlib.Core.Logic.{inl, inr, ◌⊎◌}
use Rattle.txn_words.specs.declared.op.Op.{Op}
use Rattle.txn_words.specs.declared.refusal.Refusal.{Refusal}
use Rattle.txn_words.specs.declared.refusal.Refusal.TheVariants as refusals
use Rattle.txn_words.specs.declared.step.Step.{Step}
use Rattle.txn_words.specs.declared.step.Step.TheVariants.{Begin, Ask, Seek, Act, Commit, Abort}
use Rattle.txn_words.specs.declared.answer.Answer.{Answer}
use Rattle.txn_words.specs.declared.answer.Answer.TheVariants as answers
use Rattle.txn_words.specs.declared.stance.Phase.{Phase}
use Rattle.txn_words.specs.declared.stance.Phase.TheVariants.{Closed, Opened, Waiting, LeavingTo, LeavingToEnd}
use Rattle.txn_words.specs.Map.{Map, reply_of}
use Rattle.txn_words.specs.Map as map
use Rattle.txn_trace.specs.Log.{log_of, rolled_back}
use Rattle.txn_trace.specs.Now.{now}
use Rattle.txn_words.specs.Shape.{Stance, closed_stance, stance_after, own}
use Rattle.txn_trace.specs.Legal.{IsLegal}
use Rattle.boost_core.specs.State.{State, holder_by, stance_in}
use Rattle.boost_core.specs.Refusals.{refusal_of, is_closed, is_leaving, is_waiting, has_job, has_stamp_for}
use Rattle.boost_core.specs.Answers.{IsReply, is_at_end}
use Rattle.boost_core.specs.Machine.{Move, Happens, Moves}
use Rattle.boost_core.specs.Plain.{Operates, Aborts, Ends, Leaves, undoing, undone}
use Rattle.owned_map.specs.Within.{IsBasedOn, IsAt, CanAbort, IsIdle, GoesOn, HasDone, IsTakenBack, IsCommitted}
use Rattle.owned_map.proofs.Histories.{stance_there, began_now, asked_now, busy_now, did_now, left_now, undone_now, aborted_now, committed_now}
use Rattle.owned_map.proofs.Only as only
use Rattle.boost_core.proofs.SideRefusals.{closed_is, first_none}

pub to_state : (c : ℕ) (base : Map) (q : Phase) (s t : State) → t ≡ s → IsAt c base q s → IsAt c base q t
to_state c base q s t same = subst (IsAt c base q) (sym same)

abbrev now_of : State → Map
now_of s = now s.history

-- If `IsAt` holds for a state, `IsBasedOn` holds for the state's history followed by the empty
-- list.
pub unmoved : (c : ℕ) (base : Map) (q : Phase) (s : State) → IsAt c base q s
    → IsBasedOn (holder_by s.words) s.limits c base q (s.history ++ [])
unmoved c base q s stands = subst (IsBasedOn (holder_by s.words) s.limits c base q) (sym (append-nil s.history)) stands

-- If `IsAt` holds for a caller and a state, `stance_in` gives the caller's stance that `IsAt` names.
pub phase_in : (c : ℕ) (base : Map) (q : Phase) (s : State) → (stands : IsAt c base q s) → stance_in s.history c ≡ stands.stance
phase_in c base q s stands = ap (λ (o : Option Stance). unwrap_or o closed_stance) stands.stance_is

phase_of : {A : Type 0} (s : State) (c : ℕ) (base : Map) (q : Phase) → IsAt c base q s → (f : Phase → A) → f (stance_in s.history c).phase ≡ f q
phase_of s c base q stands f = ap (λ (stance : Stance). f stance.phase) (phase_in c base q s stands) ∙ ap f stands.phase_is

not_not : (b : Bool) → not b ≡ false → b ≡ true
not_not true is = refl
not_not false is = absurd (false≢true (sym is))

idle_after : (c : ℕ) (s t : State) → t ≡ s → stance_after (own c s.history) ≡ Some closed_stance → IsIdle c t
idle_after c s t is closed = subst (IsIdle c) (sym is) (ap (λ (o : Option Stance). is_closed (unwrap_or o closed_stance).phase) closed)

-- After the step `Begin`, the caller has an open transaction on the present map, and the map is
-- unchanged.
pub begins : (old new : State) (c t : ℕ) → IsLegal (holder_by old.words) old.limits.stripes old.history → Move old (Begin c) (answers.Began t) new
    → IsAt c (now old.history) Opened new × (now new.history ≡ now old.history)
begins old new c t legal move =
    let tests = first_none (nat_le old.limits.callers c) _ _ move.allowed.0 in
    let more = first_none _ _ _ tests.1 in
    let closed = not_not _ (first_none _ _ _ more.1).0 in
    let stance = stance_there c old.history legal.shape in
    let phase : stance.0.phase ≡ Closed =
    closed_is _ (subst (λ (o : Option Stance). is_closed (unwrap_or o closed_stance).phase ≡ true) stance.1 closed) in
    let stands = began_now old.limits c t old.history tests.0 legal stance.0 stance.1 phase move.allowed.1 in
    (to_state c (now old.history) Opened _ new move.state stands.0, ap now_of move.state ∙ stands.1)

pub no_other_begin : (old new : State) (c : ℕ) (answer : Answer) → ((t : ℕ) → answer ≡ answers.Began t → ⊥) → ((refusal : Refusal) → answer ≡ answers.Refused refusal → ⊥) → Move old (Begin c) answer new → ⊥
no_other_begin old new c (answers.Refused refusal) not_begun not_refused move = not_refused refusal refl
no_other_begin old new c (answers.Began t) not_begun not_refused move = not_begun t refl
no_other_begin old new c _ not_begun not_refused move = absurd move.allowed.1

-- An operation was asked for and its position was sought. The operation waits, and the map is
-- unchanged.
pub record Waits (old between : State) (c : ℕ) (base : Map) (op : Op) : Type 0 where
  pub stands : IsAt c base (Waiting op) between
  pub same : now between.history ≡ now old.history

pub waits : (old between next : State) (c : ℕ) (base : Map) (op : Op) → IsAt c base Opened old → Happens old (Ask c op) answers.Asked between → Happens between (Seek c) answers.Placed next → Waits old next c base op
waits old between next c base op stands ask seek =
    let locked = (and_parts (has_stamp_for old op) _ ask.move.allowed.1).1 in
    let asked = asked_now old.limits c base old.history op stands locked in
    let waiting = to_state c base (Waiting op) _ between ask.move.state asked.0 in
    record {
      stands = to_state c base (Waiting op) _ next seek.move.state (unmoved c base (Waiting op) between waiting);
      same = ap now_of seek.move.state ∙ ap now (append-nil between.history) ∙ ap now_of ask.move.state ∙ asked.1;
    }

-- If a waiting operation gets a reply, this is the reply that the operation has on the present map.
pub replied : (s : State) (c : ℕ) (base : Map) (op : Op) (x : Option ℕ) → IsAt c base (Waiting op) s → IsReply (stance_in s.history c).phase (now s.history) x → x ≡ reply_of (now s.history) op
replied s c base op x stands reply =
    subst (λ q. IsReply q (now s.history) x) (ap (λ (stance : Stance). stance.phase) (phase_in c base (Waiting op) s stands) ∙ stands.phase_is) reply

-- If an operation is done, `HasDone` holds for it, and the transaction is still open.
pub does : (old new : State) (c : ℕ) (base : Map) (op : Op) (x : Option ℕ) → IsAt c base Opened old → Operates old c op (answers.Done x) new
    → IsAt c base Opened new × HasDone op x old new
does old new c base op x stands (s1, ask, (s2, seek, (s3, did, last))) =
    let w = waits old s1 s2 c base op stands ask seek in
    let right = replied s2 c base op x w.stands did.move.allowed.1 in
    let done = did_now s2.limits c base s2.history op x w.stands right in (
      to_state c base Opened s3 new last (to_state c base Opened _ s3 did.move.state done.0),
      record {
        replied = right ∙ ap (λ m. reply_of m op) w.same;
        changed = ap now_of last ∙ ap now_of did.move.state ∙ done.1 ∙ ap (λ m. map.after m op) w.same;
      },
    )

-- A caller that is ready for its next step has an open transaction.
open_phase : (q : Phase) → is_closed q ≡ false → is_leaving q ≡ false → is_waiting q ≡ false → q ≡ Opened
open_phase Opened a b c = refl
open_phase Closed a b c = absurd (false≢true (sym a))
open_phase (Waiting op) a b c = absurd (false≢true (sym c))
open_phase (LeavingTo n) a b c = absurd (false≢true (sym b))
open_phase LeavingToEnd a b c = absurd (false≢true (sym b))

abbrev pub unready : State → ℕ → Option Refusal → Option Refusal
unready s c rest =
    cond (nat_le s.limits.callers c) (Some refusals.NoSuchCaller)
    (cond (is_closed (stance_in s.history c).phase) (Some refusals.NotOpen)
    (cond (is_leaving (stance_in s.history c).phase) (Some refusals.Leaving)
    (cond (is_waiting (stance_in s.history c).phase) (Some refusals.OperationUnfinished) rest)))

abbrev pub based : ℕ → State → Map
based c s = rolled_back (now s.history) (log_of c s.history)

pub ready : (s : State) (c : ℕ) (rest : Option Refusal) → IsLegal (holder_by s.words) s.limits.stripes s.history → unready s c rest ≡ None → IsAt c (based c s) Opened s
ready s c rest legal free =
    let within = first_none (nat_le s.limits.callers c) _ _ free in
    let closed = first_none _ _ _ within.1 in
    let leaving = first_none _ _ _ closed.1 in
    let waiting = first_none _ _ _ leaving.1 in
    let stance = stance_there c s.history legal.shape in
    let phase : (stance_in s.history c).phase ≡ Opened = open_phase _ closed.0 leaving.0 waiting.0 in
    record {
      within = within.0;
      legal = legal;
      stance = stance.0;
      stance_is = stance.1;
      phase_is = sym (ap (λ (o : Option Stance). (unwrap_or o closed_stance).phase) stance.1) ∙ phase;
      back = refl;
    }

-- A step of a caller that is aborting its transaction is refused as `Leaving`.
pub leaves_on : (s : State) (c : ℕ) (base : Map) (rest : Option Refusal) → IsAt c base LeavingToEnd s → unready s c rest ≡ None → ⊥
leaves_on s c base rest stands free =
    let within = first_none (nat_le s.limits.callers c) _ _ free in
    let closed = first_none _ _ _ within.1 in
    let leaving = first_none _ _ _ closed.1 in
    false≢true (sym leaving.0 ∙ phase_of s c base LeavingToEnd stands is_leaving)

-- After an operation, the transaction can still be taken back.
went : (old new : State) (c : ℕ) (base : Map) (op : Op) (answer : Answer) → CanAbort c base old → Operates old c op answer new → CanAbort c base new
went old new c base op (answers.Done x) (inl stands) moves = inl (does old new c base op x stands moves).0
went old new c base op (answers.Done x) (inr stands) (s1, ask, rest) = absurd (leaves_on old c base _ stands ask.move.allowed.0)
went old new c base op (answers.Refused refusal) (inl stands) event = inl (to_state c base Opened _ new event.move.state stands)
went old new c base op (answers.Refused refusal) (inr stands) event = inr (to_state c base LeavingToEnd _ new event.move.state stands)
went old new c base op (answers.Busy x) (inl stands) event =
    let locked = (and_parts (old.words || has_stamp_for old op) _ event.move.allowed.1).1 in
    inr (to_state c base LeavingToEnd _ new event.move.state (busy_now old.limits c base old.history op x stands locked).0)
went old new c base op (answers.Busy x) (inr stands) event = absurd (leaves_on old c base _ stands event.move.allowed.0)
went old new c base op answers.Asked can none = absurd none
went old new c base op _ can event = absurd event.move.allowed.1

pub operated : (old new : State) (c : ℕ) (op : Op) (answer : Answer) → Operates old c op answer new → GoesOn c old new
operated old new c op answer operates =
    record { back = λ base can. went old new c base op answer can operates; beside = only.operated c old new op answer operates }

pub done : (old new : State) (c : ℕ) (op : Op) (x : Option ℕ) → IsLegal (holder_by old.words) old.limits.stripes old.history → Operates old c op (answers.Done x) new → HasDone op x old new
done old new c op x legal (s1, ask, rest) = (does old new c (based c old) op x (ready old c _ legal ask.move.allowed.0) (s1, ask, rest)).1

pub busy : (old new : State) (c : ℕ) (op : Op) (x : ℕ) → IsLegal (holder_by old.words) old.limits.stripes old.history → Operates old c op (answers.Busy x) new → now new.history ≡ now old.history
busy old new c op x legal event =
    let locked = (and_parts (old.words || has_stamp_for old op) _ event.move.allowed.1).1 in
    ap now_of event.move.state ∙ (busy_now old.limits c (based c old) old.history op x (ready old c _ legal event.move.allowed.0) locked).1

-- If a step is refused, `GoesOn` holds.
pub refused : (old new : State) (c : ℕ) (step : Step) (refusal : Refusal) → Move old step (answers.Refused refusal) new → GoesOn c old new
refused old new c step refusal move = record {
  back = λ base can. kept base can;
  beside = only.same c old new (ap (λ (s : State). s.history) move.state);
}
  where
    kept : (base : Map) → CanAbort c base old → CanAbort c base new
    kept base (inl stands) = inl (to_state c base Opened _ new move.state stands)
    kept base (inr stands) = inr (to_state c base LeavingToEnd _ new move.state stands)

-- An operation is answered `Done`, `Busy` or `Refused`.
pub no_other : (old new : State) (c : ℕ) (op : Op) (answer : Answer) → ((x : Option ℕ) → answer ≡ answers.Done x → ⊥) → ((x : ℕ) → answer ≡ answers.Busy x → ⊥) → ((refusal : Refusal) → answer ≡ answers.Refused refusal → ⊥) → Operates old c op answer new → ⊥
no_other old new c op (answers.Done x) not_done not_busy not_refused move = not_done x refl
no_other old new c op (answers.Busy x) not_done not_busy not_refused move = not_busy x refl
no_other old new c op (answers.Refused refusal) not_done not_busy not_refused move = not_refused refusal refl
no_other old new c op answers.Asked not_done not_busy not_refused none = none
no_other old new c op _ not_done not_busy not_refused event = absurd event.move.allowed.1

-- A commit leaves the map unchanged, and the caller then has no transaction.
pub commits : (old new : State) (c p : ℕ) → IsLegal (holder_by old.words) old.limits.stripes old.history → Move old (Commit c) (answers.Committed p) new → IsCommitted c p old new
commits old new c p legal move =
    let stands = ready old c _ legal move.allowed.0 in
    let ends = committed_now old.limits c (based c old) old.history p stands move.allowed.1 in
    let beside = only.committed c p old new move in
    record {
      same = ap now_of move.state ∙ ends.0;
      idle = idle_after c _ new move.state ends.1;
      only = beside.0;
      commits = beside.1;
    }

pub no_other_commit : (old new : State) (c : ℕ) (answer : Answer) → ((p : ℕ) → answer ≡ answers.Committed p → ⊥) → ((refusal : Refusal) → answer ≡ answers.Refused refusal → ⊥) → Move old (Commit c) answer new → ⊥
no_other_commit old new c (answers.Refused refusal) not_committed not_refused move = not_refused refusal refl
no_other_commit old new c (answers.Committed p) not_committed not_refused move = not_committed p refl
no_other_commit old new c _ not_committed not_refused move = absurd move.allowed.1

-- If one change is taken back during an abort, the caller is still aborting its transaction.
one_back : (old between new : State) (c : ℕ) (base : Map) → IsAt c base LeavingToEnd old → Move old (Seek c) answers.Placed between → Move between (Act c) answers.Undone new → IsAt c base LeavingToEnd new
one_back old between new c base stands seek act =
    let sought = to_state c base LeavingToEnd _ between seek.state (unmoved c base LeavingToEnd old stands) in
    let job : has_job sought.stance ≡ true = subst (λ (stance : Stance). has_job stance ≡ true) (phase_in c base LeavingToEnd between sought) act.allowed.1 in
    let some : nat_lt 0 sought.stance.standing ≡ true = subst (λ q. has_job (record (sought.stance) { phase = q }) ≡ true) sought.phase_is job in
    to_state c base LeavingToEnd _ new act.state (undone_now between.limits c base between.history sought (ltb-true 0 sought.stance.standing some))

-- The first moves of `undoing` take back `changes` changes. After these moves the caller is still
-- aborting its transaction, and the moves of `steps` remain.
backwards : (old new : State) (c : ℕ) (base : Map) (changes : ℕ) (steps : List Step) (others : List Answer) → IsAt c base LeavingToEnd old → Moves old (undoing changes c steps) (undone changes others) new
    → (between : State) × IsAt c base LeavingToEnd between × Moves between steps others new
backwards old new c base zero steps others stands moves = (old, stands, moves)
backwards old new c base (suc changes) steps others stands moves =
    let (between, there, (s1, seek, (s2, act, rest))) = backwards old new c base changes (Seek c ∷ Act c ∷ steps) (answers.Placed ∷ answers.Undone ∷ others) stands moves in
    (s2, one_back between s1 s2 c base there seek.move act.move, rest)

ends : (old new : State) (c : ℕ) (base : Map) → IsAt c base LeavingToEnd old → Ends old c answers.Aborted new → (now new.history ≡ base) × IsIdle c new
ends old new c base stands (changes, moves) =
    let (between, there, (s1, act, last)) = backwards old new c base changes (Act c ∷ []) (answers.Aborted ∷ []) stands moves in
    let free = (and_parts (not (has_job (stance_in between.history c))) _ act.move.allowed.1).0 in
    let rests : not (has_job there.stance) ≡ true = subst (λ (stance : Stance). not (has_job stance) ≡ true) (phase_in c base LeavingToEnd between there) free in
    let none : not (nat_lt 0 there.stance.standing) ≡ true = subst (λ q. not (has_job (record (there.stance) { phase = q })) ≡ true) there.phase_is rests in
    let over = aborted_now between.limits c base between.history there (no_more there.stance.standing none) in
    (ap now_of last ∙ ap now_of act.move.state ∙ over.0, idle_after c _ new (last ∙ act.move.state) over.1)
  where
    no_more : (n : ℕ) → not (nat_lt 0 n) ≡ true → n ≡ 0
    no_more zero is = refl
    no_more (suc n) is = absurd (false≢true (sym (ap not (lt-ltb 0 (suc n) (omega arith))) ∙ is))

-- If a caller can abort and its abort succeeds, the map is the one before its transaction, and the
-- caller has no transaction.
aborts_all : (old new : State) (c : ℕ) (base : Map) → CanAbort c base old → Aborts old c answers.Aborted new → (now new.history ≡ base) × IsIdle c new
aborts_all old new c base (inl stands) (left, leaves, ended) =
    let leave : Happens old (Abort c) answers.Leaving left = subst (λ b. Leaves b old c left) (phase_of old c base Opened stands is_at_end) leaves in
    ends left new c base (to_state c base LeavingToEnd _ left leave.move.state (left_now old.limits c base old.history stands)) ended
aborts_all old new c base (inr stands) (left, leaves, ended) =
    let same : left ≡ old = subst (λ b. Leaves b old c left) (phase_of old c base LeavingToEnd stands is_at_end) leaves in
    ends left new c base (to_state c base LeavingToEnd old left same stands) ended

-- If a caller can abort, its abort is not refused.
never_refused : (old new : State) (c : ℕ) (base : Map) (refusal : Refusal) → CanAbort c base old → Aborts old c (answers.Refused refusal) new → ⊥
never_refused old new c base refusal (inr stands) (on, move) = false≢true (sym on ∙ phase_of old c base LeavingToEnd stands is_at_end)
never_refused old new c base refusal (inl stands) (on, event) = never event.move.allowed
  where
    free : refusal_of old (Abort c) ≡ None
    free =
        let closed = phase_of old c base Opened stands is_closed in
        let leaving = phase_of old c base Opened stands is_leaving in
        λ i. cond (stands.within i) (Some refusals.NoSuchCaller) (cond (closed i) (Some refusals.NotOpen) (cond (leaving i) (Some refusals.Leaving) None))

    never : (refusal_of old (Abort c) ≡ Some refusal) ⊎ ((refusal_of old (Abort c) ≡ None) × ⊥) → ⊥
    never (inl is) = absurd (let both : None ≡ Some refusal = sym free ∙ is in cc)
    never (inr is) = is.1

aborts : (old new : State) (c : ℕ) (base : Map) (answer : Answer) → CanAbort c base old → Aborts old c answer new → (now new.history ≡ base) × IsIdle c new
aborts old new c base answers.Aborted can aborted = aborts_all old new c base can aborted
aborts old new c base answers.Leaving can aborted = absurd aborted
aborts old new c base (answers.Refused refusal) can aborted = absurd (never_refused old new c base refusal can aborted)
aborts old new c base _ can aborted = absurd aborted.1.move.allowed.1

pub taken_back_by : (old new : State) (c : ℕ) (answer : Answer) → Aborts old c answer new → IsTakenBack c old new
taken_back_by old new c answer aborted =
    record { back = λ base can. aborts old new c base answer can aborted; beside = only.aborted c old new answer aborted }
