-- Shows that after a plain call's first step no step is refused or answered `Again`, because nobody
-- else takes a step in between, so that the cursor that was placed last fits.
use Rattle.std.proofs.Common.{◌≡◌, ℕ, ◌-◌, ◌<◌, ◌≤◌, ◌&&◌, ◌||◌, Bool, true, false, cond, List, [], ◌∷◌, ◌++◌, Option, Some, None, is_some, refl, sym, ap, ◌∙◌, arith, nat_le, not, unwrap_or, slice_index, eqb-true, ltb-true, ne_eqb, append-nil, inl, inr, ◌⊎◌, All, option_and_then}
use Rattle.boost_core.proofs.Vocabulary.{and-false, or-true, false≢true, and_parts, Op, Entry, Refusal, Step, Answer, Map, Sizes, caller_of, Phase, Opened, Waiting, LeavingTo, LeavingToEnd, Stance, closed_stance, row, stance_after, own, All-head, All-tail, Ask, Seek, Act, Back, Abort, Refused, Asked, Placed, Again, Done, Undone, Leaving, Returned, Aborted, own-push_in, stance_after-push, State, Caller, stance_in, caller_changes, refusal_of, lacks_in, MayLack, is_closed, is_waiting, is_leaving, has_job, has_target, IsReply, is_back_at, is_at_end, may_be_stale, Move, Happens, Operates, Returns, Aborts, NoSuchCaller, NotOpen, NothingToSeek, Unplaced}
use Rattle.boost_core.specs.Answers.{end_answer}
use Rattle.boost_core.proofs.Moves.{just_placed}
use Rattle.boost_core.proofs.SideRefusals.{or_else, refusal_parts, free, three_tests}
use Rattle.txn_words.specs.declared.entry.Entry.TheVariants as entry

-- If a caller has a transaction, `stance_after` finds a stance for the caller's entries. It is the stance
-- that `stance_in` gives for the whole history.
pub stance_there : (h : List Entry) (c : ℕ) → is_closed (stance_in h c).phase ≡ false → stance_after (own c h) ≡ Some (stance_in h c)
stance_there h c there = at (stance_after (own c h)) there
  where
    at : (o : Option Stance) → is_closed (unwrap_or o closed_stance).phase ≡ false → o ≡ Some (unwrap_or o closed_stance)
    at None some = absurd (false≢true (sym some))
    at (Some stance) some = refl

-- If a caller's stance allows an entry (`row`), the stance that `row` gives is the caller's stance after
-- the entry.
pub stance_pushed : (h h' : List Entry) (c : ℕ) (e : Entry) (stance' : Stance) → h' ≡ h ++ e ∷ [] → caller_of e ≡ c → is_closed (stance_in h c).phase ≡ false → row (stance_in h c) (stance_in h c).phase e ≡ Some stance' → stance_in h' c ≡ stance'
stance_pushed h h' c e stance' is mine there goes =
    ap (λ (o : Option Stance). unwrap_or o closed_stance)
    (ap (λ (g : List Entry). stance_after (own c g)) is ∙ ap stance_after (own-push_in c h e mine) ∙ stance_after-push (own c h) e
    ∙ ap (option_and_then (λ (s : Stance). row s s.phase e)) (stance_there h c there) ∙ goes)

-- If no test refuses a step and the step is refused nevertheless, the step lacks memory or a stamp.
pub never_refused : (state : State) (step : Step) (refusal : Refusal) → refusal_of state step ≡ None → (refusal_of state step ≡ Some refusal) ⊎ ((refusal_of state step ≡ None) × MayLack state step refusal) → MayLack state step refusal
never_refused state step refusal none (inl is) = absurd (let both : None ≡ Some refusal = sym none ∙ is in cc)
never_refused state step refusal none (inr lack) = lack.1

pub seek_free : (state : State) (c : ℕ) → nat_le state.limits.callers c ≡ false → is_closed (stance_in state.history c).phase ≡ false → has_target (stance_in state.history c) ≡ true → refusal_of state (Seek c) ≡ None
seek_free state c within there target =
    refusal_parts state c (Seek c) refl
    ∙ (λ i. cond (within i) (Some NoSuchCaller) (or_else (cond (there i) (Some NotOpen) (cond (not (target i)) (Some NothingToSeek) None)) None))

pub act_free : (state : State) (c : ℕ) → nat_le state.limits.callers c ≡ false → is_closed (stance_in state.history c).phase ≡ false → (is_leaving (stance_in state.history c).phase || is_waiting (stance_in state.history c).phase) ≡ true
    → lacks_in (stance_in state.history c) (is_some (caller_changes state.cursors c)) (Act c) ≡ false → refusal_of state (Act c) ≡ None
act_free state c within there busy cursor =
    refusal_parts state c (Act c) refl
    ∙ (λ i. cond (within i) (Some NoSuchCaller) (or_else (cond (there i) (Some NotOpen) (cond (not (busy i)) (Some NothingToSeek) None)) (cond (cursor i) (Some Unplaced) None)))

-- If no test refuses a seek, it places a cursor.
pub seek_places : (old new : State) (c : ℕ) (answer : Answer) → refusal_of old (Seek c) ≡ None → Move old (Seek c) answer new → answer ≡ Placed
seek_places old new c (Refused refusal) none move = absurd (never_refused old (Seek c) refusal none move.allowed)
seek_places old new c Placed none move = refl
seek_places old new c _ none move = absurd move.allowed.1

never_again : (state : State) (c : ℕ) → state.placed ≡ Some (Caller c) → (has_target (stance_in state.history c) && may_be_stale state (Caller c)) ≡ true → ⊥
never_again state c placed is =
    false≢true (sym (just_placed state (Caller c) placed) ∙
    (and_parts (has_target (stance_in state.history c)) (may_be_stale state (Caller c)) is).1)

pub and_none : (b : Bool) → (b && false) ≡ false
and_none b = and-false b

-- If the cursor of a waiting operation was placed last, the step `Act` does the operation.
pub act_does : (old new : State) (c : ℕ) (op : Op) (answer : Answer) → nat_le old.limits.callers c ≡ false → (stance_in old.history c).phase ≡ Waiting op → is_some (caller_changes old.cursors c) ≡ true → old.placed ≡ Some (Caller c)
    → Move old (Act c) answer new → (reply : Option ℕ) × (answer ≡ Done reply)
act_does old new c op answer within waits cursor placed move = at answer move
  where
    none : refusal_of old (Act c) ≡ None
    none = act_free old c within (ap is_closed waits) (ap (λ q. is_leaving q || is_waiting q) waits) (ap (λ b. has_target (stance_in old.history c) && not b) cursor ∙ and_none (has_target (stance_in old.history c)))

    no_job : has_job (stance_in old.history c) ≡ false
    no_job = ap (λ q. has_job (record (stance_in old.history c) { phase = q })) waits

    at : (answer : Answer) → Move old (Act c) answer new → (reply : Option ℕ) × (answer ≡ Done reply)
    at (Refused refusal) move = absurd (never_refused old (Act c) refusal none move.allowed)
    at (Done reply) move = (reply, refl)
    at Again move = absurd (never_again old c placed move.allowed.1)
    at Undone move = absurd (false≢true (sym no_job ∙ move.allowed.1))
    at (Returned n) move = absurd (false≢true (sym (ap (is_back_at n) waits) ∙ (and_parts (not (has_job (stance_in old.history c))) (is_back_at n (stance_in old.history c).phase) move.allowed.1).1))
    at Aborted move = absurd (false≢true (sym (ap is_at_end waits) ∙ (and_parts (not (has_job (stance_in old.history c))) (is_at_end (stance_in old.history c).phase) move.allowed.1).1))
    at _ move = absurd move.allowed.1

no_reply : (q : Phase) (m : Map) (reply : Option ℕ) → is_leaving q ≡ true → IsReply q m reply → ⊥
no_reply (Waiting op) m reply leaves is = false≢true leaves
no_reply _ m reply leaves is = is

back_end : (q : Phase) (n : ℕ) → is_back_at n q ≡ true → Returned n ≡ end_answer q
back_end (LeavingTo m) n is = ap Returned (eqb-true n m is)
back_end _ n is = absurd (false≢true is)

at_end : (q : Phase) → is_at_end q ≡ true → Aborted ≡ end_answer q
at_end LeavingToEnd is = refl
at_end _ is = absurd (false≢true is)

leaving_open : (q : Phase) → is_leaving q ≡ true → (is_closed q ≡ false) × (is_waiting q ≡ false)
leaving_open (LeavingTo n) leaves = (refl, refl)
leaving_open LeavingToEnd leaves = (refl, refl)
leaving_open _ leaves = absurd (false≢true leaves)

pub act_ends : (old new : State) (c : ℕ) (answer : Answer) → nat_le old.limits.callers c ≡ false → is_leaving (stance_in old.history c).phase ≡ true → has_job (stance_in old.history c) ≡ false
    → Move old (Act c) answer new → answer ≡ end_answer (stance_in old.history c).phase
act_ends old new c answer within leaves rests move = at answer move
  where
    no_target : has_target (stance_in old.history c) ≡ false
    no_target = λ i. (leaving_open (stance_in old.history c).phase leaves).1 i || rests i

    none : refusal_of old (Act c) ≡ None
    none = act_free old c within (leaving_open (stance_in old.history c).phase leaves).0 (ap (λ b. b || is_waiting (stance_in old.history c).phase) leaves) (ap (λ b. b && not (is_some (caller_changes old.cursors c))) no_target)

    at : (answer : Answer) → Move old (Act c) answer new → answer ≡ end_answer (stance_in old.history c).phase
    at (Refused refusal) move = absurd (never_refused old (Act c) refusal none move.allowed)
    at (Done reply) move = absurd (no_reply (stance_in old.history c).phase _ reply leaves move.allowed.1)
    at Again move = absurd (false≢true (sym no_target ∙ (and_parts (has_target (stance_in old.history c)) _ move.allowed.1).0))
    at Undone move = absurd (false≢true (sym rests ∙ move.allowed.1))
    at (Returned n) move = back_end (stance_in old.history c).phase n (and_parts (not (has_job (stance_in old.history c))) (is_back_at n (stance_in old.history c).phase) move.allowed.1).1
    at Aborted move = at_end (stance_in old.history c).phase (and_parts (not (has_job (stance_in old.history c))) (is_at_end (stance_in old.history c).phase) move.allowed.1).1
    at _ move = absurd move.allowed.1

-- If the cursor for a caller's newest change was placed last, the step `Act` takes this change
-- back.
pub act_undoes : (old new : State) (c : ℕ) (answer : Answer) → nat_le old.limits.callers c ≡ false → is_leaving (stance_in old.history c).phase ≡ true → has_job (stance_in old.history c) ≡ true → is_some (caller_changes old.cursors c) ≡ true → old.placed ≡ Some (Caller c)
    → Move old (Act c) answer new → answer ≡ Undone
act_undoes old new c answer within leaves job cursor placed move = at answer move
  where
    none : refusal_of old (Act c) ≡ None
    none = act_free old c within (leaving_open (stance_in old.history c).phase leaves).0 (ap (λ b. b || is_waiting (stance_in old.history c).phase) leaves) (ap (λ b. has_target (stance_in old.history c) && not b) cursor ∙ and_none (has_target (stance_in old.history c)))

    at : (answer : Answer) → Move old (Act c) answer new → answer ≡ Undone
    at (Refused refusal) move = absurd (never_refused old (Act c) refusal none move.allowed)
    at (Done reply) move = absurd (no_reply (stance_in old.history c).phase _ reply leaves move.allowed.1)
    at Again move = absurd (never_again old c placed move.allowed.1)
    at Undone move = refl
    at (Returned n) move = absurd (false≢true (ap not (sym job) ∙ (and_parts (not (has_job (stance_in old.history c))) (is_back_at n (stance_in old.history c).phase) move.allowed.1).0))
    at Aborted move = absurd (false≢true (ap not (sym job) ∙ (and_parts (not (has_job (stance_in old.history c))) (is_at_end (stance_in old.history c).phase) move.allowed.1).0))
    at _ move = absurd move.allowed.1

row_undone : (s : Stance) (q : Phase) (c : ℕ) → is_leaving q ≡ true → has_job (record s { phase = q }) ≡ true → (row s q (entry.Undone c) ≡ Some (record s { standing = s.standing - 1 })) × (0 < s.standing)
row_undone s (LeavingTo n) c leaves job =
    let more = ltb-true (slice_index s.kept n) s.standing job in
    (ap (λ b. cond b (Some (record s { standing = s.standing - 1 })) None) job, omega arith)
row_undone s LeavingToEnd c leaves job = (ap (λ b. cond b (Some (record s { standing = s.standing - 1 })) None) job, ltb-true 0 s.standing job)
row_undone s _ c leaves job = absurd (false≢true leaves)

-- The two answers and the new state after a seek and an act have taken a change back.
pub record TookBack (old between new : State) (c : ℕ) (first second : Answer) : Type 0 where
  pub placed : first ≡ Placed
  pub undone : second ≡ Undone
  pub limits : new.limits ≡ old.limits
  pub phase : (stance_in new.history c).phase ≡ (stance_in old.history c).phase
  pub fewer : (stance_in new.history c).standing < (stance_in old.history c).standing

pub took_back : (old between new : State) (c : ℕ) (first second : Answer) → nat_le old.limits.callers c ≡ false → is_leaving (stance_in old.history c).phase ≡ true → has_job (stance_in old.history c) ≡ true
    → Move old (Seek c) first between → (first ≡ Placed → is_some (caller_changes between.cursors c) ≡ true) → Move between (Act c) second new → TookBack old between new c first second
took_back old between new c first second within leaves job seeks cursor acts =
    let open_here = leaving_open (stance_in old.history c).phase leaves in
    let is_placed : first ≡ Placed = seek_places old between c first (seek_free old c within open_here.0 (ap (λ b. is_waiting (stance_in old.history c).phase || b) job ∙ or-true (is_waiting (stance_in old.history c).phase))) seeks in
    let sought : Move old (Seek c) Placed between = rw is_placed at seeks in
    let same_history : between.history ≡ old.history = ap (λ (s : State). s.history) sought.state ∙ append-nil old.history in
    let same_limits : between.limits ≡ old.limits = ap (λ (s : State). s.limits) sought.state in
    let stance : stance_in between.history c ≡ stance_in old.history c = ap (λ (h : List Entry). stance_in h c) same_history in
    let leaves_still : is_leaving (stance_in between.history c).phase ≡ true = rw stance leaves in
    let job_still : has_job (stance_in between.history c) ≡ true = rw stance job in
    let is_undone : second ≡ Undone = act_undoes between new c second (ap (λ (l : Sizes). nat_le l.callers c) same_limits ∙ within) leaves_still job_still (cursor is_placed) (ap (λ (s : State). s.placed) sought.state) acts in
    let move : Move between (Act c) Undone new = rw is_undone at acts in
    let rows = row_undone (stance_in between.history c) (stance_in between.history c).phase c leaves_still job_still in
    let after = stance_pushed between.history new.history c (entry.Undone c) _ (ap (λ (s : State). s.history) move.state) refl (leaving_open (stance_in between.history c).phase leaves_still).0 rows.0 in
    let standing : (stance_in new.history c).standing ≡ (stance_in between.history c).standing - 1 = ap (λ (s : Stance). s.standing) after in
    let was : (stance_in between.history c).standing ≡ (stance_in old.history c).standing = ap (λ (s : Stance). s.standing) stance in
    record {
      placed = is_placed;
      undone = is_undone;
      limits = ap (λ (s : State). s.limits) move.state ∙ same_limits;
      phase = ap (λ (s : Stance). s.phase) after ∙ ap (λ (s : Stance). s.phase) stance;
      fewer = omega (arith, standing, was, rows.1);
    }

-- If the answer to the step `Ask` is `Asked`, the steps `Seek` and `Act` that follow do the
-- operation.
pub operated : (old asked sought new : State) (c : ℕ) (op : Op) (first second : Answer) → Happens old (Ask c op) Asked asked → Happens asked (Seek c) first sought → (first ≡ Placed → is_some (caller_changes sought.cursors c) ≡ true) → Happens sought (Act c) second new
    → Operates old c op second new
operated old asked sought new c op first second asks seeks cursor acts =
    let is_free = free old c (Ask c op) refl asks.move.allowed.0 in
    let opened : (stance_in old.history c).phase ≡ Opened = (three_tests (stance_in old.history c) _ _ _ _ is_free.stance).0 in
    let stance : stance_in asked.history c ≡ record (stance_in old.history c) { phase = Waiting op } = stance_pushed old.history asked.history c (entry.Asked c op) _ (ap (λ (s : State). s.history) asks.move.state) refl (ap is_closed opened) (ap (λ q. row (stance_in old.history c) q (entry.Asked c op)) opened) in
    let waits : (stance_in asked.history c).phase ≡ Waiting op = ap (λ (s : Stance). s.phase) stance in
    let within : nat_le asked.limits.callers c ≡ false = ap (λ (s : State). nat_le s.limits.callers c) asks.move.state ∙ is_free.within in
    let is_placed : first ≡ Placed = seek_places asked sought c first (seek_free asked c within (ap is_closed waits) (ap (λ q. is_waiting q || has_job (stance_in asked.history c)) waits)) seeks.move in
    let seeks_so : Happens asked (Seek c) Placed sought = rw is_placed at seeks in
    let same : stance_in sought.history c ≡ stance_in asked.history c = ap (λ (h : List Entry). stance_in h c) (ap (λ (s : State). s.history) seeks_so.move.state ∙ append-nil asked.history) in
    let done = act_does sought new c op second (ap (λ (s : State). nat_le s.limits.callers c) seeks_so.move.state ∙ within) (ap (λ (s : Stance). s.phase) same ∙ waits) (cursor is_placed) (ap (λ (s : State). s.placed) seeks_so.move.state) acts.move in
    rw done.1 (asked, asks, (sought, seeks_so, (new, rw done.1 at acts, refl)))

-- If the first step of a call is `Ask`, `Back` or `Abort`, and its answer is neither `Asked` nor
-- `Leaving`, the call ends after this step.
pub stopped : (old new : State) (c : ℕ) (op : Op) (answer : Answer) → (answer ≡ Asked → ⊥) → Happens old (Ask c op) answer new → Operates old c op answer new
stopped old new c op Asked other event = absurd (other refl)
stopped old new c op (Done reply) other event = absurd event.move.allowed.1
stopped old new c op _ other event = event

pub stayed : (old new : State) (c level : ℕ) (answer : Answer) → (answer ≡ Leaving → ⊥) → Happens old (Back c level) answer new → Returns old c level answer new
stayed old new c level Leaving other event = absurd (other refl)
stayed old new c level (Returned n) other event = absurd event.move.allowed.1
stayed old new c level _ other event = event

pub unaborted : (old new : State) (c : ℕ) (answer : Answer) → (answer ≡ Leaving → ⊥) → is_at_end (stance_in old.history c).phase ≡ false → Happens old (Abort c) answer new → Aborts old c answer new
unaborted old new c Leaving other there event = absurd (other refl)
unaborted old new c Aborted other there event = absurd event.move.allowed.1
unaborted old new c _ other there event = (there, event)

-- A caller whose number is too high has no entries.
own_none : (callers c : ℕ) (h : List Entry) → All (λ e. caller_of e < callers) h → callers ≤ c → own c h ≡ []
own_none callers c [] all past = refl
own_none callers c (e ∷ h) all past =
    let below : caller_of e < callers = All-head (λ e. caller_of e < callers) e h all in
    rw (ne_eqb (caller_of e) c (λ same. omega arith)) (own_none callers c h (All-tail (λ e. caller_of e < callers) e h all) past)

pub stance_past : (callers c : ℕ) (h : List Entry) → All (λ e. caller_of e < callers) h → callers ≤ c → stance_in h c ≡ closed_stance
stance_past callers c h all past = ap (λ es. unwrap_or (stance_after es) closed_stance) (own_none callers c h all past)
