-- Shows that a caller's step is a move that keeps the core's invariants, because it adds no entry
-- (`Stays`), or one that the caller's stance allows and has room for (`Grows`).
use Rattle.std.proofs.Common.{◌≡◌, ◌⊎◌, inl, inr, ℕ, ◌+◌, ◌-◌, ◌<◌, ◌≤◌, ◌^◌, Bool, true, false, cond, refl, List, [], ◌∷◌, ◌++◌, length, Option, Some, None, sym, ap, subst, ◌∙◌, arith, map, slice_get, slice_set, sum_by, option_to_list, append-nil, option_map, nat_eq, nat_lt}
use Rattle.boost_core.proofs.Vocabulary.{AllByRecursion, standing_owed, false≢true, slice_get_within, Entry, Step, Answer, Phase, caller_of, Stance, RoomyStance, row, own, Op, Put, Refusal, IsLevelIn, stance_leveled, TableAt, cursor_changes, table_changes, last_of, linked_of, entries_of, NoMemory, StampsUsedUp, StaleWord, refusal_of, tests_of, owner_of, first_of, owed_in, reserved, Counts, Session, counts_after, placed_then, Move, IsAllowed, State, Claim, Lock, Right, Held, Goes, IsClaim, may_come, reserved_by, Side, owed_of, World, Tells, LastPlacedFits, state_of, session_changes, option_eq, Map, is_began, is_commit, now, holder_of, Waiting, Next, MapJob, PendingAt, holder_by, is_waiting, is_saved, LogAt, kept_at, newest_above, Releases, without_caller, held_by, side_of, target_in, key_of_newest, IsSoughtAt, Waits, changes_of}
use Rattle.txn_trace.proofs.Room.{reserved_for, reserved_enough, owed_by-row}
use Rattle.boost_core.specs.Machine.{after}
use Rattle.boost_core.specs.Adding.{Enters, CanAdd}
use Rattle.boost_core.proofs.Named.{grown_small}
use Rattle.boost_core.proofs.Moves.{lacks, refused, state_is, changes_set, with_nodes}
use Rattle.boost_core.proofs.OneCaller.{Grows, Stays, world_after, stance_as, row_there, grown, stayed, sum_changed, one_of_sum}
use Rattle.boost_core.proofs.SideRefusals.{no_cursor}
use Rattle.boost_core.proofs.Spares.{buckets_same}
use Rattle.txn_words.specs.declared.step.Step.TheVariants as steps
use Rattle.txn_words.specs.declared.answer.Answer.TheVariants as answers

-- A step adds no entry (`Stays`) or one entry (`Grows`).
abbrev pub Comes : World → ℕ → Session → Session → TableAt → List (Option ℕ) → Counts → List Entry → Type 0
Comes w c x y t' locks' counts' [] = Stays w c x y t' locks' counts'
Comes w c x y t' locks' counts' (e ∷ []) = Grows w c x y t' locks' counts' e
Comes w c x y t' locks' counts' (e ∷ f ∷ es) = ⊥

-- The outcome of a caller's step. The answer and the new state are what the step's claim allows,
-- and the cursor that was placed last fits. Both hold whatever stance the caller has after the added
-- entry.
pub record CalledBy (claim : Claim) (w : World) (c : ℕ) (x : Session) (step : Step) (answer : Answer) (y : Session) (t' : TableAt) (locks' : List (Option ℕ)) : Type 0 where
  pub comes : Comes w c x y t' locks' (counts_after w.counts answer) (entries_of step answer)
  pub move : (stance' : RoomyStance) → Goes claim (state_of w) step answer (state_of (world_after w c (stance_as y stance') (w.history ++ entries_of step answer) (counts_after w.counts answer) t' locks' (placed_then w.placed step answer)))
  pub fresh : (stance' : RoomyStance) → LastPlacedFits t' (slice_set w.sessions c (stance_as y stance')) (placed_then w.placed step answer)

-- The outcome of a step whose claim is a lock.
abbrev pub Called : World → ℕ → Session → Step → Answer → Session → TableAt → List (Option ℕ) → Type 0
Called w c x step answer y t' locks' = CalledBy Lock w c x step answer y t' locks'

-- The outcome of a step that adds an entry and places no cursor.
pub entered : (w : World) (c : ℕ) (x y : Session) (t' : TableAt) (locks' : List (Option ℕ)) (step : Step) (answer : Answer) (e : Entry)
    (cursors : List (Option ℕ)) → entries_of step answer ≡ e ∷ [] → placed_then w.placed step answer ≡ None
    → after (state_of w) step answer (table_changes t') (last_of t') ≡ record (state_of w) {
      history = w.history ++ entries_of step answer;
      changes = table_changes t';
      stamp = last_of t';
      cursors = cursors;
      placed = placed_then w.placed step answer;
    }
    → slice_set (map session_changes w.sessions) c None ≡ cursors → IsAllowed (state_of w) step answer → linked_of t' ≡ linked_of w.table
    → Grows w c x y t' locks' (counts_after w.counts answer) e → Called w c x step answer y t' locks'
entered w c x y t' locks' step answer e cursors one unplaced after_is dropped allowed linked grows = record {
  comes = subst (Comes w c x y t' locks' (counts_after w.counts answer)) (sym one) grows;
  move = λ stance'. record {
    allowed = allowed;
    state = state_is w (w.history ++ entries_of step answer) (w.history ++ entries_of step answer) (counts_after w.counts answer) t' cursors
        (slice_set w.sessions c (stance_as y stance')) locks' (placed_then w.placed step answer) grows.buckets linked refl
        (changes_set w.sessions c (stance_as y stance') None (ap (λ (s : Side). option_map cursor_changes s.cursor) grows.becomes) ∙ dropped)
        ∙ ap (with_nodes t' (slice_set w.sessions c (stance_as y stance'))) (sym after_is);
  };
  fresh = λ stance'. subst (LastPlacedFits t' (slice_set w.sessions c (stance_as y stance'))) (sym unplaced) tt;
}

-- If two states are equal, a step has the same claim and the same outcome in both.
pub claims_of : (claim : Claim) (state old : State) (step : Step) → state ≡ old → IsClaim claim old step → IsClaim claim state step
claims_of claim state old step is claims = subst (λ s. IsClaim claim s step) (sym is) claims

pub goes_of : (claim : Claim) (state old new : State) (step : Step) (answer : Answer) → state ≡ old → Goes claim state step answer new → Goes claim old step answer new
goes_of claim state old new step answer is goes = subst (λ s. Goes claim s step answer new) is goes

-- Returns true if the step `Ask` may still be refused in this way after it has passed all its
-- tests.
abbrev pub is_late : Refusal → Bool
is_late NoMemory = true
is_late StampsUsedUp = true
is_late StaleWord = true
is_late _ = false

-- Returns true if the refusal says that a right or a word is stale.
abbrev pub is_stale_word : Refusal → Bool
is_stale_word StaleWord = true
is_stale_word _ = false

next_early : (b : Bool) (first refusal : Refusal) (rest : Option Refusal) → is_late first ≡ false → (rest ≡ Some refusal → is_late refusal ≡ false) → cond b (Some first) rest ≡ Some refusal → is_late refusal ≡ false
next_early true first refusal rest early later is = let same : first ≡ refusal = cc is in rw same at early
next_early false first refusal rest early later is = later is

first_early : (tests : List (Bool × Refusal)) → AllByRecursion (λ (test : Bool × Refusal). is_late test.1 ≡ false) tests → (refusal : Refusal) → first_of tests ≡ Some refusal → is_late refusal ≡ false
first_early [] early refusal is = absurd (cc (is))
first_early (test ∷ tests) early refusal is = next_early test.0 test.1 refusal (first_of tests) early.0 (λ later. first_early tests early.1 refusal later) is

pub ask_early : (state : State) (c : ℕ) (op : Op) (refusal : Refusal) → refusal_of state (steps.Ask c op) ≡ Some refusal → is_late refusal ≡ false
ask_early state c op refusal is = first_early (tests_of state (owner_of (steps.Ask c op)) (steps.Ask c op)) (refl, (refl, (refl, (refl, (refl, (refl, tt)))))) refusal is

-- Every claim allows the refusals for which `is_late` is false.
may_refuse : (claim : Claim) (refusal : Refusal) → is_late refusal ≡ false → may_come claim (answers.Refused refusal) ≡ true
may_refuse Lock refusal early = refl
may_refuse Right refusal early = refl
may_refuse _ NoMemory early = absurd (false≢true (sym early))
may_refuse _ StampsUsedUp early = absurd (false≢true (sym early))
may_refuse _ _ early = refl

goes_early : (claim : Claim) (state : State) (step : Step) (refusal : Refusal) → is_late refusal ≡ false → Move state step (answers.Refused refusal) state → Goes claim state step (answers.Refused refusal) state
goes_early Lock state step refusal early move = move
goes_early claim state step refusal early move = inr (may_refuse claim refusal early, move)

-- A claim that reserves room for the step allows the refusal `NoMemory`.
pub goes_lacking : (claim : Claim) (state : State) (step : Step) → 0 < reserved_by claim step → Move state step (answers.Refused NoMemory) state → Goes claim state step (answers.Refused NoMemory) state
goes_lacking Lock state step some move = move
goes_lacking Right state step some move = inr (refl, move)
goes_lacking _ state step some move = absurd (omega arith)

-- A claim reserves no more entries than its step does.
pub reserved_least : (claim : Claim) (step : Step) → reserved_by claim step ≤ reserved step
reserved_least Lock step = omega arith
reserved_least _ step = omega arith

-- If a test refuses a step, either the claim is a lock or `is_late` is false for the refusal. In
-- both cases the claim allows the refusal.
early_or_lock : (claim : Claim) (state : State) (step : Step) (refusal : Refusal) → IsClaim claim state step → refusal_of state step ≡ Some refusal → (claim ≡ Lock) ⊎ (is_late refusal ≡ false)
early_or_lock Lock state step refusal claims is = inl refl
early_or_lock _ state (steps.Ask c op) refusal claims is = inr (ask_early state c op refusal is)
early_or_lock _ state _ refusal claims is = absurd claims

pub fresh_or_lock : (claim : Claim) (state : State) (step : Step) (refusal : Refusal) → IsClaim claim state step → refusal_of state step ≡ Some refusal → (claim ≡ Lock) ⊎ (is_stale_word refusal ≡ false)
fresh_or_lock claim state step refusal claims is = elim (early_or_lock claim state step refusal claims is) [ inl lock ↦ inl lock | inr early ↦ inr (fresh refusal early) ]
  where
    fresh : (refusal : Refusal) → is_late refusal ≡ false → is_stale_word refusal ≡ false
    fresh StaleWord early = absurd (false≢true (sym early))
    fresh _ early = refl

pub goes_refused : (claim : Claim) (state : State) (step : Step) (refusal : Refusal) → IsClaim claim state step → refusal_of state step ≡ Some refusal → Goes claim state step (answers.Refused refusal) state
goes_refused claim state step refusal claims is = elim (early_or_lock claim state step refusal claims is) [
  | inl lock ↦ rw lock (refused state step refusal is)
  | inr early ↦ goes_early claim state step refusal early (refused state step refusal is)
]

-- A step reserves at most three entries.
pub reserved_few : (step : Step) → reserved step ≤ 3
reserved_few (steps.Ask c (Put k v)) = omega arith
reserved_few (steps.Ask c _) = omega arith
reserved_few _ = omega arith

-- If no test refuses a step that reserves room, the answer may be the refusal `NoMemory`.
pub no_memory : (state : State) (step : Step) → refusal_of state step ≡ None → (0 < reserved step) → Move state step (answers.Refused NoMemory) state
no_memory state (steps.Begin c) none some = lacks state (steps.Begin c) NoMemory none tt
no_memory state (steps.Ask c op) none some = lacks state (steps.Ask c op) NoMemory none tt
no_memory state (steps.Save c) none some = lacks state (steps.Save c) NoMemory none tt
no_memory state (steps.Back c n) none some = lacks state (steps.Back c n) NoMemory none tt
no_memory state _ none some = absurd (omega arith)

-- Each entry of the list needs at most `n` reserved places.
abbrev AreWithin : ℕ → List Entry → Type 0
AreWithin n es = AllByRecursion (λ (e : Entry). reserved_for e ≤ n) es

refused_within : (n : ℕ) (step : Step) (refusal : Refusal) → AreWithin n (entries_of step (answers.Refused refusal))
refused_within n (steps.Begin c) refusal = tt
refused_within n _ refusal = tt

busy_within : (n : ℕ) (step : Step) (x : ℕ) → AreWithin n (entries_of step (answers.Busy x))
busy_within n (steps.Ask c op) x = (omega arith, tt)
busy_within n _ x = tt

-- If a claim allows the answer, the claim reserves enough for the entry that the step adds.
may_within : (claim : Claim) (step : Step) (answer : Answer) → may_come claim answer ≡ true
    → AreWithin (reserved_by claim step) (entries_of step answer)
may_within Lock step answer may = reserved_enough step answer
may_within Right step answer may = reserved_enough step answer
may_within (Held named) step (answers.Busy x) may = busy_within 0 step x
may_within _ step (answers.Refused refusal) may = refused_within 0 step refusal
may_within _ step _ may = absurd (false≢true may)

goes_within : (claim : Claim) (state new : State) (step : Step) (answer : Answer) → Goes claim state step answer new
    → AreWithin (reserved_by claim step) (entries_of step answer)
goes_within Lock state new step answer goes = reserved_enough step answer
goes_within claim state new step answer (inl stale) =
    subst (λ a. AreWithin (reserved_by claim step) (entries_of step a)) (sym stale.refused)
    (refused_within (reserved_by claim step) step StaleWord)
goes_within claim state new step answer (inr goes) = may_within claim step answer goes.0

module _ (w : World) (tells : Tells w) (c : ℕ) (x y : Session) (at : slice_get w.sessions c ≡ Some x) (step : Step) (answer : Answer) (t' : TableAt) (locks' : List (Option ℕ)) {claim : Claim} (called : CalledBy claim w c x step answer y t' locks') where
  stays : option_to_list None ≡ entries_of step answer → Stays w c x y t' locks' (counts_after w.counts answer)
  stays is = subst (Comes w c x y t' locks' (counts_after w.counts answer)) (sym is) called.comes

  grows : (e : Entry) → option_to_list (Some e) ≡ entries_of step answer → Grows w c x y t' locks' (counts_after w.counts answer) e
  grows e is = subst (Comes w c x y t' locks' (counts_after w.counts answer)) (sym is) called.comes

  -- The caller's stance allows the added entry, and the claim reserves enough for this entry.
  row_is : (e : Entry) (is : option_to_list (Some e) ≡ entries_of step answer) → row x.stance.stance x.stance.stance.phase e ≡ Some (grows e is).stance
  row_is e is = row_there w tells c x y at t' locks' (counts_after w.counts answer) e (grows e is)

  few : (e : Entry) → option_to_list (Some e) ≡ entries_of step answer → reserved_for e ≤ reserved_by claim step
  few e is = (subst (AreWithin (reserved_by claim step)) (sym is) (goes_within claim _ _ step answer (called.move y.stance))).0

  same_stance : (o : Option Entry) → option_to_list o ≡ entries_of step answer → y.stance.stance ≡ x.stance.stance
  same_stance None is = ap (λ (s : Side). s.stance) (stays is).becomes
  same_stance (Some e) is = ap (λ (s : Side). s.stance) (grows e is).becomes

  same_owed : (o : Option Entry) → option_to_list o ≡ entries_of step answer → owed_in y.stance.stance.standing y.stance.stance.phase ≡ owed_of x
  same_owed o is = ap (λ (s : Stance). owed_in s.standing s.phase) (same_stance o is)

  -- The caller of the added entry is one of the core's callers.
  pub called_caller : (o : Option Entry) → option_to_list o ≡ entries_of step answer → (e : Entry) → o ≡ Some e → caller_of e < w.limits.callers
  called_caller o is e some = omega (arith, (grows e (rw some at is)).mine, tells.count, slice_get_within w.sessions c x at)

  -- The entry that the step adds, if it adds one, fits the caller's stance and the history's room.
  pub can_add : (o : Option Entry) → option_to_list o ≡ entries_of step answer → (len cap owed : ℕ) → owed ≡ sum_by owed_of w.sessions → len + (owed + reserved_by claim step) ≤ cap → cap < 2 ^ 63 → w.limits.callers ≤ 64 → CanAdd y.stance len cap owed o
  can_add None is len cap owed owes room small few_callers = omega (arith, one_of_sum owed_of w.sessions c x at, same_owed None is)
  can_add (Some e) is len cap owed owes room small few_callers =
      let comes = grows e is in
      let most = one_of_sum owed_of w.sessions c x at in
      let same = same_owed (Some e) is in
      let takes = owed_by-row x.stance.stance comes.stance e (row_is e is) in
      let enough = few e is in
      record {
        next = comes.stance;
        row_is = ap (λ (s : Stance). row s s.phase e) (same_stance (Some e) is) ∙ row_is e is;
        standing = omega (arith, ap (λ (s : Stance). s.standing) (same_stance (Some e) is), standing_owed x.stance.stance.phase x.stance.stance.standing x.stance.stance.kept (stance_leveled (own c w.history) x.stance.stance (tells.its_stance c x at).stance).within);
        saved = comes.saved;
        small = grown_small w.words w.limits.stripes w.limits.callers w.history e tells.callers comes.next.legal (called_caller (Some e) is e refl) few_callers;
        room = omega arith;
        before = omega arith;
        owed_fits = omega arith;
        fits = omega arith;
      }

  -- The invariants of the core hold after the step.
  pub called_tells : (stance' : RoomyStance) (o : Option Entry) → option_to_list o ≡ entries_of step answer → Enters y.stance (option_to_list o) stance' → (h' : List Entry) → h' ≡ w.history ++ option_to_list o
      → Tells (world_after w c (stance_as y stance') h' (counts_after w.counts answer) t' locks' (placed_then w.placed step answer))
  called_tells stance' None is entered h' pushed =
      rw (pushed, append-nil w.history, entered) (stayed w tells c x y at t' locks' (counts_after w.counts answer) (stays is) (placed_then w.placed step answer) (called.fresh y.stance))
  called_tells stance' (Some e) is entered h' pushed =
      let both : Some stance'.stance ≡ Some (grows e is).stance = sym entered ∙ ap (λ (s : Stance). row s s.phase e) (same_stance (Some e) is) ∙ row_is e is in
      rw pushed (grown w tells c x y at t' locks' (counts_after w.counts answer) e (grows e is) stance' (cc both) (placed_then w.placed step answer) (called.fresh stance'))

  -- If the number of owed entries is updated for the step's caller alone, it is still the sum over
  -- all callers. The history has room for these entries (`called_room`).
  pub called_owes : (stance' : RoomyStance) (o : Option Entry) → option_to_list o ≡ entries_of step answer → (owed owed' : ℕ) → owed ≡ sum_by owed_of w.sessions
      → owed' ≡ owed - owed_in y.stance.stance.standing y.stance.stance.phase + owed_in stance'.stance.standing stance'.stance.phase → owed' ≡ sum_by owed_of (slice_set w.sessions c (stance_as y stance'))
  called_owes stance' o is owed owed' owes after =
      omega (arith, owes, after, sum_changed owed_of w.sessions c x (stance_as y stance') at, one_of_sum owed_of w.sessions c x at, same_owed o is)

  pub called_room : (stance' : RoomyStance) (o : Option Entry) → option_to_list o ≡ entries_of step answer → Enters y.stance (option_to_list o) stance' → (len cap : ℕ) → len + (sum_by owed_of w.sessions + reserved_by claim step) ≤ cap
      → len + length (option_to_list o) + sum_by owed_of (slice_set w.sessions c (stance_as y stance')) ≤ cap
  called_room stance' None is entered len cap room =
      let same : owed_of (stance_as y stance') ≡ owed_of x = ap (λ (s : RoomyStance). owed_in s.stance.standing s.stance.phase) entered ∙ same_owed None is in
      omega (arith, room, same, sum_changed owed_of w.sessions c x (stance_as y stance') at)
  called_room stance' (Some e) is entered len cap room =
      omega (arith, room, sum_changed owed_of w.sessions c x (stance_as y stance') at, owed_by-row y.stance.stance stance'.stance e entered, same_owed (Some e) is, few e is)

  -- The answer and the state after the step are what the claim allows: `Goes` holds.
  pub called_move : (stance' : RoomyStance) (o : Option Entry) → option_to_list o ≡ entries_of step answer → (h' : List Entry) → h' ≡ w.history ++ option_to_list o
      → Goes claim (state_of w) step answer (state_of (world_after w c (stance_as y stance') h' (counts_after w.counts answer) t' locks' (placed_then w.placed step answer)))
  called_move stance' o is h' pushed = rw (pushed, is) (called.move stance')

-- After caller c ends a transaction, the locks and the history agree on a stripe's holder. A stripe
-- that c held has no holder, and any other stripe has its old holder.
released : (c : ℕ) (o : Option ℕ) → without_caller c o ≡ cond (option_eq nat_eq o (Some c)) None o
released c None = refl
released c (Some d) = refl

-- If no change is above a level, there is no key to act on.
pub no_newest : (log : LogAt MapJob) (n : ℕ) → nat_lt (kept_at log.kept n) (length log.jobs) ≡ false → key_of_newest (newest_above log n) ≡ None
no_newest log n none = ap key_of_newest (ap (λ (more : Bool). cond more (slice_get log.jobs (length log.jobs - 1)) None) none)

module _ (w : World) (tells : Tells w) (c : ℕ) (x : Session) (at : slice_get w.sessions c ≡ Some x) where
  -- If the caller acts on no key, it has no cursor.
  pub idle_cursor : (q : Phase) → x.stance.stance.phase ≡ q → target_in q x.log ≡ None → x.cursor ≡ None
  idle_cursor q is none = no_cursor w.table x.cursor (subst (IsSoughtAt w.table x.cursor) (ap (λ p. target_in p x.log) is ∙ none) (tells.sought c x at))

  -- If the caller's phase is not `Waiting`, no operation waits.
  pub nothing_waits : (q : Phase) → x.stance.stance.phase ≡ q → is_waiting q ≡ false → x.pending ≡ None
  nothing_waits q is rests = none_then q rests x.pending (subst (λ p. Waits p x.pending x.log.room) is (tells.its_stance c x at).agrees.waits)
    where
      none_then : (q : Phase) → is_waiting q ≡ false → (o : Option PendingAt) → Waits q o x.log.room → o ≡ None
      none_then q rests None waits = refl
      none_then (Waiting op) rests (Some pending) waits = absurd (false≢true (sym rests))
      none_then _ rests (Some pending) waits = absurd waits

  rest_waits : (q : Phase) → is_waiting q ≡ false → (room : ℕ) → Waits q None room
  rest_waits (Waiting op) rests room = absurd (false≢true (sym rests))
  rest_waits _ rests room = tt

  pub released_holders : (locks' : List (Option ℕ)) → Releases c w.locks locks' → (s : ℕ) → s < w.limits.stripes → held_by locks' s ≡ cond (option_eq nat_eq (holder_of w.limits.stripes s w.history) (Some c)) None (holder_of w.limits.stripes s w.history)
  released_holders locks' releases s below = releases.each s ∙ ap (without_caller c) (tells.holders s below) ∙ released c (holder_of w.limits.stripes s w.history)

  -- `Grows` holds for a step that adds an entry and changes only the caller's savepoints and room.
  -- It is assumed that no operation waits and that the caller has no cursor.
  pub quiet : (e : Entry) (y : Session) (stance : Stance) (kept : List ℕ) (log : List (ℕ × Option ℕ)) (committed : Map) (holder : ℕ → Option ℕ) (locks' : List (Option ℕ)) (counts' : Counts) → Next (holder_by w.words) w.limits.stripes w.history e stance log committed (now w.history) holder → log ≡ changes_of x.log.jobs
      → caller_of e ≡ c → (is_saved e ≡ true → 0 < y.stance.room) → stance.kept ≡ 0 ∷ kept → is_waiting stance.phase ≡ false → x.pending ≡ None → x.cursor ≡ None → side_of y ≡ record (side_of x) { kept = kept }
      → counts'.began ≡ w.counts.began + cond (is_began e) 1 0 → counts'.committed ≡ w.counts.committed + cond (is_commit e) 1 0 → length locks' ≡ length w.locks → ((s : ℕ) → s < w.limits.stripes → held_by locks' s ≡ holder s)
      → Grows w c x y w.table locks' counts' e
  quiet e y stance kept log committed holder locks' counts' next log_is mine saved kept_is rests nothing idle becomes begins commits long holders = record {
    stance = stance;
    committed = committed;
    current = now w.history;
    holder = holder;
    side = record (side_of x) { kept = kept };
    becomes = becomes ∙ (λ i. record (side_of x) { cursor = idle i; kept = kept });
    next = rw log_is at next;
    mine = mine;
    saved = saved;
    kept = kept_is;
    waits = rw nothing (rest_waits stance.phase rests y.log.room);
    due = (tells.its_stance c x at).due;
    content = tells.content;
    apart = λ d other k held. refl;
    placed = record { placed = λ cursor key is. is; sound = λ sound. sound };
    spares = λ others covered. covered;
    buckets = buckets_same w.table;
    begins = begins;
    commits = commits;
    long = long;
    holders = holders;
  }

  pub level_in : (q : Phase) → x.stance.stance.phase ≡ q → IsLevelIn q x.stance.stance.standing x.stance.stance.kept
  level_in q is = subst (λ (p : Phase). IsLevelIn p x.stance.stance.standing x.stance.stance.kept) is (stance_leveled (own c w.history) x.stance.stance (tells.its_stance c x at).stance).within
