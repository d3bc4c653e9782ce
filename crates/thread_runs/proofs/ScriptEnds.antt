-- Shows that a script ends only with an outcome that it allows, because after each call the caller
-- is in the phase that the next call needs, or its token is broken.
use Rattle.std.proofs.Common.{◌≡◌, ◌∙◌, ℕ, ◌⊎◌, ◌+◌, nat_lt, Bool, true, false, zero, suc, List, [], ◌∷◌, length, Option, Some, None}
use Rattle.std.proofs.Common.{is_some, refl, sym, ap, inl, inr, if◌then◌else◌, slice_get, nat_le, IsTrue}
use Rattle.thread_runs.proofs.Vocabulary.{Acting, Beginning, Failed, Finish, get_empty, has_bad_key, HasEnded, HasPhase, is_abort, is_back}
use Rattle.thread_runs.proofs.Vocabulary.{is_op, is_out, IsIn, Leaving, may_refuse, MayBeRefused, MayCome, Next, Over, Phase, phase_at}
use Rattle.thread_runs.proofs.Vocabulary.{Progress, Ran, refusal_of_help, refused_token, Stage, Token}
use Rattle.script_worker.proofs.Vocabulary.{Action, Answer, attempt_at, BadKey, busy_at, Call, call_at, call_of, Closed, done_at, done_with}
use Rattle.script_worker.proofs.Vocabulary.{End, Entry, false≢true, first_step, Heard, is_bad_key, key_of, list_any, NoMemory, NoSuchLevel}
use Rattle.script_worker.proofs.Vocabulary.{Opened, option_or, or_right, outcome_by, OutOfStep, progress_at, Refusal, refusal_in}
use Rattle.script_worker.proofs.Vocabulary.{progress_refused, refused_in, refused_with, Stance, stance_after, StaleWord, StampsUsedUp}
use Rattle.thread_runs.proofs.Stances.{is_refusal, phase_after, phase_by, made_landed}

-- If the action at position `i` passes a test, some action of the script passes it.
pub any_at : (test : Action → Bool) (script : List Action) (i : ℕ) (action : Action) → slice_get script i ≡ Some action → test action ≡ true → IsTrue (list_any test script)
any_at test [] i action is passes = absurd (cc (get_empty i, is))
any_at test (first ∷ script) zero action is passes =
    let same : first ≡ action = cc is in
    rw (same, passes)
any_at test (first ∷ script) (suc i) action is passes = or_right (test first) (list_any test script) (any_at test script i action is passes)

-- If the stage is `Leaving` with a refusal, the script may have this refusal.
abbrev pub MayLeave : Bool → List Action → Stage → Type 0
MayLeave half script (Leaving refusal) = MayBeRefused half script refusal
MayLeave half script stage = Unit {0}

-- The ends that the script allows for its attempt.
abbrev pub MayBeOver : Bool → List Action → Finish → Type 0
MayBeOver half script Finish.Aborted = IsTrue (list_any is_abort script)
MayBeOver half script (Finish.Refused refusal) = MayBeRefused half script refusal
MayBeOver half script over = Unit {0}

-- The condition after a call that leads to this progress. The caller is in the phase that the
-- progress needs, or its token is broken (`IsIn`). If the progress names a refusal or an end, the
-- script allows it.
abbrev pub Stands : Bool → List Action → Bool → List Entry → Progress → Type 0
Stands half script broken seen (Next attempt) = IsIn (phase_at attempt.stage) broken seen × MayLeave half script attempt.stage
Stands half script broken seen (Over over) = IsIn Closed broken seen × MayBeOver half script over

-- The script may have this refusal at this action. If the action is an abort, or is None (which
-- stands for the commit), no refusal is allowed.
abbrev pub IsGood : Bool → List Action → Refusal → Option Action → Type 0
IsGood half script refusal None = ⊥
IsGood half script refusal (Some Action.Abort) = ⊥
IsGood half script refusal (Some action) = MayBeRefused half script refusal

abbrev pub IsGoodAt : Bool → List Action → Refusal → Stage → Type 0
IsGoodAt half script refusal Beginning = MayBeRefused half script refusal
IsGoodAt half script refusal (Acting i) = IsGood half script refusal (slice_get script i)
IsGoodAt half script refusal (Leaving why) = ⊥

module _ (half : Bool) (script : List Action) (tries again : ℕ) (broken : Bool) (seen : List Entry) where
  -- Lemmas on a call that did what it was asked to do, and on a call that found a stripe held.
  done_stands : (stage : Stage) → HasPhase (phase_after (phase_at stage) (call_at script stage)) (stance_after seen)
      → MayLeave half script stage → Stands half script broken seen (done_at script again stage)
  done_stands Beginning at may = (inr at, tt)
  done_stands (Acting i) at may = by (slice_get script i) refl at
    where
      by : (o : Option Action) → slice_get script i ≡ o → HasPhase (phase_after Opened (call_of o)) (stance_after seen)
          → Stands half script broken seen (done_with again i o)
      by (Some Action.Abort) is at = (inr at, any_at is_abort script i Action.Abort is refl)
      by o is at = (inr at, tt)
  done_stands (Leaving refusal) at may = (inr at, may)

  busy_stands : HasPhase Closed (stance_after seen) → Stands half script broken seen (busy_at tries again)
  busy_stands at =
      let after : Bool → Progress = λ b. if b then Next (attempt_at (again + 1) Beginning) else Over Finish.Busy in
      elim (nat_lt again tries) as (λ b. Stands half script broken seen (after b)) [ true ↦ (inr at, tt) | false ↦ (inr at, tt) ]

  -- Lemmas on a call that was refused and has added nothing.
  leaves : (refusal : Refusal) (stage : Stage) → IsIn (phase_at stage) broken seen → IsGoodAt half script refusal stage → Stands half script broken seen (refused_in script again stage refusal)
  leaves refusal Beginning at good = (at, good)
  leaves refusal (Acting i) at good = by (slice_get script i) good
    where
      by : (o : Option Action) → IsGood half script refusal o → Stands half script broken seen (refused_with again o refusal)
      by None good = absurd good
      by (Some Action.Abort) good = absurd good
      by (Some action) good = (at, good)
  leaves refusal (Leaving why) at good = absurd good

  refused_stands : (refusal : Refusal) (stage : Stage) → is_out (End.Refused refusal) ≡ false → IsIn (phase_at stage) broken seen
      → IsGoodAt half script refusal stage → Stands half script broken seen (progress_refused script again stage refusal)
  refused_stands OutOfStep stage plain at good = absurd (false≢true (sym plain))
  refused_stands refusal stage plain at good = leaves refusal stage at good

-- Lemmas on the refusals of a token that is not broken. A refusal is given only if its condition
-- holds (`if_bad`, `or_bad`).
pub if_bad : (b : Bool) (why refusal : Refusal) → (if b then Some why else None) ≡ Some refusal → (b ≡ true) × (why ≡ refusal)
if_bad true why refusal is = (refl, cc is)
if_bad false why refusal is = absurd (cc is)

or_bad : (b : Bool) (why refusal : Refusal) → option_or (if b then Some why else None) None ≡ Some refusal → (b ≡ true) × (why ≡ refusal)
or_bad true why refusal is = (refl, cc is)
or_bad false why refusal is = absurd (cc is)

stance_refused : (half : Bool) (script : List Action) (stage : Stage) (s : Stance) (refusal : Refusal) → option_or (refusal_in half (record s { phase = phase_at stage }) (first_step 0 (call_at script stage))) (refusal_of_help half (call_at script stage)) ≡ Some refusal
    → (is_out (End.Refused refusal) ≡ false) × IsGoodAt half script refusal stage
stance_refused half script (Acting i) s refusal is = by (slice_get script i) refl is
  where
    by : (o : Option Action) → slice_get script i ≡ o
        → option_or (refusal_in half (record s { phase = Opened }) (first_step 0 (call_of o))) (refusal_of_help half (call_of o)) ≡ Some refusal
        → (is_out (End.Refused refusal) ≡ false) × IsGood half script refusal o
    by (Some (Action.Op op)) at is =
        let bad = or_bad (is_bad_key half (key_of op)) BadKey refusal is in
        rw (← bad.1) (refl, any_at (has_bad_key half) script i (Action.Op op) at bad.0)
    by (Some (Action.Back n)) at is =
        let bad = or_bad (nat_le (length s.kept) n) NoSuchLevel refusal is in
        rw (← bad.1) (refl, any_at is_back script i (Action.Back n) at refl)
    by (Some (Action.Help key)) at is =
        let bad = if_bad (is_bad_key half key) BadKey refusal is in
        rw (← bad.1) (refl, any_at (has_bad_key half) script i (Action.Help key) at bad.0)
    by o at is = absurd (cc is)
stance_refused half script stage s refusal is = absurd (cc is)

-- If `may_refuse` allows a refusal for a call of the script, the script may have this refusal.
want_good : (half : Bool) (script : List Action) (stage : Stage) (refusal : Refusal) → may_refuse (call_at script stage) refusal ≡ true → IsGoodAt half script refusal stage
want_good half script Beginning NoMemory may = tt
want_good half script (Acting i) refusal may = by (slice_get script i) refl refusal may
  where
    by : (o : Option Action) → slice_get script i ≡ o → (r : Refusal) → may_refuse (call_of o) r ≡ true → IsGood half script r o
    by (Some (Action.Op op)) at StaleWord may = any_at is_op script i (Action.Op op) at refl
    by (Some Action.Abort) at r may = absurd (false≢true may)
    by (Some action) at NoMemory may = tt
    by (Some action) at StampsUsedUp may = tt
    by o at r may = absurd (false≢true may)
want_good half script stage refusal may = absurd (false≢true may)

-- If `IsIn` holds for a phase and the token does not refuse a call, the caller's stance has this
-- phase.
sound_in : (half b : Bool) (seen : List Entry) (call : Call) (phase : Phase) → refused_token half b (stance_after seen) call ≡ None → IsIn phase b seen → HasPhase phase (stance_after seen)
sound_in half b seen call phase free (inr at) = at
sound_in half b seen call phase free (inl broken) = absurd (cc (ap (λ (x : Bool). refused_token half x (stance_after seen) call) broken, free))

module _ {S : Type 0} (half : Bool) (script : List Action) (tries again : ℕ) (stage : Stage) (k l : Token S) (halves : k.limits.half ≡ half) (rows : l.broken ≡ false → is_some (stance_after l.seen) ≡ true) (at : IsIn (phase_at stage) k.broken k.seen) (may : MayLeave half script stage) where
  abbrev call : Call
  call = call_at script stage

  landed_by : (words : S → List ℕ) (outcome : End) → is_refusal outcome ≡ false → (ran : Ran words k call outcome l) → HasPhase (phase_by (phase_at stage) call outcome) (stance_after l.seen)
  landed_by words outcome plain ran =
      made_landed k.number (phase_at stage) k.seen l.seen ran.added ran.entries (rows ran.sound) call outcome plain
      (sound_in k.limits.half k.broken k.seen call (phase_at stage) ran.free at) ran.made

  failed_stands : (refusal : Refusal) → refused_token k.limits.half k.broken (stance_after k.seen) call ≡ None → Failed k call refusal l → Stands half script l.broken l.seen (progress_refused script again stage refusal)
  failed_stands OutOfStep free fell = (inl fell.broken, tt)
  failed_stands refusal free none =
      let before = sound_in k.limits.half k.broken k.seen call (phase_at stage) free at in
      leaves half script tries again l.broken l.seen refusal stage (inr (rw none.seen before))
      (want_good half script stage refusal none.may)

  token_stands : (b : Bool) (o : Option Stance) (refusal : Refusal) → refused_token half b o call ≡ Some refusal
      → (b ≡ true) ⊎ HasPhase (phase_at stage) o → IsIn (phase_at stage) b k.seen
      → Stands half script b k.seen (progress_refused script again stage refusal)
  token_stands true o refusal is at here = let same : OutOfStep ≡ refusal = cc is in rw (← same) (inl refl, tt)
  token_stands false o refusal is (inl broken) here = absurd (false≢true broken)
  token_stands false None refusal is (inr at) here = absurd (cc at.1)
  token_stands false (Some s) refusal is (inr (t, stance_is, is_phase)) here =
      let same : s ≡ t = cc stance_is in
      let phase = ap (λ (q : Stance). q.phase) same ∙ is_phase in
      let stance_at : s ≡ record s { phase = phase_at stage } = ap (λ (p : Phase). record s { phase = p }) phase in
      let (plain, good) = stance_refused half script stage s refusal (rw stance_at at is) in
      refused_stands half script tries again false k.seen refusal stage plain here good

  -- If a call of a script's attempt has ended, `Stands` holds for the progress after the call.
  pub stands_at : (outcome : End) → HasEnded k call outcome l
      → Stands half script l.broken l.seen (progress_at script tries again stage outcome)
  stands_at (End.Answered a) (inl ended) =
      done_stands half script tries again l.broken l.seen stage (landed_by ended.0 (End.Answered a) refl ended.1) may
  stands_at End.Helped (inl ended) =
      done_stands half script tries again l.broken l.seen stage (landed_by ended.0 End.Helped refl ended.1) may
  stands_at (End.Busy x) (inl ended) = busy_stands half script tries again l.broken l.seen (landed_by ended.0 (End.Busy x) refl ended.1)
  stands_at (End.Refused refusal) (inl (words, inl (refused, same))) =
      rw same (token_stands k.broken (stance_after k.seen) refusal (rw halves at refused) at at)
  stands_at (End.Refused refusal) (inl (words, inr (free, failed))) = failed_stands refusal free failed
  stands_at (End.Refused refusal) (inr none) =
      let same : refusal ≡ NoMemory = cc none.0 in
      rw (none.2, same) (leaves half script tries again k.broken k.seen NoMemory stage at (want_good half script stage NoMemory none.1))
  stands_at outcome (inr none) = absurd (cc none.0)

pub over_may : (half : Bool) (script : List Action) (finish : Finish) (outcome : End) (heard : Heard) → MayBeOver half script finish
    → MayCome half script (outcome_by finish outcome heard)
over_may half script Finish.Committed (End.Answered (Answer.Committed place)) heard may = tt
over_may half script Finish.Aborted outcome heard may = may
over_may half script (Finish.Refused refusal) outcome heard may = may
over_may half script finish outcome heard may = tt
