-- The phase of a caller's stance after each call of a script, unless the call is refused. If a call
-- adds entries, the last of them decides the phase.
use Rattle.std.proofs.Common.{◌≡◌, ℕ, ◌+◌, take, slice_index, ◌==◌, ◌&&◌, Bool, true, false, cond, List, [], ◌∷◌, ◌++◌, append_assoc}
use Rattle.std.proofs.Common.{Option, Some, None, is_some, refl, sym, ap, ◌∙◌, option_and_then, append-nil}
use Rattle.thread_runs.proofs.Vocabulary.{HasPhase, Phase}
use Rattle.script_worker.proofs.Vocabulary.{Aborted, Answer, Asked, Began, Busy, Call, Closed, closed_stance, Committed, Did, End, Entry}
use Rattle.script_worker.proofs.Vocabulary.{false≢true, IsMade, Leave, LeavingTo, LeavingToEnd, Opened, Returned, row, Saved, Stance}
use Rattle.script_worker.proofs.Vocabulary.{stance_after, stance_after-push, undone_by, Waiting}

-- The phase after an entry that ends a call's work.
abbrev lands : Entry → Phase
lands (Committed c p) = Closed
lands (Aborted c) = Closed
lands e = Opened

abbrev ends_work : Entry → Bool
ends_work (Began c t) = true
ends_work (Did c r) = true
ends_work (Saved c) = true
ends_work (Returned c n) = true
ends_work (Committed c p) = true
ends_work (Aborted c) = true
ends_work e = false

if_some : (b : Bool) (s : Stance) (p : Phase) → s.phase ≡ p → is_some (cond b (Some s) None) ≡ true → HasPhase p (cond b (Some s) None)
if_some true s p is some = (s, refl, is)
if_some false s p is some = absurd (false≢true some)

landed : (e : Entry) (o : Option Stance) → ends_work e ≡ true → is_some (option_and_then (λ s. row s s.phase e) o) ≡ true → HasPhase (lands e) (option_and_then (λ s. row s s.phase e) o)
landed e None w h = absurd (false≢true h)
landed e (Some s) w h = at e s.phase refl w h
  where
    at : (f : Entry) (q : Phase) → s.phase ≡ q → ends_work f ≡ true → is_some (row s q f) ≡ true → HasPhase (lands f) (row s q f)
    at (Began x t) Closed is w h = (record closed_stance { phase = Opened }, refl, refl)
    at (Did x r) (Waiting op) is w h = (_, refl, refl)
    at (Saved x) Opened is w h = (_, refl, is)
    at (Returned x m) (LeavingTo n) is w h = if_some ((n == m) && (slice_index s.kept n == s.standing)) (record s { phase = Opened; kept = take (n + 1) s.kept }) Opened refl h
    at (Committed x p) Opened is w h = (closed_stance, refl, refl)
    at (Aborted x) LeavingToEnd is w h = if_some (s.standing == 0) closed_stance Closed refl h
    at f q is w h = absurd (cc)

abbrev pub is_refusal : End → Bool
is_refusal (End.Refused refusal) = true
is_refusal outcome = false

-- `phase_after` is the phase after a call that did what it was asked to do. `phase_by` is the phase
-- after such a call, or after a call that found a stripe held.
abbrev pub phase_after : Phase → Call → Phase
phase_after phase Call.Commit = Closed
phase_after phase Call.Abort = Closed
phase_after phase (Call.Help key) = phase
phase_after phase call = Opened

abbrev pub phase_by : Phase → Call → End → Phase
phase_by phase call (End.Busy x) = Closed
phase_by phase call outcome = phase_after phase call

module _ (c : ℕ) (phase : Phase) (seen seen' added : List Entry) (is : seen' ≡ seen ++ added)
    (some : is_some (stance_after seen') ≡ true) where
  -- If the last added entry ends a call's work, the caller's phase is `lands` of this entry.
  by_last : (front : List Entry) (e : Entry) → ends_work e ≡ true → added ≡ front ++ e ∷ [] → HasPhase (lands e) (stance_after seen')
  by_last front e w made =
      let grown : seen' ≡ (seen ++ front) ++ e ∷ [] = rw (is, made, append_assoc) in
      let pushed = ap stance_after grown ∙ stance_after-push (seen ++ front) e in
      rw pushed (landed e (stance_after (seen ++ front)) w (sym (ap is_some pushed) ∙ some))

  pub made_landed : (call : Call) (outcome : End) → is_refusal outcome ≡ false → HasPhase phase (stance_after seen)
      → IsMade c call outcome added → HasPhase (phase_by phase call outcome) (stance_after seen')
  made_landed Call.Begin (End.Answered (Answer.Began t)) plain before made = by_last [] (Began c t) refl made
  made_landed (Call.Op op) (End.Answered (Answer.Done reply)) plain before made = by_last (Asked c op ∷ []) (Did c reply) refl made
  made_landed (Call.Op op) (End.Busy x) plain before (k, made) = by_last (Busy c op x ∷ undone_by c k) (Aborted c) refl made
  made_landed Call.Save (End.Answered (Answer.Saved n)) plain before made = by_last [] (Saved c) refl made
  made_landed (Call.Back n) (End.Answered (Answer.Returned m)) plain before (same, (k, made)) =
      by_last (Leave c (Some n) ∷ undone_by c k) (Returned c n) refl made
  made_landed Call.Commit (End.Answered (Answer.Committed p)) plain before made = by_last [] (Committed c p) refl made
  made_landed Call.Abort (End.Answered Answer.Aborted) plain before (k, made) =
      by_last (Leave c None ∷ undone_by c k) (Aborted c) refl made
  made_landed (Call.Help key) End.Helped plain before made = rw (is, made, append-nil) before
  made_landed call (End.Refused refusal) plain before made = absurd (false≢true (sym plain))
  made_landed call outcome plain before made = absurd made
