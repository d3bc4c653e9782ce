-- The entries that a call of a shared map adds, for each of its ends. A call for help may come between
-- two calls of a script; it adds no entry unless it ends with `OutOfStep`.
use Rattle.std.proofs.Common.{◌≡◌, ℕ, List, [], refl, sym, ◌∙◌, inl, inr, append-nil, ◌++◌, append_assoc, ap, Bool, true, false, not}
use Rattle.std.proofs.Common.{Option, Some, None, is_some}
use Rattle.thread_runs.proofs.Vocabulary.{Adds, Ended, HasRoomAt, HasRoomFor, IsSameCaller, Token, after_call, chunk_begun, Finish}
use Rattle.thread_runs.proofs.Vocabulary.{goes_quiet, IsAfterHelp, HasEnded, HasRunTo, is_out, IsIn, Next, Over, phase_at, Progress}
use Rattle.thread_runs.proofs.Vocabulary.{refused_at}
use Rattle.script_worker.proofs.Vocabulary.{Answer, Call, End, Entry, IsMade, OutOfStep, Refusal, Action, append_quiet, BadKey, call_at}
use Rattle.script_worker.proofs.Vocabulary.{Closed, CommitNothing, false≢true, first_heard, Heard, heard_then, is_bad_key, IsChunk, Outcome}
use Rattle.script_worker.proofs.Vocabulary.{outcome_by, progress_of, Stance, stance_after}
use Rattle.locked_map.proofs.Calling.{sound_if_free}
use Rattle.thread_runs.proofs.{ScriptEnds.MayLeave, ScriptEnds.Stands, ScriptEnds.stands_at, ScriptEnds.if_bad}

-- If a call's token refused the call, the call adds no entry. The same holds if the call was not
-- made because memory for its reply was refused.
pub adds_same : (c : ℕ) (call : Call) (refusal : Refusal) (seen seen' : List Entry) → seen' ≡ seen
    → Adds c call (End.Refused refusal) seen seen'
adds_same c call OutOfStep seen seen' is = record { added = []; entries = is ∙ sym (append-nil seen); made = tt; quiet = λ whole. refl }
adds_same c call refusal seen seen' is = record { added = []; entries = is ∙ sym (append-nil seen); made = refl; quiet = λ whole. tt }

-- If a call has ended with `outcome`, it has added the entries of this end (`Adds`). Its token
-- still belongs to the same caller.
pub adds_of : {S : Type 0} (words : S → List ℕ) (k : Token S) (call : Call) (outcome : End) (l : Token S) → Ended words k call outcome l → Adds k.number call outcome k.seen l.seen × IsSameCaller k l
adds_of words k call (End.Refused refusal) l (inl (refused, same)) =
    rw same (adds_same k.number call refusal k.seen k.seen refl, record { number = refl; limits = refl })
adds_of words k call (End.Refused OutOfStep) l (inr (free, fell)) =
    (record { added = fell.added; entries = fell.entries; made = tt; quiet = fell.quiet }, fell.whose)
adds_of words k call (End.Refused refusal) l (inr (free, none)) =
    (adds_same k.number call refusal k.seen l.seen none.seen, none.whose)
adds_of words k call outcome l ran = (record { added = ran.added; entries = ran.entries; made = ran.made; quiet = λ whole. tt }, ran.whose)

-- If there is room for the reply of a call (`HasRoomFor`), there is room for the reply in the
-- call's end (`HasRoomAt`).
pub room_at : (c : ℕ) (call : Call) (outcome : End) (added : List Entry) (room : ℕ) → IsMade c call outcome added → HasRoomFor call room → HasRoomAt outcome room
room_at c (Call.Op op) (End.Answered (Answer.Done reply)) added room made has = has
room_at c call (End.Answered (Answer.Done reply)) added room made has = absurd made
room_at c call outcome added room made has = tt

-- The state of the loop over a script's calls: the caller saw the entries `base` before the loop,
-- and the script has added the entries `chunk` since.
abbrev pub IsRunning : ℕ → List Action → Heard → List Entry → List Entry → Type 0
IsRunning c script heard base seen = (chunk : List Entry) × (seen ≡ base ++ chunk) × IsChunk c script heard chunk

-- After a call the loop continues, or the script has its outcome.
abbrev pub RunsOn : ℕ → ℕ → List Action → Heard → End → List Entry → List Entry → Progress → Type 0
RunsOn c tries script heard end base seen (Next next) = IsRunning c script (heard_then heard end next) base seen
RunsOn c tries script heard end base seen (Over finish) = HasRunTo c tries script (outcome_by finish end heard) base seen

pub run_call : (c tries : ℕ) (script : List Action) (heard : Heard) (base seen seen' : List Entry) (end : End) (p : Progress) → Adds c (call_at script heard.attempt.stage) end seen seen' → progress_of script tries heard.attempt end ≡ p
    → IsRunning c script heard base seen → RunsOn c tries script heard end base seen' p
run_call c tries script heard base seen seen' end (Next next) adds is (chunk, seen_is, so_far) =
    let grown : seen' ≡ base ++ (chunk ++ adds.added) = rw (adds.entries, seen_is, append_assoc) in
    let quiet = goes_quiet script tries heard.attempt next end adds.added is in
    (chunk ++ adds.added, grown, after_call c tries script heard chunk adds.added end (Next next) adds.made quiet so_far is)
run_call c tries script heard base seen seen' end (Over finish) adds is (chunk, seen_is, so_far) =
    let grown : seen' ≡ base ++ (chunk ++ adds.added) = rw (adds.entries, seen_is, append_assoc) in
    let account = after_call c tries script heard chunk adds.added end (Over finish) adds.made in
    (chunk ++ adds.added, grown, λ whole. account (adds.quiet whole) so_far is)

-- If a call for help does not end with `OutOfStep`, the entries that the token has seen are
-- unchanged. The token is broken exactly if it was broken before the call.
pub grown_by : {S : Type 0} (words : S → List ℕ) (k : Token S) (last : End) (key : ℕ) (outcome : End) (l : Token S)
    → last ≡ End.Answered (Answer.Done None) → Ended words k (Call.Help key) outcome l → IsAfterHelp k last (not (is_out outcome)) l
grown_by words k last key (End.Refused OutOfStep) l done ended = (done, key, words, ended)
grown_by words k last key (End.Refused refusal) l done (inl (refused, same)) = rw same (refl, refl)
grown_by words k last key (End.Refused refusal) l done (inr (free, none)) =
    (none.seen, none.sound ∙ sym (sound_if_free k.limits.half k.broken (stance_after k.seen) (Call.Help key) free))
grown_by words k last key End.Helped l done ran =
    let sound = sound_if_free k.limits.half k.broken (stance_after k.seen) (Call.Help key) ran.free in
    (rw (ran.made, append-nil) at ran.entries, ran.sound ∙ sym sound)
grown_by words k last key outcome l done ran = absurd ran.made

-- The invariant of the loop over a script's calls.
abbrev pub IsBefore : ℕ → Bool → List Action → List Entry → Heard → Bool → List Entry → Type 0
IsBefore c half script base heard broken seen = IsRunning c script heard base seen × (IsIn (phase_at heard.attempt.stage) broken seen × MayLeave half script heard.attempt.stage)

pub before_first : (c : ℕ) (half : Bool) (script : List Action) (base : List Entry) (heard : Heard) (broken : Bool) → heard ≡ first_heard
    → IsIn Closed broken base → IsBefore c half script base heard broken base
before_first c half script base heard broken is at = rw is (([], sym (append-nil base), chunk_begun c script), (at, tt))

-- The invariant still holds after a call and the call for help that may follow it, unless the call
-- for help ends with `OutOfStep`.
pub called : {S : Type 0} (c : ℕ) (half : Bool) (tries : ℕ) (script : List Action) (base : List Entry) (heard heard' : Heard) (j k l : Token S) (call : Call) (end : End) (p : Progress)
    → j.number ≡ c → j.limits.half ≡ half → call ≡ call_at script heard.attempt.stage → heard' ≡ heard → p ≡ progress_of script tries heard'.attempt end
    → Adds j.number call end j.seen k.seen → HasEnded j call end k → (k.broken ≡ false → is_some (stance_after k.seen) ≡ true) → IsAfterHelp k end true l
    → IsBefore c half script base heard j.broken j.seen
    → RunsOn c tries script heard' end base l.seen p × Stands half script l.broken l.seen p
called c half tries script base heard heard' j k l call end p mine halves call_is same p_is adds ended rows on before =
    rw (p_is, same, on.1, on.0) (
      run_call c tries script heard base j.seen k.seen end _ (rw (mine, call_is) at adds) refl before.0,
      stands_at half script tries heard.attempt.again heard.attempt.stage j k halves rows before.1.0 before.1.1 end (rw call_is at ended),
    )

out_if_refused : (half b : Bool) (stance : Option Stance) (key : ℕ) → (b ≡ false → is_some stance ≡ true) → refused_at half b stance (Call.Help key) ≡ Some OutOfStep → b ≡ true
out_if_refused half true stance key rows is = refl
out_if_refused half false None key rows is = absurd (false≢true (rows refl))
out_if_refused half false (Some s) key rows is = absurd (cc (if_bad (is_bad_key half key) BadKey OutOfStep is).1)

-- If a call for help ends with `OutOfStep`, the token is broken.
broken_by : {S : Type 0} (words : S → List ℕ) (k : Token S) (key : ℕ) (l : Token S)
    → (k.broken ≡ false → is_some (stance_after k.seen) ≡ true) → Ended words k (Call.Help key) (End.Refused OutOfStep) l → l.broken ≡ true
broken_by words k key l rows (inl (refused, same)) =
    rw same (out_if_refused k.limits.half k.broken (stance_after k.seen) key rows refused)
broken_by words k key l rows (inr (free, fell)) = fell.broken

-- Only an operation has a reply, and an operation commits nothing.
done_quiet : (c : ℕ) (call : Call) (reply : Option ℕ) (added : List Entry) → IsMade c call (End.Answered (Answer.Done reply)) added → CommitNothing added
done_quiet c (Call.Op op) reply added made = rw made
done_quiet c call reply added made = absurd made

-- If the call for help after a put ends with `OutOfStep`, the script's outcome is the refusal
-- `OutOfStep`.
pub fell_out : {S : Type 0} (c c' tries : ℕ) (script : List Action) (heard : Heard) (base seen : List Entry) (call : Call) (last : End)
    (k l : Token S) → Adds c' call last seen k.seen → (k.broken ≡ false → is_some (stance_after k.seen) ≡ true) → IsAfterHelp k last false l
    → IsRunning c script heard base seen → HasRunTo c tries script (Outcome.Refused OutOfStep) base l.seen × IsIn Closed l.broken l.seen
fell_out c c' tries script heard base seen call last k l adds rows (last_is, key, words, ended) running =
    let fell = (adds_of words k (Call.Help key) (End.Refused OutOfStep) l ended).0 in
    let silent : CommitNothing adds.added = done_quiet c' call None adds.added (rw last_is at adds.made) in
    let both : Adds c (call_at script heard.attempt.stage) (End.Refused OutOfStep) seen l.seen = record {
      added = adds.added ++ fell.added;
      entries = fell.entries ∙ ap (λ es. es ++ fell.added) adds.entries ∙ append_assoc seen adds.added fell.added;
      made = tt;
      quiet = λ whole. append_quiet adds.added fell.added silent (fell.quiet whole);
    } in
    let over = run_call c tries script heard base seen l.seen (End.Refused OutOfStep) (Over (Finish.Refused OutOfStep)) both refl running in
    (over, inl (broken_by words k key l rows ended))
