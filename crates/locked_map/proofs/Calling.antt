-- Shows what a call leaves, for each end that its last hold may give, because each hold before it
-- kept the call in progress, and the end says what the token's side value and claims become.
use Rattle.std.proofs.Common.{◌≡◌, ℕ, suc, [], Option, Some, None, refl, ap, Bool, true, false, List, inl, inr, sym, ◌↔◌, ◌∙◌}
use Rattle.std.proofs.Common.{if◌then◌else◌, Result, Err, is_some}
use Rattle.locked_map.specs.Vocabulary.{Call, CommitNothing, Drive, End, Sizes, State, made, new_drive, stance_after, IsSameSide, Leveled}
use Rattle.locked_map.specs.Vocabulary.{NoMemory, OutOfStep, Refusal, Stance, BadKey, Stop, is_bad_key}
use Rattle.locked_map.proofs.Vocabulary.{append-nil, false≢true}
use Rattle.std.specs.List.{filter}
use Rattle.txn_words.specs.Kinds.{is_commit}
use Rattle.txn_drive.specs.Drives.{first_phase}
use Rattle.locked_map.specs.Holds.{FitsIf, Held, IsGoing, HasRun, is_out}
use Rattle.locked_map.specs.Calls.{IsHeld, IsHolding, Ended, Failed, IsDone, Passed, Ran, WasRefused, WentOn, LeavesBy}
use Rattle.locked_map.specs.Tokens.{Token, IsSameCaller, IsSameSeen}
use Rattle.std.proofs.lemmas.Bool.{not-false}
use Rattle.locked_map.specs.Ready.{IsUnready, Lacks, refused_at, refused_by}
use Rattle.locked_map.specs.Claims.{Readies, claims_at}
use Rattle.locked_map.specs.Ready.{MovesSide}
use Rattle.locked_map.specs.Suits.{may_refuse}
use Rattle.txn_words.specs.declared.answer.Answer.TheVariants as answers
use Rattle.txn_drive.specs.declared.call.Call.TheVariants as calls
use Rattle.txn_drive.specs.declared.«end».End.TheVariants as ends
use Rattle.txn_words.specs.declared.stop.Stop.TheVariants as stops

-- A new drive has committed nothing.
pub new_quiet : (d : Drive) → made d ≡ [] → CommitNothing (made d)
new_quiet d none = ap (filter is_commit) none

-- A call before its first hold.
pub record Starts {S : Type 0} (k : Token S) (call : Call) (d : Drive) : Type 0 where
  pub going : IsGoing k.seen k.seen d
  pub whose : d.caller ≡ k.number
  pub what : d.call ≡ call
  pub holding : IsHolding k call k d

pub starts : {S : Type 0} (k : Token S) (call : Call) (d : Drive) (limits : Sizes) (number : ℕ) → limits ≡ k.limits → number ≡ k.number → d ≡ new_drive limits.half number call → made d ≡ []
    → FitsIf (stance_after k.seen) call (first_phase k.limits.half call) → Starts k call d
starts k call d limits number limits_are number_is drive none fits =
    let new : d ≡ new_drive k.limits.half k.number call = rw (drive, limits_are, number_is) in record {
      going = record { on = record { entries = cc (append-nil k.seen); fits = rw new fits }; quiet = new_quiet d none };
      whose = rw new;
      what = rw new;
      holding = record { holds = 0; held = (refl, new) };
    }

-- A hold after which the call goes on, and the hold that ends the call.
pub holds_on : {S : Type 0} (k between l : Token S) (call : Call) (half e : Drive) (m n : State) (r : Option End) → IsHolding k call between half → r ≡ None → Held m between half r n l e → IsHolding k call l e
holds_on k between l call half e m n r on none held =
    record { holds = suc on.holds; held = (between, half, m, n, on.held, rw none at held) }

pub is_held : {S : Type 0} (k between l : Token S) (call : Call) (half e : Drive) (m n : State) (r : Option End) (outcome : End) → IsHolding k call between half → r ≡ Some outcome → Held m between half r n l e → IsHeld k call outcome l
is_held k between l call half e m n r outcome on is held =
    record { between = between; half = half; holding = on; before = m; after = n; last = e; held = rw is at held }

-- If `a` and `b` are equal side values and an end changes `b` to `c`, the end also changes `a` to
-- `c`.
follows_on : {S : Type 0} (words : S → List ℕ) (outcome : End) (a b c : Leveled S) → IsSameSide a b → MovesSide words outcome b c → MovesSide words outcome a c
follows_on words (ends.Answered (answers.Began t)) a b c same on = record { value = cc; levels = cc; changes = cc; kept = cc }
follows_on words outcome a b c same on = record { value = cc; levels = cc; changes = cc; kept = cc }

-- Lemmas about a call that its token `k` does not refuse. `r` is the token when it is ready for the
-- call's holds, and `h` is the token after these holds. `l` is the token after the call's end has
-- changed its side value and its claims.
module _ {S : Type 0} (words : S → List ℕ) (k r h l : Token S) (call : Call) (free : refused_by k call ≡ None) (same : IsSameSeen k r) (side : IsSameSide k.side r.side) (readied : Readies k.claims call r.claims) (held_side : h.side ≡ r.side)
    (caller : IsSameCaller r h) (kept : h.claims ≡ r.claims) (followed : IsSameSeen h l) where
  whose : IsSameCaller k l
  whose = record { number = cc; limits = cc }

  went_on : (outcome : End) → IsHeld r call outcome h → l.claims ≡ claims_at outcome h.claims → WentOn k call outcome l
  went_on outcome held claims = record { ready = r; same = same; readied = readied; last = h; held = held; seen = followed.seen; claims = cc }

  side_is : (outcome : End) → MovesSide words outcome h.side l.side → MovesSide words outcome k.side l.side
  side_is outcome follows = follows_on words outcome k.side r.side l.side side (rw held_side at follows)

  pub ended_of : (outcome : End) → h.broken ≡ is_out outcome → HasRun r.seen h.seen r.number call outcome → IsHeld r call outcome h → MovesSide words outcome h.side l.side → l.claims ≡ claims_at outcome h.claims → Ended words k call outcome l
  ended_of (ends.Refused OutOfStep) broken run held follows claims = inr (
    free,
    record {
      whose = whose;
      broken = cc;
      added = run.added;
      entries = cc;
      quiet = λ whole. run.quiet (rw followed.seen at whole);
      side = side_is (ends.Refused OutOfStep) follows;
      cause = inr (went_on (ends.Refused OutOfStep) held claims);
    },
  )
  ended_of (ends.Refused refusal) broken run held follows claims = inr (
    free,
    record {
      may = not-false (may_refuse call refusal) run.may;
      whose = whose;
      sound = cc;
      seen = cc (run.made, append-nil r.seen);
      side = side_is (ends.Refused refusal) follows;
      cause = inr (went_on (ends.Refused refusal) held claims);
    },
  )
  ended_of outcome broken run held follows claims = record {
    free = free;
    whose = whose;
    sound = cc;
    added = run.added;
    entries = cc;
    made = rw same.whose.number at run.made;
    side = side_is outcome follows;
    went = went_on outcome held claims;
  }

-- If a call ran and its end is `IsDone`, the call did what it was asked to do.
pub passed_of : {S : Type 0} (words : S → List ℕ) (k l : Token S) (call : Call) (outcome : End) → IsDone outcome → Ran words k call outcome l → Passed k call l
passed_of words k l call outcome done ran = record { free = ran.free; whose = ran.whose; sound = ran.sound; outcome = outcome; done = done; went = ran.went }

-- If a token does not refuse a call, it is not broken.
pub sound_if_free : (half b : Bool) (stance : Option Stance) (call : Call) → refused_at half b stance call ≡ None → b ≡ false
sound_if_free half true stance call free = absurd (cc free)
sound_if_free half false stance call free = refl

-- Lemmas about a call for which the token was not made ready.
module _ {S : Type 0} (k l : Token S) where
  found_none : (call : Call) (refusal : Refusal) → may_refuse call NoMemory ≡ true → k.broken ≡ false → refusal ≡ NoMemory → l ≡ k → Failed k call refusal l
  found_none call refusal may sound is same = rw (is, same) (record {
    may = may;
    whose = record { number = refl; limits = refl };
    sound = sound;
    seen = refl;
    side = record { value = refl; levels = refl; changes = refl; kept = refl };
    cause = inl (refl, refl);
  })

  lacked : (call : Call) (refusal : Refusal) → k.broken ≡ false → Lacks k call refusal l → Failed k call refusal l
  lacked (calls.Op op) refusal sound (is, same) = found_none (calls.Op op) refusal refl sound is same
  lacked calls.Save refusal sound (is, same) = found_none calls.Save refusal refl sound is same
  lacked (calls.Back level) refusal sound (is, above, same) = rw (is, same) (record {
    whose = record { number = refl; limits = refl };
    broken = refl;
    added = [];
    entries = sym (append-nil k.seen);
    quiet = λ whole. refl;
    side = record { value = refl; levels = refl; changes = refl; kept = refl };
    cause = inl (above, refl, refl);
  })
  lacked call refusal sound none = absurd none

  pub was_refused : (call : Call) (refusal : Refusal) → IsUnready k call refusal l → WasRefused k call refusal l
  was_refused call refusal (inl by_token) = inl by_token
  was_refused call refusal (inr later) =
      inr (later.0, lacked call refusal (sound_if_free k.limits.half k.broken (stance_after k.seen) call later.0) later.1)

help_at : (half b : Bool) (o : Option Stance) (key : ℕ) → b ≡ false → is_some o ≡ true → refused_at half b o (calls.Help key) ≡ (if is_bad_key half key then Some BadKey else None)
help_at half b None key sound whole = absurd (cc whole)
help_at half b (Some s) key sound whole = rw sound

bad_only : (bad : Bool) → (if bad then Some BadKey else None) ≡ Some BadKey → bad ≡ true
bad_only true is = refl
bad_only false is = absurd (cc is)

refused_bad : {S : Type 0} (k l : Token S) (key : ℕ) → refused_by k (calls.Help key) ≡ (if is_bad_key k.limits.half key then Some BadKey else None) → WasRefused k (calls.Help key) BadKey l → is_bad_key k.limits.half key ≡ true
refused_bad k l key at (inl by_token) = bad_only (is_bad_key k.limits.half key) (sym at ∙ by_token.0)
refused_bad k l key at (inr later) = absurd (false≢true later.1.may)

bad_refused : {S T : Type 0} (words : S → List ℕ) (k l : Token S) (key : ℕ) (r : Result T Stop) → refused_by k (calls.Help key) ≡ Some BadKey → LeavesBy words k (calls.Help key) r l → r ≡ Err (stops.Refused BadKey)
bad_refused words k l key (Err (stops.Refused refusal)) at (inl by_token) = cc (at, by_token.0)
bad_refused words k l key (Err (stops.Refused refusal)) at (inr later) = absurd (cc (at, later.0))
bad_refused words k l key r at leaves = absurd (cc (at, leaves.free))

-- If the token is not broken, a call for help is refused with `BadKey` exactly if its key is bad.
pub help_bad_key : {S T : Type 0} (words : S → List ℕ) (k l : Token S) (key : ℕ) (r : Result T Stop) → (k.broken ≡ false → is_some (stance_after k.seen) ≡ true) → LeavesBy words k (calls.Help key) r l
    → k.broken ≡ false → (r ≡ Err (stops.Refused BadKey)) ↔ (is_bad_key k.limits.half key ≡ true)
help_bad_key words k l key r rows leaves sound =
    let at = help_at k.limits.half k.broken (stance_after k.seen) key sound (rows sound) in (
      (λ is. refused_bad k l key at (rw is at leaves)),
      λ bad. bad_refused words k l key r (at ∙ ap (λ b. if b then Some BadKey else None) bad) leaves,
    )
