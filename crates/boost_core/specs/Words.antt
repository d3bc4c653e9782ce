-- PROMISES stripes-as-atomic-words: Asks
-- The two ways to ask for an operation if stripes are words: with the right to the stripe, or with
-- the stripe's word. A word is 0 or the number of the caller that it names, plus one.
pub use Rattle.boost_core.specs.declared.claim.Claim.{Claim}
pub use Rattle.boost_core.specs.declared.claim.Claim.TheVariants.{Lock, Right, Held, Stale}
use Rattle.std.specs.Prelude.{◌≡◌, ◌⊎◌, ℕ, ◌+◌, ◌==◌, ◌&&◌, Bool, true, false, not, IsTrue, None, if◌then◌else◌}
use Rattle.boost_core.specs.Vocabulary.{may_change, Now, Entry, Op, Step, Ask, Answer, NoMemory, StaleWord, StampsUsedUp, reserved, has_begun, is_locked}
use Rattle.boost_core.specs.State.{State}
use Rattle.boost_core.specs.Refusals.{refusal_of, has_stamp_for}
use Rattle.boost_core.specs.Answers.{may_stand}
use Rattle.boost_core.specs.Machine.{Move, Lists, Touches, stamp_after}

abbrev pub is_ask : Step → Bool
is_ask (Ask c op) = true
is_ask step = false

-- Whether another caller holds the stripe of an operation now.
abbrev pub is_taken : State → ℕ → Op → Bool
is_taken state c op = not (is_locked Now state.limits.stripes state.history (Entry.Asked c op))

-- The claim of caller `c`, given a stripe's word that names caller `named`. If `named` is `c`
-- itself or has never begun a transaction, the word is stale. Otherwise the claim is that `named`
-- holds the stripe.
abbrev pub claim_of : State → ℕ → ℕ → Claim
claim_of state c named =
    if not (named == c) && has_begun named state.history then Held named else Stale

-- Whether a claim is refused as stale, if nothing else refuses the step. A right is stale if
-- another caller holds the stripe. A word is stale if it names no caller that may hold the stripe.
abbrev pub is_stale : Claim → State → Step → Bool
is_stale Right state (Ask c op) = has_stamp_for state op && is_taken state c op
is_stale Stale state (Ask c op) = true
is_stale claim state step = false

-- The room that a step with this claim reserves in the history. If the claim is a word, the step
-- reserves none, since the entry that it may add is owed already.
abbrev pub reserved_by : Claim → Step → ℕ
reserved_by Lock step = reserved step
reserved_by Right step = reserved step
reserved_by claim step = 0

-- Whether a step with this claim may have this answer, if the claim is not refused as stale.
abbrev pub may_come : Claim → Answer → Bool
may_come Lock answer = true
may_come Right (Answer.Busy x) = false
may_come Right answer = true
may_come (Held named) (Answer.Busy x) = x == named
may_come claim (Answer.Refused NoMemory) = false
may_come claim (Answer.Refused StampsUsedUp) = false
may_come claim (Answer.Refused refusal) = true
may_come claim answer = false

-- A claim is refused as stale. Nothing has changed, except perhaps the nodes, the last stamp and the
-- gaps, of which this record says nothing. `ListsAsk` gives the nodes and the last stamp.
pub record IsStale (claim : Claim) (old : State) (step : Step) (answer : Answer)
    (new : State) : Type 0 where
  pub refused : answer ≡ Answer.Refused StaleWord
  pub free : refusal_of old step ≡ None
  pub stale : IsTrue (is_stale claim old step)
  pub state : new
      ≡ record old {
        stamp = new.stamp;
        nodes = new.nodes;
        gaps = new.gaps;
        helper_gaps = new.helper_gaps;
      }

-- An operation is asked for with this claim. Either the claim is refused as stale, or `Ask` makes a
-- move with an answer that the claim allows.
abbrev pub Asks : Claim → State → Step → Answer → State → Type 0
Asks claim old step answer new =
    IsStale claim old step answer new ⊎ (IsTrue (may_come claim answer) × Move old step answer new)

-- The last stamp after the step `Ask` with this claim. If the claim is a right, an operation that
-- needs a spare takes one, and so uses up a stamp, even if the claim turns out to be stale. If the
-- claim is a word, no spare is taken.
abbrev pub stamp_by : Claim → ℕ → Step → Answer → ℕ
stamp_by Lock stamp step answer = stamp_after stamp step answer
stamp_by Right stamp (Ask c op) (Answer.Refused StaleWord) =
    if may_change op then stamp + 1 else stamp
stamp_by Right stamp step answer = stamp_after stamp step answer
stamp_by claim stamp step answer = stamp

-- What the step `Ask` with this claim does to the list. The nodes and the change number are
-- unchanged, and `stamp_by` gives the last stamp.
pub record ListsAsk (claim : Claim) (old : State) (step : Step) (answer : Answer)
    (new : State) : Type 0 where
  pub nodes : Touches old step answer new
  pub stamp : new.stamp ≡ stamp_by claim old.stamp step answer

-- The requirement on a claim. The step `Ask` has the claim `Lock` exactly if stripes are not words.
-- Any other step always has the claim `Lock`. If the claim names a holder, the rule of locks allows
-- a Busy entry that names this holder.
abbrev pub IsClaim : Claim → State → Step → Type 0
IsClaim Lock state step = state.words ≡ true → is_ask step ≡ false
IsClaim Right state (Ask c op) = state.words ≡ true
IsClaim (Held named) state (Ask c op) =
    (state.words ≡ true) × (may_stand state (Entry.Busy c op named) ≡ true)
IsClaim Stale state (Ask c op) = state.words ≡ true
IsClaim claim state step = ⊥

-- The answer to a caller's step with this claim, and the effect of the step.
abbrev pub Goes : Claim → State → Step → Answer → State → Type 0
Goes Lock old step answer new = Move old step answer new
Goes claim old step answer new = Asks claim old step answer new

abbrev pub ListsBy : Claim → State → Step → Answer → State → Type 0
ListsBy Lock old step answer new = Lists old step answer new
ListsBy claim old step answer new = ListsAsk claim old step answer new
