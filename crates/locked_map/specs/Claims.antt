-- PROMISES stripes-as-atomic-words: Tries, Readies
-- The rights that a caller has, the word that it tried last, and what calls do to both.
use Rattle.std.specs.Prelude.{ℕ, ◌≡◌, ◌≢◌, ◌+◌, ◌-◌, ◌==◌, List, [], ◌∷◌, ◌++◌, Option, Some, None, slice_get, if◌then◌else◌}
use Rattle.locked_map.specs.Vocabulary.{Another, Ask, Call, Claim, End, Holds, Lock, Mine, Rights, State, Step, TableId, Tried}
use Rattle.txn_words.specs.declared.answer.Answer.TheVariants as answers
use Rattle.txn_trace.specs.Locks.{stripe_of}
use Rattle.txn_words.specs.Map.{key_of}
use Rattle.txn_drive.specs.declared.call.Call.TheVariants as calls
use Rattle.txn_drive.specs.declared.«end».End.TheVariants as ends
use Rattle.key_words.specs.declared.view.View.{View}
use Rattle.key_words.specs.declared.words.KeyWords.{KeyWords}
use Rattle.key_words.specs.Kept.{none_held}
use Rattle.key_words.specs.Seats.{IsOf}
use Rattle.key_words.specs.Steps.{gained, with_note}
use Rattle.boost_core.specs.declared.claim.Claim.TheVariants.{Right}
use Rattle.boost_core.specs.Words.{claim_of}

-- A trial of a stripe. If the caller has the right to the stripe after the trial, `word` is 0.
-- Otherwise `word` is the word that the trial found. If the caller had the right before the trial,
-- no word was tried.
pub record Trial : Type 0 where
  pub stripe : ℕ
  pub word : ℕ

abbrev pub trial : ℕ → ℕ → Option Trial
trial stripe word = Some (record { stripe = stripe; word = word })

-- A caller's claims: the words of its map, the number of stripes, the view of the caller's seat,
-- the stripes to which it has the right (the newest last), and its last trial.
pub record Claimed : Type 0 where
  pub words : TableId
  pub stripes : ℕ
  pub seat : View
  pub held : List ℕ
  pub tried : Option Trial

-- The trial of a stripe with this result, or `None` if there was no trial.
abbrev pub trial_of : ℕ → Option Tried → Option Trial
trial_of stripe None = None
trial_of stripe (Some (Mine place)) = trial stripe 0
trial_of stripe (Some (Another word)) = trial stripe word

-- If the try found a right, this right is at the position that the try names. If the try found
-- another seat's word, the word is not 0.
abbrev pub IsTrial : List ℕ → ℕ → Option Tried → Type 0
IsTrial rights stripe None = Unit {0}
IsTrial rights stripe (Some (Mine place)) = slice_get rights place ≡ Some stripe
IsTrial rights stripe (Some (Another word)) = word ≢ 0

-- The seat belongs to these words, and the result of the last try fits the rights (`IsTrial`).
pub record IsClaimed (words : KeyWords) (rights : Rights) (stripe : ℕ) (tried : Option Tried) :
    Type 0 where
  pub seat : IsOf rights.seat words
  pub trial : IsTrial rights.rights.items stripe tried

-- There has been no trial yet, and no right is held.
pub record IsIdle (k : Claimed) : Type 0 where
  pub notes : k.seat.notes ≡ []
  pub stripes : k.seat.held ≡ []
  pub held : k.held ≡ []
  pub tried : k.tried ≡ None

-- What a trial of a stripe finds: the caller has the right already, the word is 0, or the word
-- names another seat.
pub data Found : Type 0 where
  InHand : Found
  WasFree : Found
  WasHeld : ℕ → Found

-- If the caller has the right already, no word is tried. Otherwise the stripe's word is tried, and
-- the seat gets one more note: this stripe, with the word that was found. If the word was 0, the
-- caller gets the right. If not, the word names another seat.
abbrev pub TriesAt : Found → Claimed → ℕ → Claimed → Type 0
TriesAt InHand k stripe l = Holds k.seat stripe × (l ≡ record k { tried = trial stripe 0 })
TriesAt WasFree k stripe l =
    (Holds k.seat stripe → ⊥)
    × (l
    ≡ record k {
      seat = gained k.seat stripe;
      held = k.held ++ stripe ∷ [];
      tried = trial stripe 0;
    })
TriesAt (WasHeld word) k stripe l =
    (Holds k.seat stripe → ⊥) × (word ≢ 0) × (word ≢ k.seat.number + 1)
    × (l ≡ record k { seat = with_note k.seat stripe word; tried = trial stripe word })

-- A stripe's word is tried, unless the caller has the right to the stripe.
pub record Tries (k : Claimed) (stripe : ℕ) (l : Claimed) : Type 0 where
  pub found : Found
  pub so : TriesAt found k stripe l

-- The last trial was of this stripe.
abbrev pub HasTriedAt : Option Trial → ℕ → Type 0
HasTriedAt None stripe = ⊥
HasTriedAt (Some trial) stripe = trial.stripe ≡ stripe

-- If the call is an operation, the last trial was of the stripe to which the operation's key
-- belongs.
abbrev pub HasTriedFor : Option Trial → ℕ → Call → Type 0
HasTriedFor tried stripes (calls.Op op) = HasTriedAt tried (stripe_of stripes (key_of op))
HasTriedFor tried stripes call = Unit {0}

-- If the step asks for an operation, the last trial was of the stripe to which the operation's key
-- belongs.
abbrev pub HasTriedStep : Option Trial → ℕ → Step → Type 0
HasTriedStep tried stripes (Ask c op) = HasTriedAt tried (stripe_of stripes (key_of op))
HasTriedStep tried stripes step = Unit {0}

-- If there is a step, `HasTriedStep` holds for it.
abbrev pub HasTriedIf : Option Trial → ℕ → Option Step → Type 0
HasTriedIf tried stripes None = Unit {0}
HasTriedIf tried stripes (Some step) = HasTriedStep tried stripes step

-- The claim of caller `c` after this trial. If the trial found the right, the claim is `Right`.
-- Otherwise `claim_of` gives the claim from the word that the trial found.
abbrev pub claim_by : State → ℕ → Trial → Claim
claim_by m c trial = if trial.word == 0 then Right else claim_of m c (trial.word - 1)

-- The claim of a step to its stripe. A step that asks for an operation has the claim that the last
-- trial gives (`claim_by`). Any other step has the claim `Lock`, which uses neither a right nor a
-- word. If there is no last trial, every step has the claim `Lock`.
abbrev pub claim_in : Option Trial → State → Step → Claim
claim_in None m step = Lock
claim_in (Some trial) m (Ask c op) = claim_by m c trial
claim_in (Some trial) m step = Lock

-- The claims `k` are made ready for the first hold of a call, and become `l`. An operation tries
-- the word of its key's stripe, unless the caller has the right to this stripe. Any other call
-- changes nothing.
abbrev pub Readies : Claimed → Call → Claimed → Type 0
Readies k (calls.Op op) l = Tries k (stripe_of k.stripes (key_of op)) l
Readies k call l = l ≡ k

-- The claims after all rights have been given back.
abbrev pub given_back : Claimed → Claimed
given_back k = record k { seat = none_held k.seat; held = []; tried = None }

-- The claims after the end of a call. If the call ends its transaction, all rights are given back;
-- otherwise the claims are unchanged.
abbrev pub claims_at : End → Claimed → Claimed
claims_at (ends.Answered (answers.Committed place)) k = given_back k
claims_at (ends.Answered answers.Aborted) k = given_back k
claims_at (ends.Busy holder) k = given_back k
claims_at outcome k = k
