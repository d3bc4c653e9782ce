-- PROMISES callers-in-threads: Held, InStep
-- A hold is one turn of a call on the core. `Held` says what a hold does to the core, the token and
-- the drive. `GoesTo` says which entries a call has added after a hold, whether or not the call has
-- ended.
use Rattle.std.specs.Prelude.{ℕ, ◌≡◌, ◌≢◌, Bool, true, false, not, ◌||◌, List, [], ◌++◌, Option, Some, None, is_some}
use Rattle.locked_map.specs.Vocabulary.{Answer, Call, CommitNothing, Drive, End, Ended, Entry, Goes, IsMade, IsQuiet, NoMemory, One}
use Rattle.locked_map.specs.Vocabulary.{OutOfStep, Phase, Stance, Sizes, State, Step, Turn, Two, end_of, entries_of, made, stance_after}
use Rattle.locked_map.specs.Vocabulary.{sized_of, step_of, told_of, turn_of}
use Rattle.txn_words.specs.declared.answer.Answer.TheVariants as answers
use Rattle.txn_drive.specs.declared.«end».End.TheVariants as ends
use Rattle.boost_core.specs.Words.{ListsBy}
use Rattle.locked_map.specs.Claims.{Claimed, Trial, HasTriedIf, claim_in}
use Rattle.locked_map.specs.Tokens.{Token, IsSameCaller, IsSameClaims}
use Rattle.locked_map.specs.Suits.{is_odd, may_refuse, SuitsStance, IsInStep, IsSized}

-- The four ways a hold can go: the token was broken; the core does not have as many stripes as
-- there are words; there was no room for what the turn may add; or the turn was taken.
pub data How : Type 0 where
  WasBroken : How
  FoundOther : How
  HadNoRoom : How
  TookTurn : How

-- True if the call has ended in a way that is not allowed for it (`is_odd`).
abbrev pub odd_if : Call → Option End → Bool
odd_if call None = false
odd_if call (Some outcome) = is_odd call outcome

-- The end that a hold returns after its turn. If the token is broken (the first argument), this is
-- a refusal with `OutOfStep`. Otherwise it is the call's own end, or `None` if the call has not
-- ended.
abbrev pub end_in : Bool → Option End → Option End
end_in true outcome = Some (ends.Refused OutOfStep)
end_in false outcome = outcome

-- Whether an end says that the call is out of step.
abbrev pub is_out : End → Bool
is_out (ends.Refused OutOfStep) = true
is_out outcome = false

abbrev pub out_if : Option End → Bool
out_if None = false
out_if (Some outcome) = is_out outcome

-- The next step of a drive may be taken if three things hold. The rule of shape allows each seen
-- entry. The core has as many stripes as there are words. If the step asks for an operation, the
-- last trial was of the stripe to which the operation's key belongs.
pub record MayTake (claims : Claimed) (m : State) (seen : List Entry) (d : Drive) : Type 0 where
  pub whole : is_some (stance_after seen) ≡ true
  pub stripes : m.limits.stripes ≡ claims.stripes
  pub tried : HasTriedIf claims.tried claims.stripes (step_of d)

-- A step is taken. If the step asks for an operation, the core does what the claim to the
-- operation's stripe allows. For any other step, the core makes the step's move. The drive is given
-- the answer, and the step's entries are added to those seen.
pub record TakesOneStep (tried : Option Trial) (m : State) (seen : List Entry) (d : Drive)
    (step : Step)
    (answer : Answer) (n : State) (seen' : List Entry) (e : Drive) : Type 0 where
  pub goes : Goes (claim_in tried m step) m step answer n
  pub lists : ListsBy (claim_in tried m step) m step answer n
  pub told : e ≡ told_of d answer
  pub entries : seen' ≡ seen ++ entries_of step answer

-- If the answer to the first of two steps was `Placed`, the second step is taken. Otherwise nothing
-- more happens.
abbrev pub TakesSecond : Option Trial → State → List Entry → Drive → Step → Answer → State
    → List Entry → Drive → Type 0
TakesSecond tried m seen d step answers.Placed n seen' e =
    (answer : Answer) × TakesOneStep tried m seen d step answer n seen' e
TakesSecond tried m seen d step answer n seen' e = (n ≡ m) × (seen' ≡ seen) × (e ≡ d)

-- The steps of a turn are taken, and no others.
abbrev pub TakesTurn : Option Trial → State → List Entry → Drive → Turn → State → List Entry
    → Drive → Type 0
TakesTurn tried m seen d (One step) n seen' e =
    (answer : Answer) × TakesOneStep tried m seen d step answer n seen' e
TakesTurn tried m seen d (Two step next) n seen' e =
    (answer : Answer) × (between : State) × (middle : List Entry) × (half : Drive)
    × TakesOneStep tried m seen d step answer between middle half
    × TakesSecond tried between middle half next answer n seen' e
TakesTurn tried m seen d (Ended outcome) n seen' e = (n ≡ m) × (seen' ≡ seen) × (e ≡ d)

-- The hold took the drive's turn. The core took only the steps of the turn, only their entries were
-- added to `seen`, and the drive was given their answers. The token breaks if the rule of shape
-- does not allow an entry, or if the call has ended in a way that is not allowed for it.
pub record TurnHeld {S : Type 0} (m : State) (k : Token S) (d : Drive) (outcome : Option End)
    (n : State) (l : Token S) (e : Drive) : Type 0 where
  pub sound : k.broken ≡ false
  pub stripes : m.limits.stripes ≡ k.limits.stripes
  pub turn : TakesTurn k.claims.tried m k.seen d (turn_of d) n l.seen e
  pub broken : l.broken ≡ (not (is_some (stance_after l.seen)) || odd_if e.call (end_of e))
  pub ends : outcome ≡ end_in l.broken (end_of e)
  pub whose : IsSameCaller k l
  pub claims : IsSameClaims k l
  pub side : l.side ≡ k.side

abbrev pub HeldBy : {S : Type 0} → How → State → Token S → Drive → Option End → State → Token S
    → Drive → Type 0
HeldBy WasBroken m k d outcome n l e =
    (k.broken ≡ true) × (outcome ≡ Some (ends.Refused OutOfStep)) × (n ≡ m) × (l ≡ k) × (e ≡ d)
HeldBy FoundOther m k d outcome n l e =
    (k.broken ≡ false) × (m.limits.stripes ≢ k.limits.stripes)
    × (outcome ≡ Some (ends.Refused OutOfStep)) × (n ≡ m) × (l ≡ record k { broken = true })
    × (e ≡ d)
HeldBy HadNoRoom m k d outcome n l e =
    (k.broken ≡ false) × (outcome ≡ Some (ends.Refused NoMemory)) × (n ≡ m) × (l ≡ k) × (e ≡ d)
HeldBy TookTurn m k d outcome n l e = TurnHeld m k d outcome n l e

-- What a hold does. In any case the drive is given the core's size. The drive's turn is taken if
-- the token is not broken and has room, and the core has as many stripes as there are words.
abbrev pub Held : {S : Type 0} → State → Token S → Drive → Option End → State → Token S → Drive
    → Type 0
Held m k d outcome n l e = (how : How) × HeldBy how m k (sized_of m.size d) outcome n l e

-- The token is not broken, and it is in step with the core (`IsInStep`).
abbrev pub InStep : {S : Type 0} → State → Token S → Drive → Type 0
InStep m k d = (k.broken ≡ false) × IsInStep m k.limits k.number k.seen d

-- If the caller's entries give it a stance, this stance fits the drive.
abbrev pub FitsIf : Option Stance → Call → Phase → Type 0
FitsIf None call phase = Unit {0}
FitsIf (Some s) call phase = SuitsStance s call phase

-- A call is in progress. Before the call, its caller had seen the entries `base`. Since then, the
-- caller has seen the entries that the call's drive has made. The caller's stance fits the drive.
pub record IsUnderway (base seen : List Entry) (d : Drive) : Type 0 where
  pub entries : seen ≡ base ++ made d
  pub fits : FitsIf (stance_after seen) d.call d.phase

-- What taking a turn does. `taken` says whether there was room for what the turn may add. If there
-- was no room, nothing is done. In this case the call has added no entry yet, and may be refused
-- with `NoMemory`.
pub record TurnTaken (tried : Option Trial) (m : State) (seen : List Entry) (d : Drive)
    (turn : Turn) (taken : Bool) (n : State) (seen' : List Entry) (e : Drive) : Type 0 where
  pub took : taken ≡ true → TakesTurn tried m seen d turn n seen' e
  pub whose : (e.caller ≡ d.caller) × (e.call ≡ d.call)
  pub no_room : taken ≡ false → (n ≡ m) × (seen' ≡ seen) × (e ≡ d)
  pub in_step : (limits : Sizes) (c : ℕ) → IsSized m.size d.phase → IsInStep m limits c seen d
      → IsInStep n limits c seen' e
  pub goes : (base : List Entry) → IsUnderway base seen d → IsUnderway base seen' e
  pub starts : taken ≡ false → (base : List Entry) → IsUnderway base seen d
      → (made d ≡ []) × (may_refuse d.call NoMemory ≡ true)

-- The ends that a call may have.
abbrev pub MayEnd : Call → End → Type 0
MayEnd call (ends.Refused OutOfStep) = Unit {0}
MayEnd call outcome = is_odd call outcome ≡ false

-- A call has ended with `outcome`. Before the call, its caller had seen the entries `base`. If the
-- call has ended with `OutOfStep` and the rule of shape allows each seen entry, the call has
-- committed nothing.
pub record HasRun (base seen : List Entry) (c : ℕ) (call : Call) (outcome : End) : Type 0 where
  pub added : List Entry
  pub entries : seen ≡ base ++ added
  pub made : IsMade c call outcome added
  pub may : MayEnd call outcome
  pub quiet : is_some (stance_after seen) ≡ true → IsQuiet outcome added

-- The call is in progress (`IsUnderway`), and has committed nothing so far.
pub record IsGoing (base seen : List Entry) (d : Drive) : Type 0 where
  pub on : IsUnderway base seen d
  pub quiet : CommitNothing (made d)

-- The state of a call after a hold.
abbrev pub GoesTo : List Entry → List Entry → Drive → Option End → Type 0
GoesTo base seen d None = IsGoing base seen d
GoesTo base seen d (Some outcome) = HasRun base seen d.caller d.call outcome
