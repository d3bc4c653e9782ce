-- What it means to take a turn, for any type of state on which steps are taken.
use Rattle.std.specs.Prelude.{◌≡◌}
use Rattle.txn_words.specs.declared.answer.Answer.{Answer}
use Rattle.txn_words.specs.declared.answer.Answer.TheVariants.{Placed}
use Rattle.txn_words.specs.declared.step.Step.{Step}
use Rattle.txn_drive.specs.declared.turn.Turn.{Turn}
use Rattle.txn_drive.specs.declared.turn.Turn.TheVariants.{One, Two, Ended}

-- If the answer to the first of two steps was `placed`, the second step is taken. Otherwise no
-- second step is taken, and the state stays as it is.
abbrev pub TakesSecond : {X : Type 0} → (X → Step → Answer → X → Type 0) → X → Step → Answer → X
    → Type 0
TakesSecond takes old second Placed new = (answer : Answer) × takes old second answer new
TakesSecond takes old second answer new = new ≡ old

-- The steps of the turn are taken, and no others.
abbrev pub TakesTurn : {X : Type 0} → (X → Step → Answer → X → Type 0) → X → Turn → X → Type 0
TakesTurn takes old (One step) new = (answer : Answer) × takes old step answer new
TakesTurn {X} takes old (Two first second) new =
    (answer : Answer) × (between : X) × takes old first answer between
    × TakesSecond takes between second answer new
TakesTurn takes old (Ended outcome) new = new ≡ old

-- The turn is taken (`TakesTurn`). This is a record, so that a proof finds the states and the
-- relation in the record's type.
pub record HasTaken {X : Type 0} (takes : X → Step → Answer → X → Type 0) (old : X) (turn : Turn)
    (new : X) : Type 0 where
  pub steps : TakesTurn takes old turn new

-- The first step of the turn may be taken. If the answer to it is `placed`, the second step may be
-- taken too.
abbrev pub MayTake : {X : Type 0} → (X → Step → Type 0) → (X → Step → Answer → X → Type 0) → X
    → Turn → Type 0
MayTake may takes old (One step) = may old step
MayTake {X} may takes old (Two first second) =
    may old first × ((between : X) → takes old first Placed between → may between second)
MayTake may takes old (Ended outcome) = Unit {0}
