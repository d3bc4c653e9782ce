-- Laws of turns that are taken.
use Rattle.std.proofs.Common.{◌≡◌, ℕ, Option, Some, None, refl, ap, sym, subst}
use Rattle.txn_words.specs.declared.answer.Answer.{Answer}
use Rattle.txn_words.specs.declared.answer.Answer.TheVariants.{Placed}
use Rattle.txn_words.specs.declared.step.Step.{Step}
use Rattle.txn_drive.specs.declared.turn.Turn.{Turn}
use Rattle.txn_drive.specs.declared.turn.Turn.TheVariants.{One, Two, Ended}
use Rattle.txn_drive.specs.Turns.{TakesTurn, TakesSecond, HasTaken, MayTake}

module _ {X Y : Type 0} (R : X → Step → Answer → X → Type 0) (S : Y → Step → Answer → Y → Type 0) (I : X → Type 0) (p : X → Y)
    (each : (x : X) (s : Step) (a : Answer) (y : X) → I x → R x s a y → S (p x) s a (p y) × I y) where
  second_maps : (x : X) (s : Step) (a : Answer) (y : X) → I x → TakesSecond R x s a y → TakesSecond S (p x) s a (p y) × I y
  second_maps x s Placed y i (a, takes) = let mapped = each x s a y i takes in ((a, mapped.0), mapped.1)
  second_maps x s a y i same = (ap p same, subst I (sym same) i)

  steps_map : (x : X) (t : Turn) (y : X) → I x → TakesTurn R x t y → TakesTurn S (p x) t (p y) × I y
  steps_map x (One s) y i (a, takes) = let mapped = each x s a y i takes in ((a, mapped.0), mapped.1)
  steps_map x (Two s t) y i (a, z, first, second) =
      let mapped = each x s a z i first in
      let then = second_maps z t a y mapped.1 second in
      ((a, p z, mapped.0, then.0), then.1)
  steps_map x (Ended outcome) y i same = (ap p same, subst I (sym same) i)

-- `p` maps a state to a part of the state, and `I` is a fact about states that this mapping needs.
-- If each step keeps `I` and is also a step of the part, then each turn keeps `I` and is also a
-- turn of the part.
pub turn_maps : {X Y : Type 0} (R : X → Step → Answer → X → Type 0) (S : Y → Step → Answer → Y → Type 0) (I : X → Type 0) (p : X → Y) (x : X) (t : Turn) (y : X) → I x → HasTaken R x t y
    → ((x : X) (s : Step) (a : Answer) (y : X) → I x → R x s a y → S (p x) s a (p y) × I y) → TakesTurn S (p x) t (p y) × I y
turn_maps R S I p x t y i taken each = steps_map R S I p each x t y i taken.steps

-- How many steps of a turn remain, given the next step and the step that may follow it.
abbrev pub left_of : Option Step → Option Step → ℕ
left_of None second = 0
left_of (Some step) None = 1
left_of (Some step) (Some then) = 2

module _ {X : Type 0} (may : X → Step → Type 0) (takes : X → Step → Answer → X → Type 0) where
  -- The remaining steps of a turn may be taken.
  abbrev MayLeft : X → Option Step → Option Step → Type 0
  MayLeft x None second = Unit {0}
  MayLeft x (Some step) None = MayTake may takes x (One step)
  MayLeft x (Some step) (Some then) = MayTake may takes x (Two step then)

  -- The remaining steps of a turn are taken.
  abbrev TakesLeft : X → Option Step → Option Step → X → Type 0
  TakesLeft x None second z = z ≡ x
  TakesLeft x (Some step) None z = TakesTurn takes x (One step) z
  TakesLeft x (Some step) (Some then) z = TakesTurn takes x (Two step then) z

  -- Some steps of a turn have been taken. The remaining steps may be taken, and with them the turn
  -- is complete.
  pub record Rest (start : X) (turn : Turn) (now : X) (next second : Option Step) : Type 0 where
    pub may_take : MayLeft now next second
    pub ends : (last : X) → TakesLeft now next second last → TakesTurn takes start turn last

  second_may : (x y : X) (step : Step) (second : Option Step) → takes x step Placed y → MayLeft x (Some step) second
      → MayLeft y second None
  second_may x y step None taken may_take = tt
  second_may x y step (Some then) taken may_take = may_take.1 y taken

  second_taken : (x y : X) (step : Step) (second : Option Step) (z : X) → takes x step Placed y → TakesLeft y second None z
      → TakesLeft x (Some step) second z
  second_taken x y step None z taken same = (Placed, subst (λ q. takes x step Placed q) (sym same) taken)
  second_taken x y step (Some then) z taken left = (Placed, y, taken, left)

  placed : (start : X) (turn : Turn) (x y : X) (second : Option Step) (step : Step) → takes x step Placed y
      → Rest start turn x (Some step) second → Rest start turn y second None
  placed start turn x y second step taken rest = record {
    may_take = second_may x y step second taken rest.may_take;
    ends = λ last left. rest.ends last (second_taken x y step second last taken left);
  }

  -- If the answer to a step was `placed`, only the turn's second step remains, if there is one.
  pub after_placed : (start : X) (turn : Turn) (x y : X) (next second now other : Option Step) (step : Step) (answer : Answer)
      → next ≡ Some step → now ≡ second → other ≡ None → answer ≡ Placed → takes x step answer y
      → Rest start turn x next second → Rest start turn y now other
  after_placed start turn x y next second now other step answer next_is now_is other_is is taken rest =
      subst (λ n. Rest start turn y n other) (sym now_is)
      (subst (λ o. Rest start turn y second o) (sym other_is)
      (placed start turn x y second step (subst (λ a. takes x step a y) is taken)
      (subst (λ n. Rest start turn x n second) next_is rest)))

  none_second : (y : X) (then : Step) (answer : Answer) → (answer ≡ Placed → ⊥) → TakesSecond takes y then answer y
  none_second y then Placed not = absurd (not refl)
  none_second y then answer not = refl

  none_taken : (x y : X) (step : Step) (answer : Answer) (second : Option Step) → (answer ≡ Placed → ⊥) → takes x step answer y
      → TakesLeft x (Some step) second y
  none_taken x y step answer None not taken = (answer, taken)
  none_taken x y step answer (Some then) not taken = (answer, y, taken, none_second y then answer not)

  -- If the answer to a step was not `placed`, no step of the turn remains.
  pub after_other : (start : X) (turn : Turn) (x y : X) (next second other : Option Step) (step : Step) (answer : Answer)
      → next ≡ Some step → (answer ≡ Placed → ⊥) → takes x step answer y
      → Rest start turn x next second → Rest start turn y None other
  after_other start turn x y next second other step answer next_is not taken rest = record {
    may_take = tt;
    ends = λ last same. rest.ends last
        (subst (λ n. TakesLeft x n second last) (sym next_is)
        (subst (λ q. TakesLeft x (Some step) second q) (sym same) (none_taken x y step answer second not taken)));
  }
