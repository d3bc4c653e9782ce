-- Lemmas on how a worker's turn is taken.
use Rattle.std.proofs.Common.{◌≡◌, ℕ, List, Option, Some, None, sym, ap, subst, ◌∙◌}
use Rattle.script_worker.proofs.Vocabulary.{Action, Answer, Ended, Finish, HasTaken, IsTurnBy, sized_by, Standing, Step, TakesTurnBy, TakesNext}
use Rattle.script_worker.proofs.Vocabulary.{TakesStep, TakesTurn, Turn, turn_by, turn_maps, Working}

-- A worker's turn is never `Ended`. So if `TakesTurn` holds for the turn, `TakesTurnBy` holds too.
taken_in : {X : Type 0} (takes : X → Step → Answer → X → Type 0) (scripts : List (List Action)) (tries : ℕ) (w : Standing) (x : Working X)
    (turn : Turn) (y : Working X) → IsTurnBy w (Some turn) → TakesTurn (TakesStep takes scripts tries) x turn y
    → TakesTurnBy takes scripts tries x (Some turn) y
taken_in takes scripts tries w x (Ended outcome) y is taken = absurd is
taken_in takes scripts tries w x turn y is taken = taken

-- If the turn that `turn_by` gives is taken on a state `x`, the worker in `p x` has taken its next
-- turn. It is assumed that each step on `x` is a step of the worker in `p x`.
pub turn_next : {X F : Type 0} (takes : X → Step → Answer → X → Type 0) (R : F → Step → Answer → F → Type 0) (I : F → F → Type 0)
    (p : F → Working X) (size : ℕ) (scripts : List (List Action)) (tries : ℕ) (before w : Standing) (o : Option Turn) (turn : Turn)
    (x y : F) → w ≡ sized_by size before → o ≡ turn_by w → IsTurnBy w o → o ≡ Some turn → w ≡ (p x).worker → (p x).finish ≡ None
    → I x x → HasTaken R x turn y
    → ((z : F) (s : Step) (a : Answer) (y : F) → I x z → R z s a y → TakesStep takes scripts tries (p z) s a (p y) × I x y)
    → TakesNext takes size scripts tries (p x).taker before (p y).finish (p y).taker (p y).worker × I x y
turn_next {X} takes R I p size scripts tries before w o turn x y w_is turn_is by some worker_is none i taken each =
    let mapped = turn_maps R (TakesStep takes scripts tries) (I x) p x turn y i taken each in
    let begun : Standing → Option Finish → Working X = λ v f. record { taker = (p x).taker; worker = v; finish = f } in
    let here : TakesTurn (TakesStep takes scripts tries) (begun (p x).worker (p x).finish) turn (p y) = mapped.0 in
    let next = taken_in takes scripts tries w (begun w None) turn (p y) (rw some at by) (rw (none, ← worker_is) at here) in
    let steps = subst (λ (v : Standing). TakesTurnBy takes scripts tries (begun v None) (Some turn) (p y)) w_is next in
    let turn_at : Some turn ≡ turn_by (sized_by size before) = sym some ∙ turn_is ∙ ap turn_by w_is in
    (record { steps = rw (← turn_at) steps }, mapped.1)

-- If each step on a state is also a step on a part of the state, a worker's turn on the state is
-- also its turn on the part. `p` gives the part.
module _ {X F : Type 0} (takes : X → Step → Answer → X → Type 0) (R : F → Step → Answer → F → Type 0) (I : F → Type 0) (p : F → X)
    (each : (x : F) (s : Step) (a : Answer) (y : F) → I x → R x s a y → takes (p x) s a (p y) × I y) (scripts : List (List Action)) (tries : ℕ) where
  abbrev on_part : Working F → Working X
  on_part w = record { taker = p w.taker; worker = w.worker; finish = w.finish }

  step_maps : (x : Working F) (s : Step) (a : Answer) (y : Working F) → I x.taker → TakesStep R scripts tries x s a y → TakesStep takes scripts tries (on_part x) s a (on_part y) × I y.taker
  step_maps x s a y i taken =
      let mapped = each x.taker s a y.taker i taken.taken in
      (record { taken = mapped.0; told = taken.told; ended = taken.ended }, mapped.1)

  in_maps : (x : Working F) (o : Option Turn) (y : Working F) → I x.taker → TakesTurnBy R scripts tries x o y → TakesTurnBy takes scripts tries (on_part x) o (on_part y) × I y.taker
  in_maps x None y i taken = absurd taken
  in_maps x (Some (Ended outcome)) y i taken = absurd taken
  in_maps x (Some turn) y i taken =
      turn_maps (TakesStep R scripts tries) (TakesStep takes scripts tries) (λ w. I w.taker) on_part x turn y i
      (record { steps = taken }) step_maps

pub next_maps : {X F : Type 0} (takes : X → Step → Answer → X → Type 0) (R : F → Step → Answer → F → Type 0) (I : F → F → Type 0) (p : F → X)
    (scripts : List (List Action)) (tries size : ℕ) (x : F) (before : Standing) (finish : Option Finish) (y : F) (after : Standing) → I x x → TakesNext R size scripts tries x before finish y after
    → ((z : F) (s : Step) (a : Answer) (y : F) → I x z → R z s a y → takes (p z) s a (p y) × I x y) → TakesNext takes size scripts tries (p x) before finish (p y) after × I x y
next_maps takes R I p scripts tries size x before finish y after i taken each =
    let mapped = in_maps takes R (I x) p each scripts tries (record { taker = x; worker = sized_by size before; finish = None })
    (turn_by (sized_by size before)) (record { taker = y; worker = after; finish = finish }) i taken.steps in
    (record { steps = mapped.0 }, mapped.1)

-- `TakesNext` still holds if the later state, the later worker or the finish is replaced by an
-- equal value.
pub next_at : {X : Type 0} (takes : X → Step → Answer → X → Type 0) (size : ℕ) (scripts : List (List Action)) (tries : ℕ) (old : X) (before : Standing) (o p : Option Finish) (y z : X) (v w : Standing)
    → TakesNext takes size scripts tries old before o y v → o ≡ p → y ≡ z → v ≡ w → TakesNext takes size scripts tries old before p z w
next_at takes size scripts tries old before o p y z v w taken o_is y_is v_is = rw (o_is, y_is, v_is) at taken
