-- PROMISES scripts-that-take-turns: TakeDrawn
-- The worker that takes each turn, and the effect of the turn.
use Rattle.std.specs.Prelude.{◌≡◌, ℕ, ◌+◌, ◌<◌, ◌%◌, if◌then◌else◌, List, [], ◌∷◌, ◌++◌, All, length, take, Option, None, is_some, slice_index_or, slice_set}
use Prim.Native.Nat.{zero, suc}
use Rattle.txn_words.specs.declared.action.Action.{Action}
use Rattle.txn_words.specs.Sizes.{Sizes}
use Rattle.txn_words.specs.Work.{Work}
use Rattle.boost_core.specs.Machine.{State, Happens, start}
use Rattle.script_worker.specs.declared.worker.Worker.{Worker}
use Rattle.script_worker.specs.declared.attempt.Finish.{Finish}
use Rattle.script_worker.specs.Workers.{new_worker, step_by, TakesNext}
use Rattle.rand_core.specs.Pcg32Seed.{pcg32_seed}
use Rattle.rand_pcg.specs.Lcg.{Lcg}
use Rattle.rand_pcg.specs.Pcg.{pcg32, pcg32_of_seed}

-- How many of these workers have a step to take.
abbrev pub live : List Worker → ℕ
live [] = 0
live (worker ∷ workers) = if is_some (step_by worker) then suc (live workers) else live workers

-- The numbers of the workers that have a step to take, in rising order. The first worker of the
-- given list has the number `n`.
abbrev pub live_from : ℕ → List Worker → List ℕ
live_from n [] = []
live_from n (worker ∷ workers) =
    if is_some (step_by worker) then n ∷ live_from (suc n) workers else live_from (suc n) workers

-- None of these workers has a script left.
abbrev pub AreFinished : List Worker → Type 0
AreFinished workers = All (λ (worker : Worker). worker.task ≡ None) workers

-- The worker with this number is live, and `place` live workers precede it.
pub record IsAtPlace (workers : List Worker) (place number : ℕ) : Type 0 where
  pub within : number < length workers
  pub before : live (take number workers) ≡ place
  pub lives : live (take (number + 1) workers) ≡ place + 1

-- The worker notes the size of the core's table, and then takes its next turn on the core.
abbrev pub TakesTurn : List (List Action) → ℕ → State → Worker → State → Worker → Type 0
TakesTurn scripts tries old before new after =
    (finish : Option Finish) × TakesNext Happens old.size scripts tries old before finish new after

-- A core, the workers that take turns on it, and the generator that draws the workers.
pub record Mixing : Type 0 where
  pub core : State
  pub crew : List Worker
  pub generator : Lcg

-- The workers whose numbers are below the last argument. None of them has taken a step.
abbrev pub first_crew : List (List Action) → Sizes → ℕ → List Worker
first_crew scripts limits zero = []
first_crew scripts limits (suc w) = first_crew scripts limits w ++ new_worker scripts w limits ∷ []

-- A new core with its workers, and the generator with this seed.
abbrev pub beginning : Work → ℕ → Mixing
beginning work seed = record {
  core = start work.sizes;
  crew = first_crew work.scripts work.sizes work.sizes.callers;
  generator = pcg32_of_seed (pcg32_seed 16 seed);
}

-- The worker with this number takes its next turn. Its place among the live workers is the
-- generator's next word modulo the number of live workers.
pub record TakesDrawn (scripts : List (List Action)) (tries : ℕ) (old : Mixing) (number : ℕ)
    (new : Mixing) : Type 0 where
  pub drawn : IsAtPlace old.crew ((pcg32 old.generator).0 % live old.crew) number
  pub generator : new.generator ≡ (pcg32 old.generator).1
  pub before : Worker
  pub after : Worker
  pub worker : before ≡ slice_index_or old.crew number before
  pub turn : TakesTurn scripts tries old.core before new.core after
  pub crew : new.crew ≡ slice_set old.crew number after

-- Workers were drawn and took turns, one after another. The list has the numbers of these workers,
-- the last worker first.
abbrev pub TakeDrawn : List (List Action) → ℕ → Mixing → List ℕ → Mixing → Type 0
TakeDrawn scripts tries first [] last = last ≡ first
TakeDrawn scripts tries first (number ∷ numbers) last =
    (between : Mixing) × TakeDrawn scripts tries first numbers between
    × TakesDrawn scripts tries between number last
