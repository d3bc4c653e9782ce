-- PROMISES scripts-that-take-turns: IsMixed
-- Workers that take turns on one core.
use Rattle.std.specs.Prelude.{◌≡◌, ◌≢◌, ℕ, ◌^◌, ◌-◌, ◌<◌, ◌⊎◌, false, List, length, slice_index_or}
use Rattle.txn_words.specs.declared.action.Action.{Action}
use Rattle.txn_words.specs.declared.entry.Entry.{Entry}
use Rattle.txn_words.specs.Shape.{own}
use Rattle.txn_trace.specs.Plays.{PlayScripts}
use Rattle.txn_words.specs.Work.{Work}
use Rattle.boost_core.specs.Machine.{State}
use Rattle.script_worker.specs.declared.worker.Worker.{Worker}
use Rattle.script_worker.specs.Accounts.{Outcome, AreTrue, every, tolds_of}
use Rattle.script_worker.specs.Keeps.{KeepsScripts}
use Rattle.script_worker.specs.Workers.{IsReady}
use Rattle.boostmap_engine.specs.Turns.{live, AreFinished, Mixing, beginning, TakeDrawn}

-- The worker has the number `w` and is one of `count` workers. Its entries in the history so far
-- are those of its scripts.
pub record IsMember (scripts : List (List Action)) (tries count : ℕ) (h : List Entry) (w : ℕ)
    (worker : Worker) : Type 0 where
  pub number : worker.number ≡ w
  pub workers : worker.limits.callers ≡ count
  pub keeps : KeepsScripts scripts tries worker (own w h)
  pub ready : IsReady worker

-- The crew has `count` workers, in the order of their numbers.
pub record IsCrew (scripts : List (List Action)) (tries count : ℕ) (h : List Entry)
    (crew : List Worker) : Type 0 where
  pub size : length crew ≡ count
  pub each : (w : ℕ) (other : Worker) → w < length crew → IsMember scripts tries count h w
      (slice_index_or crew w other)

-- The worker still keeps to its scripts, and the only entries added are its own.
pub record MovesOn (scripts : List (List Action)) (tries : ℕ) (old new : State)
    (before after : Worker) : Type 0 where
  pub limits : new.limits ≡ old.limits
  pub number : after.number ≡ before.number
  pub same : after.limits ≡ before.limits
  pub others : (c : ℕ) → c ≢ before.number → own c new.history ≡ own c old.history
  pub keeps : KeepsScripts scripts tries after (own after.number new.history)

-- The core has the limits asked for, and it locks its stripes itself. Workers were drawn and took
-- turns on it, until no worker had a step or a script left, or 2^64 - 1 turns were taken. In the
-- core's history, each worker's committed transactions play its scripts, and the numbers of these
-- scripts rise. Each worker has a list of its scripts' outcomes, from the first script on. The list
-- agrees with the history (`AreTrue`). A script that did not begin has no outcome in the list.
pub record IsMixed (work : Work) (seed : ℕ) (state : State) : Type 0 where
  pub limits : state.limits ≡ work.sizes
  pub words : state.words ≡ false
  pub plays : PlayScripts work.sizes.callers work.scripts state.history
  pub told : (c : ℕ) → c < work.sizes.callers → (outcomes : List Outcome)
      × AreTrue c work.tries state.history
      (tolds_of (every work.sizes.callers c work.scripts) outcomes)
  pub drawn : List ℕ
  pub last : Mixing
  pub core : last.core ≡ state
  pub turns : TakeDrawn work.scripts work.tries (beginning work seed) drawn last
  pub ended : ((live last.crew ≡ 0) × AreFinished last.crew) ⊎ (length drawn ≡ 2 ^ 64 - 1)
