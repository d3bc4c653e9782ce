-- PROMISES transactions-as-values: HasOperated, DoesOp, Tells, DoesSave, DoesBack
-- What the calls of a transaction do to the core: by which steps, with which answers, and what
-- becomes of the map.
use Rattle.std.specs.Prelude.{ℕ, ◌≡◌, true, Option, is_some, Result, Ok, Err, IfOk, IfErr, OnOk, OnErr}
use Rattle.txn_words.specs.declared.answer.Answer.{Answer}
use Rattle.txn_words.specs.declared.answer.Answer.TheVariants as answers
use Rattle.txn_words.specs.declared.op.Op.{Op}
use Rattle.txn_words.specs.declared.step.Step.{Step}
use Rattle.txn_words.specs.declared.step.Step.TheVariants.{Ask, Back, Begin, Commit, Save}
use Rattle.txn_trace.specs.Now.{now}
use Rattle.txn_words.specs.declared.stop.Stop.{Stop}
use Rattle.txn_words.specs.declared.stop.Stop.TheVariants as stops
use Rattle.boost_core.specs.State.{State}
use Rattle.boost_core.specs.Machine.{Happens}
use Rattle.boost_core.specs.Plain.{Operates, Returns, Aborts}
use Rattle.owned_map.specs.Within.{OnlyWorked, GoesOn, HasDone, IsBackAt, IsGrown, IsSaved, KeepsSavepoints}

-- The core's answer that makes a call return this stop.
abbrev pub answer_of : Stop → Answer
answer_of (stops.Busy holder) = answers.Busy holder
answer_of (stops.Refused refusal) = answers.Refused refusal

-- The core answered a step with this stop.
abbrev pub IsStopped : State → Step → Stop → State → Type 0
IsStopped old step stop new = Happens old step (answer_of stop) new

-- A caller's operation was done once, with this reply. If its key was absent, the table may then
-- have grown.
abbrev pub HasOperated : ℕ → Op → Option ℕ → State → State → Type 0
HasOperated c op reply old new =
    (done : State) × Operates old c op (answers.Done reply) done × IsGrown c done new
    × (is_some reply ≡ true → new ≡ done)

-- A caller's operation has this result. `ok` and `err` are about the map, `did` and `stopped` about
-- the steps of the core: `Operates` of `boost_core` says which steps an operation takes, and
-- `HasOperated` adds the growth of the table.
pub record DoesOp (op : Op) (c : ℕ) (old : State) (result : Result (Option ℕ) Stop) (new : State) :
    Type 0 where
  pub goes_on : GoesOn c old new
  pub savepoints : KeepsSavepoints c old new
  pub ok : IfOk result (λ reply. HasDone op reply old new)
  pub err : OnErr result (now new.history ≡ now old.history)
  pub did : IfOk result (λ reply. HasOperated c op reply old new)
  pub stopped : IfErr result (λ stop. IsStopped old (Ask c op) stop new)

-- A caller does an operation, and the call returns, in place of the reply, a value that fits it.
abbrev pub Tells : {T : Type 0} → (Option ℕ → T → Type 0) → Op → ℕ → State → Result T Stop → State
    → Type 0
Tells Fits op c old (Ok value) new =
    (reply : Option ℕ) × Fits reply value × DoesOp op c old (Ok reply) new
Tells Fits op c old (Err stop) new = DoesOp op c old (Err stop) new

-- A caller's call that sets a savepoint has this result.
pub record DoesSave (c : ℕ) (old : State) (result : Result ℕ Stop) (new : State) : Type 0 where
  pub goes_on : GoesOn c old new
  pub ok : IfOk result (λ level. IsSaved c level old new)
  pub same : now new.history ≡ now old.history
  pub did : IfOk result (λ level. Happens old (Save c) (answers.Saved level) new)
  pub stopped : IfErr result (λ stop. IsStopped old (Save c) stop new)

-- A caller's call that goes back to a level has this result.
pub record DoesBack (level c : ℕ) (old : State) (result : Result Unit Stop) (new : State) : Type 0
  where
    pub goes_on : GoesOn c old new
    pub ok : OnOk result (IsBackAt c level old new)
    pub err : OnErr result (now new.history ≡ now old.history)
    pub did : OnOk result (Returns old c level (answers.Returned level) new)
    pub stopped : IfErr result (λ stop. IsStopped old (Back c level) stop new)

-- A caller began a transaction. The map is unchanged.
pub record HasBegun (c : ℕ) (old new : State) : Type 0 where
  pub txn : ℕ
  pub event : Happens old (Begin c) (answers.Began txn) new
  pub same : now new.history ≡ now old.history
  pub beside : OnlyWorked c old new

-- The core was asked to abort a caller's transaction, and nothing else was done. The core aborted
-- the transaction, or refused.
abbrev pub HasAborted : ℕ → State → State → Type 0
HasAborted c old new = (answer : Answer) × Aborts old c answer new

-- The core answered a caller's commit with this stop. Then the core was asked to abort the
-- transaction.
abbrev pub IsNotCommitted : ℕ → State → Stop → State → Type 0
IsNotCommitted c old stop new =
    (left : State) × IsStopped old (Commit c) stop left × HasAborted c left new
