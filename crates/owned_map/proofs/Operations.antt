-- Shows what a caller's operation does (`DoesOp`), given the core's answer.
use Rattle.std.proofs.Common.{◌≡◌, ℕ, true, ap, Option, is_some}
use Rattle.std.specs.Prelude.{Ok, Err}
use Rattle.txn_words.specs.declared.answer.Answer.TheVariants as answers
use Rattle.txn_words.specs.declared.op.Op.{Op}
use Rattle.txn_words.specs.declared.stop.Stop.{Stop}
use Rattle.txn_words.specs.declared.stop.Stop.TheVariants as stops
use Rattle.txn_trace.specs.Legal.{IsLegal}
use Rattle.txn_trace.specs.Now.{now}
use Rattle.boost_core.specs.Plain.{Operates}
use Rattle.boost_core.specs.State.{State, holder_by}
use Rattle.owned_map.specs.Effects.{DoesOp, answer_of}
use Rattle.owned_map.specs.Keeps.{Lifts}
use Rattle.owned_map.specs.Within.{GoesOn, IsGrown}
use Rattle.owned_map.specs.declared.transaction.Transaction.{Transaction}
use Rattle.owned_map.proofs.Calls.{on, grew, grew_done, keeps_by}
use Rattle.owned_map.proofs.Savepoints.{keeps_grown, keeps_operated}
use Rattle.owned_map.proofs.Steps.{operated, done, busy}

-- The core did the operation. If the key was absent, the table may then have grown.
pub does_op : (c : ℕ) (op : Op) (reply : Option ℕ) (old between new : State) → IsLegal (holder_by old.words) old.limits.stripes old.history → Operates old c op (answers.Done reply) between → IsGrown c between new → (is_some reply ≡ true → new ≡ between)
    → DoesOp op c old (Ok reply) new
does_op c op reply old between new legal operates grown there = record {
  goes_on = on c old between new (operated old between c op (answers.Done reply) operates) (grew c between new grown);
  savepoints = keeps_grown c old between new (keeps_operated old between c op (answers.Done reply) legal operates) grown;
  ok = grew_done c op reply old between new (done old between c op reply legal operates) grown;
  err = tt;
  did = (between, operates, grown, there);
  stopped = tt;
}

-- The core stopped the operation.
pub stops_op : (c : ℕ) (op : Op) (stop : Stop) (old new : State) → IsLegal (holder_by old.words) old.limits.stripes old.history → Operates old c op (answer_of stop) new
    → DoesOp op c old (Err stop) new
stops_op c op (stops.Busy holder) old new legal operates = record {
  goes_on = operated old new c op (answers.Busy holder) operates;
  savepoints = keeps_operated old new c op (answers.Busy holder) legal operates;
  ok = tt;
  err = busy old new c op holder legal operates;
  did = tt;
  stopped = operates;
}
stops_op c op (stops.Refused refusal) old new legal operates = record {
  goes_on = operated old new c op (answers.Refused refusal) operates;
  savepoints = keeps_operated old new c op (answers.Refused refusal) legal operates;
  ok = tt;
  err = ap (λ (s : State). now s.history) operates.move.state;
  did = tt;
  stopped = operates;
}

-- If a call leaves the map's reference and the caller unchanged, a call of the transaction does what
-- the call of the map does.
pub lifted : {A : Type 0} (Does : ℕ → State → A → State → Type 0) (old new : Transaction) (result : A) → new.map.ghost_name ≡ old.map.ghost_name → new.caller ≡ old.caller
    → GoesOn old.caller old.map.now.core new.map.now.core → Does old.caller old.map.now.core result new.map.now.core → Lifts Does old result new
lifted Does old new result same_map same_caller goes_on does = record { keeps = keeps_by old new same_map same_caller goes_on; does = does }
