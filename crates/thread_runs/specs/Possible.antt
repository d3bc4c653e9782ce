-- PROMISES scripts-on-threads: MayCome
-- The outcomes that the actions of a script allow.
use Rattle.std.specs.Prelude.{Bool, true, false, IsTrue, List}
use Rattle.std.specs.List.{list_any}
use Rattle.txn_words.specs.declared.action.Action.{Action}
use Rattle.txn_words.specs.declared.action.Action.TheVariants as actions
use Rattle.txn_words.specs.declared.refusal.Refusal.{Refusal}
use Rattle.txn_words.specs.declared.refusal.Refusal.TheVariants.{BadKey, NoSuchLevel, NoMemory, StampsUsedUp, StaleWord, OutOfStep}
use Rattle.txn_words.specs.Map.{key_of}
use Rattle.txn_words.specs.Sizes.{is_bad_key}
use Rattle.script_worker.specs.Accounts.{Outcome, Aborted, Refused}

-- Whether an action has a key that is refused. The first argument says whether only half keys are
-- allowed.
abbrev pub has_bad_key : Bool → Action → Bool
has_bad_key half (actions.Op op) = is_bad_key half (key_of op)
has_bad_key half (actions.Help key) = is_bad_key half key
has_bad_key half action = false

abbrev pub is_op : Action → Bool
is_op (actions.Op op) = true
is_op action = false

abbrev pub is_back : Action → Bool
is_back (actions.Back level) = true
is_back action = false

abbrev pub is_abort : Action → Bool
is_abort actions.Abort = true
is_abort action = false

-- The refusals that a script may have. `BadKey`, `NoSuchLevel` and `StaleWord` need an action that
-- can have this refusal. `NoMemory`, `StampsUsedUp` and `OutOfStep` are always possible.
abbrev pub MayBeRefused : Bool → List Action → Refusal → Type 0
MayBeRefused half script BadKey = IsTrue (list_any (has_bad_key half) script)
MayBeRefused half script NoSuchLevel = IsTrue (list_any is_back script)
MayBeRefused half script StaleWord = IsTrue (list_any is_op script)
MayBeRefused half script NoMemory = Unit {0}
MayBeRefused half script StampsUsedUp = Unit {0}
MayBeRefused half script OutOfStep = Unit {0}
MayBeRefused half script refusal = ⊥

-- The outcomes that a script may have. `Aborted` is possible only if the script has an abort.
-- `Refused` is possible only with a refusal that the script may have.
abbrev pub MayCome : Bool → List Action → Outcome → Type 0
MayCome half script Aborted = IsTrue (list_any is_abort script)
MayCome half script (Refused refusal) = MayBeRefused half script refusal
MayCome half script outcome = Unit {0}
