-- A whole transaction that is run by one call.
use Rattle.std.specs.Prelude.{◌≡◌, ◌⊎◌, ◌&&◌, ◌++◌, not, nat_eq, ℕ, Bool, List, [], ◌∷◌, Option, Some, Result, Ok, Err, true, false, take, drop, map, length, slice_get}
use Rattle.std.specs.Option.{option_eq}
use Rattle.txn_words.specs.declared.entry.Entry.TheVariants.{Began, Committed}
use Rattle.txn_words.specs.declared.op.Op.{Op}
use Rattle.txn_words.specs.declared.op.Op.TheVariants.{PutIf}
use Rattle.txn_words.specs.declared.refusal.Refusal.TheVariants.{AlreadyOpen, NoMemory}
use Rattle.txn_words.specs.declared.stop.Stop.{Stop}
use Rattle.txn_words.specs.declared.stop.Stop.TheVariants.{Refused}
use Rattle.striped_map.specs.declared.caller.Caller.{Caller}
use Rattle.striped_map.specs.Callers.{IsSame, IsStep, IsStopped, IsTakenBack, keeps, number, seen}
use Rattle.striped_map.specs.Calls.{HasDone}
use Rattle.striped_map.specs.declared.runs.RunEnd.{RunEnd}
use Rattle.striped_map.specs.declared.runs.RunEnd.TheVariants.{Committed as CommittedEnd, Missed}
use Rattle.striped_map.specs.Lone.{RunsAlone}
use Rattle.striped_map.specs.Steps.{told_of}

-- Whether a run ends after this operation, because the operation is a PutIf whose key had another
-- value than it expects, and the caller asked for that (`strict`).
abbrev pub is_miss : Bool → Op → Option ℕ → Bool
is_miss strict (PutIf key expected value) reply = strict && not (option_eq nat_eq reply expected)
is_miss strict op reply = false

-- From `a` to `b`, the caller did these operations, one after the other, with these replies. None
-- of them ends the run.
abbrev pub DoesAll : Bool → List Op → List (Option ℕ) → Caller → Caller → Type 0
DoesAll strict [] [] a b = b ≡ a
DoesAll strict (op ∷ ops) (reply ∷ replies) a c = (b : Caller) × HasDone op reply a b
    × (is_miss strict op reply ≡ false) × DoesAll strict ops replies b c
DoesAll strict ops replies a b = ⊥

-- From `a` to `c`, the caller did the first of these operations, with these replies. The next
-- operation then failed.
abbrev pub DoesUntil : Bool → List Op → List (Option ℕ) → Caller → Caller → Stop → Type 0
DoesUntil strict ops replies a c stop = (b : Caller) × (op : Op)
    × DoesAll strict (take (length replies) ops) replies a b
    × (slice_get ops (length replies) ≡ Some op) × IsStopped b op c stop

-- From `a` to `c`, the caller did the first of these operations, with these replies. The last of
-- them ends the run, and none before it.
abbrev pub DoesToMiss : Bool → List Op → List (Option ℕ) → Caller → Caller → Type 0
DoesToMiss strict ops replies a c = (before : List (Option ℕ)) × (reply : Option ℕ)
    × (replies ≡ before ++ reply ∷ []) × (b : Caller) × (op : Op)
    × DoesAll strict (take (length before) ops) before a b
    × (slice_get ops (length before) ≡ Some op) × (is_miss strict op reply ≡ true)
    × HasDone op reply b c

-- From `a` to `b`, the caller did these operations, with these replies: all of them, those up to the
-- one that ends the run, or those before the one that failed.
abbrev pub Does : Bool → List Op → List (Option ℕ) → Caller → Result Bool Stop → Caller → Type 0
Does strict ops replies a (Ok true) b = DoesAll strict ops replies a b
Does strict ops replies a (Ok false) b = DoesToMiss strict ops replies a b
Does strict ops replies a (Err stop) b = DoesUntil strict ops replies a b stop

-- The replies lie in this form at the front of an array, whose rest is unchanged, and `done` is
-- their number.
pub record LieIn {R : Type 0} (form : Option ℕ → R) (replies : List (Option ℕ))
    (before after : List R) (done : ℕ) : Type 0 where
  pub count : done ≡ length replies
  pub all : after ≡ map form replies ++ drop (length replies) before

-- A transaction was begun, did these operations with these replies, and committed.
pub record RunsAll (strict : Bool) (a d : Caller) (ops : List Op) (replies : List (Option ℕ))
    (found : Option ℕ) : Type 0 where
  pub txn : ℕ
  pub b : Caller
  pub began : IsStep a (Began (number a) txn ∷ []) b
  pub c : Caller
  pub does : DoesAll strict ops replies b c
  pub place : ℕ
  pub found_is : found ≡ told_of (keeps c) place
  pub committed : IsStep c (Committed (number c) place ∷ []) d
  pub alone : RunsAlone (number c) place (seen d)

-- A transaction was begun and did the first of these operations, with these replies. The last of
-- them was a miss. Then the transaction was taken back.
pub record RunsToMiss (strict : Bool) (a d : Caller) (ops : List Op) (replies : List (Option ℕ))
    : Type 0 where
  pub txn : ℕ
  pub b : Caller
  pub began : IsStep a (Began (number a) txn ∷ []) b
  pub c : Caller
  pub does : DoesToMiss strict ops replies b c
  pub back : IsTakenBack c d

-- A transaction was run to its end.
abbrev pub IsRunTo : Bool → Caller → Caller → List Op → List (Option ℕ) → RunEnd → Type 0
IsRunTo strict a d ops replies (CommittedEnd found) = RunsAll strict a d ops replies found
IsRunTo strict a d ops replies Missed = RunsToMiss strict a d ops replies

-- A transaction was begun and did the first of these operations, with these replies. The next
-- operation failed. Then the transaction was taken back.
pub record RunsUntil (strict : Bool) (a d : Caller) (ops : List Op) (replies : List (Option ℕ))
    (stop : Stop) : Type 0 where
  pub txn : ℕ
  pub b : Caller
  pub began : IsStep a (Began (number a) txn ∷ []) b
  pub c : Caller
  pub does : DoesUntil strict ops replies b c stop
  pub back : IsTakenBack c d

-- No transaction was run, for one of these reasons.
-- - There is a transaction. Nothing changes.
-- - Memory was refused before a transaction was begun. The caller is the same. There are no replies.
-- - An operation was busy or refused, and the transaction was taken back (`RunsUntil`).
abbrev pub IsNotRun : Bool → Caller → Caller → List Op → List (Option ℕ) → Stop → Type 0
IsNotRun strict a d ops replies stop =
    ((stop ≡ Refused AlreadyOpen) × (a.is_open ≡ true) × (d ≡ a))
    ⊎ (((stop ≡ Refused NoMemory) × (a.is_open ≡ false) × IsSame a d × (replies ≡ []))
    ⊎ RunsUntil strict a d ops replies stop)

-- The caller ran a transaction of these operations, with these replies, or did not run it to its
-- end. If it was in a transaction before, there are no replies.
abbrev pub Runs : Bool → List Op → List (Option ℕ) → Caller → Result RunEnd Stop → Caller → Type 0
Runs strict ops replies a (Ok end) b = IsRunTo strict a b ops replies end
Runs strict ops replies a (Err stop) b = IsNotRun strict a b ops replies stop
    × (a.is_open ≡ true → replies ≡ [])
