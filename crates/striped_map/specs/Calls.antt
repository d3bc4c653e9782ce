-- PROMISES the-striped-map: Operates, TakesStripe, TakesEvery
-- What each call of a caller does, and what it leaves if it stops: a relation between the caller
-- before the call, the result, and the caller after the call. `Lifts` (`specs/Keeps.antt`) lifts it
-- to the call of a transaction.
use Rattle.std.specs.Prelude.{◌≡◌, ◌==◌, ℕ, ◌+◌, ◌≤◌, Bool, true, false, [], ◌∷◌, Option, Some, None, Result, Vec, is_some, nat_eq, if◌then◌else◌, IfOk, IfErr, OnOk, OnErr}
use Rattle.std.specs.Global.{Global}
use Rattle.std.specs.Option.{option_eq}
use Rattle.txn_words.specs.Map.{count_of, key_of}
use Rattle.txn_words.specs.declared.entry.Entry.TheVariants.{Aborted, Asked, Began, Committed, Did, Leave, Returned, Saved}
use Rattle.txn_words.specs.declared.op.Op.{Op}
use Rattle.txn_words.specs.declared.op.Op.TheVariants.{Get, PutIf}
use Rattle.txn_words.specs.declared.refusal.Refusal.TheVariants.{NoMemory, NotOpen}
use Rattle.txn_words.specs.declared.stop.Stop.{Stop}
use Rattle.txn_words.specs.declared.stop.Stop.TheVariants.{Refused}
use Rattle.txn_words.specs.declared.swapped.Swapped.{Swapped}
use Rattle.txn_trace.specs.Now.{now}
use Rattle.striped_map.specs.declared.caller.Caller.{Caller}
use Rattle.striped_map.specs.Callers.{changes_above, changes_made, keeps, levels, number, seen, stripes_held, stripes_in}
use Rattle.striped_map.specs.Callers.{HoldsEvery, HoldsStripe, IsCut, IsNotBack, IsNotBegun, IsSame, IsStep, IsStopped, KeepsStripes, TakesAtMost}
use Rattle.striped_map.specs.Contents.{rows_with}
use Rattle.striped_map.specs.Lone.{RunsAlone}
use Rattle.striped_map.specs.Steps.{told_of, undoing}

-- The caller is in a transaction before and after the call.
abbrev pub StaysOpen : Caller → Caller → Type 0
StaysOpen a b = (a.is_open ≡ true) × (b.is_open ≡ true)

-- The caller was in no transaction. Nothing changes.
abbrev pub IsNotOpen : Caller → Caller → Stop → Type 0
IsNotOpen a b stop = (stop ≡ Refused NotOpen) × (a.is_open ≡ false) × (b ≡ a)

-- The caller did the operation, with this reply.
abbrev pub HasDone : Op → Option ℕ → Caller → Caller → Type 0
HasDone op reply a b = IsStep a (Asked (number a) op ∷ Did (number a) reply ∷ []) b

-- The call begins a transaction.
pub record Begins (a : Caller) (result : Result Unit Stop) (b : Caller) : Type 0 where
  pub ok : OnOk result ((a.is_open ≡ false) × (b.is_open ≡ true)
      × (txn : ℕ) × IsStep a (Began (number a) txn ∷ []) b)
  pub levels_are : OnOk result (levels b ≡ 0)
  pub holds : stripes_held b ≡ stripes_held a
  pub err : IfErr result (IsNotBegun a b)

-- The call takes no stripe but that of the operation's key. It does what `Does` says of the value
-- that it returns, or is stopped as this operation is.
pub record TakesStripe {A : Type 0} (op : Op) (Does : A → Type 0) (a : Caller)
    (result : Result A Stop) (b : Caller) : Type 0 where
  pub stays : OnOk result (StaysOpen a b)
  pub levels_are : OnOk result (levels b ≡ levels a)
  pub stripes : TakesAtMost (key_of op) a b
  pub ok : IfOk result Does
  pub err : IfErr result (IsStopped a op b)

-- The call does the operation, and returns its reply.
abbrev pub Operates : Op → Caller → Result (Option ℕ) Stop → Caller → Type 0
Operates op a result b = TakesStripe op (λ reply. HasDone op reply a b) a result b

-- The call does the operation, and returns a value that `IsFor` relates to the reply.
abbrev pub OperatesFor : {A : Type 0} → (Option ℕ → A → Type 0) → Op → Caller → Result A Stop
    → Caller → Type 0
OperatesFor IsFor op a result b =
    TakesStripe op (λ value. (reply : Option ℕ) × IsFor reply value × HasDone op reply a b)
    a result b

-- The call returns whether the key is there.
abbrev pub Contains : ℕ → Caller → Result Bool Stop → Caller → Type 0
Contains key a result b = OperatesFor (λ reply there. there ≡ is_some reply) (Get key) a result b

-- The call does a PutIf, and returns whether the value was put.
abbrev pub Swaps : ℕ → Option ℕ → ℕ → Caller → Result Swapped Stop → Caller → Type 0
Swaps key expected value a result b =
    OperatesFor (λ reply (swapped : Swapped). swapped.0 ≡ option_eq nat_eq reply expected)
    (PutIf key expected value) a result b

-- The call returns the pairs of the map whose keys are in the stripe of this key. The caller then
-- holds this stripe.
abbrev pub ReadsStripe : ℕ → Caller → Result (Vec (ℕ × ℕ) Global) Stop → Caller → Type 0
ReadsStripe key a result b =
    TakesStripe (Get key) (λ (pairs : Vec (ℕ × ℕ) Global). IsStep a [] b × HoldsStripe key b
    × (pairs.items ≡ rows_with (stripes_in a) key (now (seen b)))) a result b

-- The call takes every stripe, and returns a value of which `Tells` holds, or is stopped.
pub record TakesEvery {A : Type 0} (Tells : A → Type 0) (a : Caller) (result : Result A Stop)
    (b : Caller) : Type 0 where
  pub stays : OnOk result (StaysOpen a b)
  pub levels_are : OnOk result (levels b ≡ levels a)
  pub step : OnOk result (IsStep a [] b)
  pub ok : IfOk result Tells
  pub every : OnOk result (HoldsEvery b)
  pub stripes : KeepsStripes a b
  pub err : IfErr result (IsCut a b)

-- The call returns how many pairs the map has.
abbrev pub Counts : Caller → Result ℕ Stop → Caller → Type 0
Counts a result b = TakesEvery (λ count. count ≡ count_of (now (seen b))) a result b

-- The call returns whether the map has no keys.
abbrev pub FindsEmpty : Caller → Result Bool Stop → Caller → Type 0
FindsEmpty a result b = TakesEvery (λ empty. empty ≡ (count_of (now (seen b)) == 0)) a result b

-- The call returns the pairs of the map.
abbrev pub ReadsAll : Caller → Result (Vec (ℕ × ℕ) Global) Stop → Caller → Type 0
ReadsAll a result b =
    TakesEvery (λ (pairs : Vec (ℕ × ℕ) Global). pairs.items ≡ (now (seen b)).rows) a result b

-- The call sets a savepoint, and returns its level.
pub record Saves (a : Caller) (result : Result ℕ Stop) (b : Caller) : Type 0 where
  pub stays : OnOk result (StaysOpen a b)
  pub level_is : IfOk result (λ level. level ≡ levels b)
  pub levels_are : OnOk result (levels b ≡ levels a + 1)
  pub holds : stripes_held b ≡ stripes_held a
  pub ok : OnOk result (IsStep a (Saved (number a) ∷ []) b)
  pub err : IfErr result (λ stop. stop ≡ Refused (if a.is_open then NoMemory else NotOpen))
  pub unchanged : OnErr result (IsSame a b × IsStep a [] b)

-- The call takes back the changes above a level.
pub record GoesBack (level : ℕ) (a : Caller) (result : Result Unit Stop) (b : Caller) : Type 0 where
  pub stays : OnOk result (StaysOpen a b)
  pub level_is : OnOk result (level ≤ levels a)
  pub levels_are : OnOk result (levels b ≡ level)
  pub holds : stripes_held b ≡ stripes_held a
  pub ok : OnOk result (IsStep a (Leave (number a) (Some level)
      ∷ undoing (number a) (changes_above level a) (Returned (number a) level)) b)
  pub err : IfErr result (IsNotBack level a b)

-- The call commits the transaction, and returns the commit's place, if the map tells it.
pub record Commits (a : Caller) (result : Result (Option ℕ) Stop) (b : Caller) : Type 0 where
  pub closed : b.is_open ≡ false
  pub ok : IfOk result (λ found. (a.is_open ≡ true) × (place : ℕ)
      × (found ≡ told_of (keeps a) place) × IsStep a (Committed (number a) place ∷ []) b
      × RunsAlone (number a) place (seen b))
  pub err : IfErr result (IsNotOpen a b)

-- The call takes all changes of the transaction back, and ends it.
pub record Aborts (a : Caller) (result : Result Unit Stop) (b : Caller) : Type 0 where
  pub closed : b.is_open ≡ false
  pub ok : OnOk result ((a.is_open ≡ true) × IsStep a
      (Leave (number a) None ∷ undoing (number a) (changes_made a) (Aborted (number a))) b)
  pub err : IfErr result (IsNotOpen a b)
