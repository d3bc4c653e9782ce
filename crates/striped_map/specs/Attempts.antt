-- PROMISES the-striped-map: Fails
-- A work that is tried several times, each time in a new transaction. `work` relates the caller
-- before the work, the result of the work, and the caller after the work.
use Rattle.std.specs.Prelude.{◌⊎◌, ◌≡◌, ℕ, zero, suc, [], ◌∷◌, Result, Ok, Err, false}
use Rattle.txn_words.specs.declared.entry.Entry.TheVariants.{Began}
use Rattle.txn_words.specs.declared.refusal.Refusal.TheVariants.{NoMemory, NotOpen}
use Rattle.striped_map.specs.declared.caller.Caller.{Caller}
use Rattle.txn_words.specs.declared.stop.Stop.{Stop}
use Rattle.txn_words.specs.declared.stop.Stop.TheVariants.{Busy, Refused}
use Rattle.striped_map.specs.Callers.{number, IsNotBegun, IsStep, IsSince, IsTakenBack}

-- Turns a relation between values, each of which holds a caller, into a relation between these
-- callers.
abbrev pub on_callers : {H A : Type 0} → (H → Caller) → (H → A → H → Type 0)
    → Caller → A → Caller → Type 0
on_callers caller_of relation a answer b =
    (h : _) × (k : _) × relation h answer k × (caller_of h ≡ a) × (caller_of k ≡ b)

-- Why an attempt failed. If the work returned an error, `stop` is this error. If the work
-- succeeded although one of its calls had ended the transaction, `stop` is `NotOpen`.
abbrev pub IsWhy : {T : Type 0} → Result T Stop → Caller → Stop → Type 0
IsWhy (Err found) left stop = stop ≡ found
IsWhy (Ok value) left stop = (stop ≡ Refused NotOpen) × (left.is_open ≡ false)

-- One attempt failed: a transaction was begun, the work ran in it, and the transaction was taken
-- back (`IsTakenBack`). Nothing is committed, and no transaction is open.
pub record Fails {T : Type 0} (work : Caller → Result T Stop → Caller → Type 0) (a b : Caller)
    (stop : Stop) : Type 0 where
  pub txn : ℕ
  pub begun : Caller
  pub began : IsStep a (Began (number a) txn ∷ []) begun
  pub answer : Result T Stop
  pub left : Caller
  pub worked : work begun answer left
  pub why : IsWhy answer left stop
  pub since : IsSince a b
  pub closed : b.is_open ≡ false
  pub back : IsTakenBack left b

-- An attempt failed: its transaction was taken back (`Fails`), or it was not begun because the map
-- keeps its entries and memory was refused.
abbrev pub FailsOrNot : {T : Type 0} → (Caller → Result T Stop → Caller → Type 0) → Caller → Caller
    → Stop → Type 0
FailsOrNot work a b stop =
    Fails work a b stop ⊎ ((stop ≡ Refused NoMemory) × IsNotBegun a b (Refused NoMemory))

-- The given number of attempts were made, one after another, and each failed with `Busy`.
abbrev pub FailsBusy : {T : Type 0} → (Caller → Result T Stop → Caller → Type 0) → ℕ → Caller
    → Caller → Type 0
FailsBusy work zero a b = b ≡ a
FailsBusy work (suc n) a c =
    (b : Caller) × (holder : ℕ) × FailsBusy work n a b × Fails work b c (Busy holder)
