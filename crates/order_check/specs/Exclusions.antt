-- Which transactions can be the source of what an access needs, by the order of the transactions.
use Rattle.std.specs.Prelude.{ℕ, ◌≡◌, ◌==◌, ◌≢◌, ◌<◌, ◌&&◌, not, nat_eq, Bool, false, Option, Some, None, List}
use Rattle.std.specs.Option.{option_eq}
use mathlib.Core.Logic.{◌⊎◌}
use Rattle.std.specs.declared.vec.Vec.{Vec}
use Rattle.std.specs.declared.alloc.Global.{Global}
use Rattle.order_check.specs.declared.access.Access.{Access}
use Rattle.order_check.specs.declared.exclusion.Sources.{Sources}
use Rattle.order_check.specs.declared.exclusion.Sources.TheVariants.{Nobody, Only, Several}
use Rattle.order_check.specs.Joined.{DoesAt}
use Rattle.order_check.specs.Known.{Precedes, is_known}
use Rattle.order_check.specs.Lists.{place}
use Rattle.order_check.specs.Orders.{IsOrderOf}
use Rattle.order_check.specs.Outcomes.{IsTxn, footprints_of}
use Rattle.order_check.specs.Tables.{IsAmong, DoesWrite}

-- The access changes the key.
abbrev pub ChangesKey : ℕ → Access → Type 0
ChangesKey k a = (a.key ≡ k) × (a.need ≢ a.left)

-- These are the accesses that change the key.
pub record AreChanges (accesses : List Access) (k : ℕ) (changes : List Access) : Type 0 where
  pub all : (a : Access) → IsAmong a accesses → ChangesKey k a → IsAmong a changes
  pub only : (a : Access) → IsAmong a changes → IsAmong a accesses × ChangesKey k a

-- In this order, nobody changes the key of the access before its transaction, or the source is the
-- last one that does.
abbrev pub IsLast : List Access → List ℕ → Access → Option ℕ → Type 0
IsLast accesses ts a None =
    (a.need ≡ None)
    × ((b : Access) → IsAmong b accesses → ChangesKey a.key b → b.txn ≢ a.txn
    → place a.txn ts < place b.txn ts)
IsLast accesses ts a (Some w) =
    DoesAt (DoesWrite (a.key, a.need)) accesses w
    × (place w ts < place a.txn ts)
    × ((b : Access) → IsAmong b accesses → ChangesKey a.key b → b.txn ≢ w → b.txn ≢ a.txn
    → (place b.txn ts < place w ts) ⊎ (place a.txn ts < place b.txn ts))

-- This is not the source in any order.
abbrev pub IsExcluded : ℕ → (ℕ → ℕ) → List Access → Access → Option ℕ → Type 0
IsExcluded count since accesses a source =
    (ts : List ℕ) → IsOrderOf (IsTxn count) (footprints_of accesses) since ts → IsLast accesses ts a source → ⊥

-- This is the source in every order.
abbrev pub IsCertain : ℕ → (ℕ → ℕ) → List Access → Access → Option ℕ → Type 0
IsCertain count since accesses a source =
    (ts : List ℕ) → IsOrderOf (IsTxn count) (footprints_of accesses) since ts → IsLast accesses ts a source

-- All sources but these are excluded.
abbrev pub HasOnly : ℕ → (ℕ → ℕ) → List Access → Access → Sources → Type 0
HasOnly count since accesses a Nobody = (source : Option ℕ) → IsExcluded count since accesses a source
HasOnly count since accesses a (Only s) =
    (source : Option ℕ) → source ≢ s → IsExcluded count since accesses a source
HasOnly count since accesses a Several = Unit {0}

-- The source is one of those that are left.
abbrev pub IsLeft : Sources → Option ℕ → Type 0
IsLeft Nobody source = ⊥
IsLeft (Only s) source = source ≡ s
IsLeft Several source = Unit {0}

-- Each of these sources is excluded or left: the beginning, and those of the changes seen that write
-- what the access needs.
pub record IsNarrowed (count : ℕ) (since : ℕ → ℕ) (accesses : List Access) (a : Access) (seen : List Access) (left : Sources) : Type 0 where
  pub first : IsExcluded count since accesses a None ⊎ IsLeft left None
  pub rest : (b : Access) → IsAmong b seen → b.left ≡ a.need
      → IsExcluded count since accesses a (Some b.txn) ⊎ IsLeft left (Some b.txn)

-- Whether the access changes the key.
abbrev pub changes_key : ℕ → Access → Bool
changes_key k a = (a.key == k) && not (option_eq nat_eq a.need a.left)

-- Whether the rows say that the source comes after the reader.
abbrev pub is_late : List (Vec Bool Global) → Option ℕ → ℕ → Bool
is_late rows None reader = false
is_late rows (Some w) reader = is_known rows reader w

-- Whether the rows say that `t` comes after the source and before the reader.
abbrev pub is_between : List (Vec Bool Global) → Option ℕ → ℕ → ℕ → Bool
is_between rows None t reader = is_known rows t reader
is_between rows (Some w) t reader = is_known rows w t && is_known rows t reader

-- In this order, another transaction does not come between the source and the reader.
abbrev pub IsBeside : List ℕ → Option ℕ → ℕ → ℕ → Type 0
IsBeside ts None t reader = t ≢ reader → place reader ts < place t ts
IsBeside ts (Some w) t reader =
    t ≢ w → t ≢ reader → (place t ts < place w ts) ⊎ (place reader ts < place t ts)

-- The same in every order.
abbrev pub StaysBeside : ℕ → (ℕ → ℕ) → List Access → Option ℕ → ℕ → ℕ → Type 0
StaysBeside count since accesses source t reader =
    (ts : List ℕ) → IsOrderOf (IsTxn count) (footprints_of accesses) since ts → IsBeside ts source t reader

-- If the source is a transaction, it comes before the reader in every order.
abbrev pub ComesFirst : ℕ → (ℕ → ℕ) → List Access → Option ℕ → ℕ → Type 0
ComesFirst count since accesses None reader = Unit {0}
ComesFirst count since accesses (Some w) reader = Precedes count since accesses w reader
