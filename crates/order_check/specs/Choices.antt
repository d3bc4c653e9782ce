-- The choice of sources.
use Rattle.std.specs.Prelude.{ℕ, ◌≡◌, true, Some, None, IsSome, List, [], ◌∷◌}
use Rattle.std.specs.HashMap.{HashMap, get as told_at}
use Rattle.order_check.specs.declared.access.Access.{Access}
use Rattle.order_check.specs.declared.choice.Choice.{Choice}
use Rattle.order_check.specs.declared.choice.Choice.TheVariants.{Sourced, Unwritten}
use Rattle.order_check.specs.declared.choice.Source.{Source}
use Rattle.order_check.specs.declared.choice.Source.TheVariants.{Beginning, Written, Nobody}
use Rattle.order_check.specs.Tables.{Version, version_eq, DoesWrite, Grows, IsAmong, Knows}
use Rattle.order_check.specs.Joined.{NeedsAt, PlacedAt, AreSourced}

-- The same accesses, up to their sources.
abbrev pub AreSame : List Access → List Access → Type 0
AreSame [] [] = Unit {0}
AreSame [] (y ∷ ys) = ⊥
AreSame (x ∷ xs) [] = ⊥
AreSame (x ∷ xs) (y ∷ ys) = (y ≡ record x { source = y.source }) × AreSame xs ys

-- The transaction needs a value at the key, and no access writes it.
pub record IsUnwritten (accesses : List Access) (a : Access) : Type 0 where
  pub needs : NeedsAt accesses a.txn (a.key, a.need)
  pub some : IsSome a.need
  pub none : (b : Access) → IsAmong b accesses → DoesWrite (a.key, a.need) b → ⊥

-- The same accesses, each with a source that gives what it needs.
abbrev pub IsSourced : List Access → List Access → Type 0
IsSourced accesses sourced = AreSame accesses sourced × AreSourced sourced

abbrev pub IsChoice : List Access → Choice → Type 0
IsChoice accesses (Sourced v) = IsSourced accesses v.items
IsChoice accesses (Unwritten a) = IsUnwritten accesses a

-- The accesses in the map write the values.
abbrev pub LatestWrite : {S : Type 0} → List Access → HashMap Version ℕ S → Type 0
LatestWrite accesses latest = (q : Version) (i : ℕ) → told_at version_eq latest q ≡ Some i → PlacedAt (DoesWrite q) accesses i

-- The same, and each value that is written is in the map.
abbrev pub AreFirst : {S : Type 0} → List Access → HashMap Version ℕ S → Type 0
AreFirst accesses firsts =
    (q : Version) → Knows (PlacedAt (DoesWrite q) accesses) (DoesWrite q) accesses (told_at version_eq firsts q)

-- The index is known of the version, or another one.
abbrev pub NotesFirst : {S : Type 0} → Version → ℕ → HashMap Version ℕ S → HashMap Version ℕ S → Type 0
NotesFirst version i old new =
    Grows (λ q. version_eq version q ≡ true) i (told_at version_eq old) (told_at version_eq new)

abbrev pub IsSourcing : List Access → Access → Source → Type 0
IsSourcing accesses a Beginning = a.need ≡ None
IsSourcing accesses a (Written i) = PlacedAt (DoesWrite (a.key, a.need)) accesses i
IsSourcing accesses a Nobody = IsSome a.need × ((b : Access) → IsAmong b accesses → DoesWrite (a.key, a.need) b → ⊥)
