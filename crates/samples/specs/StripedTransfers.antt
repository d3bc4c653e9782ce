-- Transfers between the accounts of a striped map.
use Rattle.std.specs.Prelude.{ℕ, ◌≡◌, ◌+◌, ◌^◌, ◌<◌, ◌≤◌, ◌⊎◌, Bool, true, false, List, [], ◌∷◌, ◌++◌, Option, Some, unwrap_or, slice_get}
use Rattle.std.specs.Prelude.{Result, Ok, Err}
use Rattle.samples.specs.Vocabulary.{Asked, Begun, Busy, Caller, Committed, Did, Entry, FailsBusy, FailsOrNot, Get, IsLegal, Map, Put, Stop}
use Rattle.samples.specs.Vocabulary.{how_many, is_commit, number, own, seen, serial, stripes_in}
use Rattle.samples.specs.Transfers.{balance, IsTransfer}

-- The sum cannot be moved: the first account has less than the sum, or the second would have 2^64
-- or more.
abbrev pub CannotMove : ℕ → ℕ → ℕ → Type 0
CannotMove sum had has = (had < sum) ⊎ (2 ^ 64 ≤ has + sum)

-- The effect of a transfer on a map: the sum was moved, or it cannot be moved and nothing changed.
abbrev pub Makes : ℕ → ℕ → ℕ → Bool → Map → Map → Type 0
Makes from to sum true old new = IsTransfer from to sum old new
Makes from to sum false old new = (new ≡ old) × CannotMove sum (balance old from) (balance old to)

-- The caller has committed one more transaction. The history that the caller has now seen is legal,
-- begins with all entries that it had seen before, and ends with this commit. The earlier commits
-- result in a map, and this commit turns that map into the map after the transfer.
pub record HasTransferred (from to sum : ℕ) (moved : Bool) (a b : Caller) : Type 0 where
  pub map_is : b.map ≡ a.map
  pub number_is : number b ≡ number a
  pub goes : (i : ℕ) (e : Entry) → slice_get (seen a) i ≡ Some e → slice_get (seen b) i ≡ Some e
  pub legal : IsLegal Begun (stripes_in b) (seen b)
  pub once : how_many is_commit (own (number a) (seen b))
      ≡ how_many is_commit (own (number a) (seen a)) + 1
  pub place : ℕ
  pub before : List Entry
  pub ends : seen b ≡ before ++ Committed (number a) place ∷ []
  pub place_is : place ≡ how_many is_commit before + 1
  pub makes : Makes from to sum moved (serial before) (serial (seen b))

-- The caller has added exactly these entries; other callers' entries may be between them.
pub record HasAdded (a : Caller) (es : List Entry) (b : Caller) : Type 0 where
  pub map_is : b.map ≡ a.map
  pub number_is : number b ≡ number a
  pub rest : List Entry
  pub goes : seen b ≡ seen a ++ rest
  pub own_is : own (number a) rest ≡ es

-- `reading` is the entries of the two reads, and `writing` is those of the two writes.
abbrev pub reading : ℕ → ℕ → ℕ → Option ℕ → Option ℕ → List Entry
reading c from to had has =
    Asked c (Get from) ∷ Did c had ∷ Asked c (Get to) ∷ Did c has ∷ []

abbrev pub writing : ℕ → ℕ → ℕ → ℕ → ℕ → Option ℕ → Option ℕ → List Entry
writing c from to less more first second =
    Asked c (Put from less) ∷ Did c first ∷ Asked c (Put to more) ∷ Did c second ∷ []

-- Both accounts were read. If the sum could be moved, both were also written.
abbrev pub HasWritten : ℕ → ℕ → ℕ → ℕ → Bool → Option ℕ → Option ℕ → List Entry → Type 0
HasWritten c from to sum true had has es = (less : ℕ) × (less + sum ≡ unwrap_or had 0)
    × (first : Option ℕ) × (second : Option ℕ) × (es ≡ reading c from to had has
    ++ writing c from to less (unwrap_or has 0 + sum) first second)
HasWritten c from to sum false had has es =
    CannotMove sum (unwrap_or had 0) (unwrap_or has 0) × (es ≡ reading c from to had has)

-- The work of a transfer was done, and added the entries `entries`.
pub record HasWorked (from to sum : ℕ) (moved : Bool) (a b : Caller) : Type 0 where
  pub entries : List Entry
  pub added : HasAdded a entries b
  pub had : Option ℕ
  pub has : Option ℕ
  pub written : HasWritten (number a) from to sum moved had has entries

-- The work of a transfer returned this result. If the result is an error, nothing is stated.
abbrev pub Works : ℕ → ℕ → ℕ → Caller → Result Bool Stop → Caller → Type 0
Works from to sum a (Ok moved) b = HasWorked from to sum moved a b
Works from to sum a (Err stop) b = Unit {0}

-- The transfer was tried and then given up: each try before the last one was busy, and the last try
-- failed. If the last try was busy too, no further try was allowed.
pub record GivesUp (from to sum tries : ℕ) (stop : Stop) (a b : Caller) : Type 0 where
  pub busy : ℕ
  pub within : busy ≤ tries
  pub all : (holder : ℕ) → stop ≡ Busy holder → busy ≡ tries
  pub last : Caller
  pub before : FailsBusy (Works from to sum) busy a last
  pub failed : FailsOrNot (Works from to sum) last b stop
