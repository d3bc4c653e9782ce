-- For each caller, a flag that says whether it has begun a transaction.
use Rattle.std.specs.Prelude.{◌≡◌, ℕ, Bool, true, false, List, Option, Some, length, nat_lt, slice_index_or, slice_set, if◌then◌else◌}
use Rattle.boost_core.specs.Vocabulary.{Entry, has_begun}
use Rattle.txn_words.specs.declared.entry.Entry.TheVariants.{Began}

-- The callers' flags after a step. If the step's entry begins a transaction, the flag of its caller
-- is set.
abbrev pub begun_with : List Bool → Option Entry → List Bool
begun_with begun (Some (Began c t)) =
    if nat_lt c (length begun) then slice_set begun c true else begun
begun_with begun entry = begun

-- There is one flag for each caller. It is true exactly if the caller has begun a transaction in
-- this history.
pub record AreNoted (callers : ℕ) (history : List Entry) (begun : List Bool) : Type 0 where
  pub many : length begun ≡ callers
  pub each : (c : ℕ) → slice_index_or begun c false ≡ has_begun c history
