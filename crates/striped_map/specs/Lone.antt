-- PROMISES the-striped-map: RunsAlone
-- What the contract of a commit promises about the transaction.
use Rattle.std.specs.Prelude.{◌≡◌, ℕ, ◌+◌, List, [], ◌∷◌, ◌++◌, IsSome}
use mathlib.Core.List.{IsPrefix}
use Rattle.txn_words.specs.declared.entry.Entry.{Entry}
use Rattle.txn_words.specs.declared.entry.Entry.TheVariants.{Began, Committed}
use Rattle.txn_trace.specs.Alone.{alone}
use Rattle.txn_trace.specs.History.{of}
use Rattle.txn_words.specs.Kinds.{is_commit}
use Rattle.txn_trace.specs.Serial.{serial}
use Rattle.txn_words.specs.Shape.{how_many}

-- A transaction of caller `c` commits in the history with the commit number `place`. This number is
-- one more than the number of earlier commits. The transaction has the same replies as if it ran
-- alone on the map that results from the earlier commits.
pub record RunsAlone (c place : ℕ) (log : List Entry) : Type 0 where
  pub txn : ℕ
  pub inner : List Entry
  pub whole : of txn log ≡ Began c txn ∷ inner ++ Committed c place ∷ []
  pub before : List Entry
  pub there : IsPrefix (before ++ Committed c place ∷ []) log
  pub number : place ≡ how_many is_commit before + 1
  pub replied : IsSome (alone (serial before) (Began c txn ∷ inner ++ Committed c place ∷ []))
