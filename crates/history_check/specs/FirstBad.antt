-- The first bad entry of a history that a checker was fed, by any rules.
use Rattle.std.specs.Prelude.{◌≡◌, ℕ, Option, Some, None, List, [], length}
use Rattle.txn_words.specs.declared.entry.Entry.{Entry}
use Rattle.txn_trace.specs.Legal.{first_bad_by}
use Rattle.history_check.specs.declared.verdict.Rule.{Rule}
use Rattle.history_check.specs.Verdicts.{number_of}

-- A checker was fed the entries `h`. If it noted no bad entry, `fed` is the number of entries in
-- `h`, and `told` holds. `told` says that the checker's state is the one after `h`. If the checker
-- noted a bad entry, this is the first bad entry of `h`.
abbrev pub FedBy : (List Entry → Entry → Option ℕ)
    → Type 0 → List Entry → ℕ → Option (ℕ × Rule) → Type 0
FedBy broken told h fed None = told × (fed ≡ length h)
FedBy broken told h fed (Some bad) = first_bad_by broken [] h 0 ≡ Some (bad.0, number_of bad.1)
