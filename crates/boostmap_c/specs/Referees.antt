-- Which entries a referee was fed, and what its verdict means. Both depend on its rule.
use Rattle.std.specs.Prelude.{ℕ, ◌<◌, ◌++◌, [], ◌∷◌, List}
use Rattle.txn_words.specs.declared.entry.Entry.{Entry}
use Rattle.history_check.specs.declared.verdict.Verdict.{Verdict}
use Rattle.history_check.specs.Fed as by_locks
use Rattle.history_check.specs.Verdicts as on_locks
use Rattle.serial_check.specs.Fed as by_commits
use Rattle.serial_check.specs.Verdicts as on_commits
use Rattle.boostmap_c.specs.declared.referee.Way.{Way}
use Rattle.boostmap_c.specs.declared.referee.Way.TheVariants.{ByLocks, ByCommits}
use Rattle.boostmap_c.specs.declared.referee.Referee.{Referee}
use Rattle.boostmap_c.specs.declared.referee.Referee.TheVariants.{Locks, Commits}

-- A judge by locks needs at least one stripe; a judge by the order of commits needs none.
abbrev pub has_stripes : Way → ℕ → Type 0
has_stripes (ByLocks holder) stripes = 0 < stripes
has_stripes ByCommits stripes = Unit {0}

-- The referee judges by this rule. It was fed these entries of a map with this number of stripes.
abbrev pub IsFedBy : Way → ℕ → List Entry → Referee → Type 0
IsFedBy (ByLocks holder) stripes h (Locks checker) = by_locks.IsFed holder stripes h checker
IsFedBy ByCommits stripes h (Commits checker) = by_commits.IsFed h checker
IsFedBy way stripes h referee = ⊥

-- The outcome is the verdict that the rule's definition gives on these entries.
abbrev pub IsVerdictBy : Way → ℕ → List Entry → Verdict → Type 0
IsVerdictBy (ByLocks holder) stripes h outcome = on_locks.IsVerdictOn holder stripes h outcome
IsVerdictBy ByCommits stripes h outcome = on_commits.IsVerdictOn h outcome

-- The referee has been fed the same entries as before, and then this one.
abbrev pub IsFedOneMore : Entry → Referee → Referee → Type 0
IsFedOneMore entry old new =
    (way : Way) (stripes : ℕ) (h : List Entry)
    → IsFedBy way stripes h old → IsFedBy way stripes (h ++ entry ∷ []) new

-- The referee has been fed the same entries as before.
abbrev pub Stays : Referee → Referee → Type 0
Stays old new =
    (way : Way) (stripes : ℕ) (h : List Entry)
    → IsFedBy way stripes h old → IsFedBy way stripes h new

-- The outcome is the verdict of the referee's rule on the entries that the referee was fed,
-- whichever they are.
abbrev pub IsVerdictOf : Referee → Verdict → Type 0
IsVerdictOf referee outcome =
    (way : Way) (stripes : ℕ) (h : List Entry)
    → IsFedBy way stripes h referee → IsVerdictBy way stripes h outcome
