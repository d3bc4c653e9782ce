-- If a checker meets its contract, a referee that has this checker meets the referee's contract.
-- Assumes nothing.
use Rattle.std.proofs.Common.{ℕ, List, [], ◌∷◌, ◌++◌}
use Rattle.txn_words.specs.declared.entry.Entry.{Entry}
use Rattle.txn_words.specs.declared.holder.Holder.{Holder}
use Rattle.history_check.specs.declared.checker.Checker as lock
use Rattle.history_check.specs.declared.verdict.Verdict.{Verdict}
use Rattle.history_check.specs.Fed as by_locks
use Rattle.history_check.specs.Verdicts as on_locks
use Rattle.serial_check.specs.declared.checker.Checker as commit
use Rattle.serial_check.specs.Fed as by_commits
use Rattle.serial_check.specs.Verdicts as on_commits
use Rattle.boostmap_c.specs.declared.referee.Way.TheVariants.{ByLocks, ByCommits}
use Rattle.boostmap_c.specs.declared.referee.Referee.TheVariants.{Locks, Commits}
use Rattle.boostmap_c.specs.Referees.{IsFedOneMore, Stays, IsVerdictOf}

pub locks_taken : (entry : Entry) (old new : lock.Checker)
    → ((holder : Holder) (stripes : ℕ) (h : List Entry) → by_locks.IsFed holder stripes h old → by_locks.IsFed holder stripes (h ++ entry ∷ []) new)
    → IsFedOneMore entry (Locks old) (Locks new)
locks_taken entry old new step (ByLocks holder) stripes h fed = step holder stripes h fed
locks_taken entry old new step ByCommits stripes h fed = fed

pub locks_stay : (old new : lock.Checker)
    → ((holder : Holder) (stripes : ℕ) (h : List Entry) → by_locks.IsFed holder stripes h old → by_locks.IsFed holder stripes h new)
    → Stays (Locks old) (Locks new)
locks_stay old new step (ByLocks holder) stripes h fed = step holder stripes h fed
locks_stay old new step ByCommits stripes h fed = fed

pub locks_say : (checker : lock.Checker) (outcome : Verdict)
    → ((holder : Holder) (stripes : ℕ) (h : List Entry) → by_locks.IsFed holder stripes h checker → on_locks.IsVerdictOn holder stripes h outcome)
    → IsVerdictOf (Locks checker) outcome
locks_say checker outcome says (ByLocks holder) stripes h fed = says holder stripes h fed
locks_say checker outcome says ByCommits stripes h fed = absurd fed

pub commits_taken : (entry : Entry) (old new : commit.Checker)
    → ((h : List Entry) → by_commits.IsFed h old → by_commits.IsFed (h ++ entry ∷ []) new)
    → IsFedOneMore entry (Commits old) (Commits new)
commits_taken entry old new step (ByLocks holder) stripes h fed = fed
commits_taken entry old new step ByCommits stripes h fed = step h fed

pub commits_stay : (old new : commit.Checker)
    → ((h : List Entry) → by_commits.IsFed h old → by_commits.IsFed h new)
    → Stays (Commits old) (Commits new)
commits_stay old new step (ByLocks holder) stripes h fed = fed
commits_stay old new step ByCommits stripes h fed = step h fed

pub commits_say : (checker : commit.Checker) (outcome : Verdict)
    → ((h : List Entry) → by_commits.IsFed h checker → on_commits.IsVerdictOn h outcome)
    → IsVerdictOf (Commits checker) outcome
commits_say checker outcome says (ByLocks holder) stripes h fed = absurd fed
commits_say checker outcome says ByCommits stripes h fed = says h fed
