-- Feeding a judge.
use Rattle.std.proofs.Common.{◌≡◌, ℕ, List, [], ◌∷◌, ◌++◌, subst}
use Rattle.txn_words.specs.declared.entry.Entry.{Entry}
use Rattle.txn_words.specs.declared.holder.Holder.{Holder}
use Rattle.history_check.specs.declared.checker.Checker as locks_checker
use Rattle.history_check.specs.Fed as locks
use Rattle.serial_check.specs.declared.checker.Checker as commits_checker
use Rattle.serial_check.specs.Fed as commits
use Rattle.judge_engine.specs.declared.basis.Basis.{Basis}
use Rattle.judge_engine.specs.declared.basis.Basis.TheVariants.{Locks, Commits}
use Rattle.judge_engine.specs.declared.judge.Judge.{Judge}
use Rattle.judge_engine.specs.declared.judge.Judge.TheVariants as judges
use Rattle.judge_engine.specs.Bases.{IsFedBy}

pub fed_locks : (judge : Judge) (old new : locks_checker.Checker) (e : Entry) → judge ≡ judges.Locks old → ((holder : Holder) (stripes : ℕ) (h : List Entry) → locks.IsFed holder stripes h old → locks.IsFed holder stripes (h ++ e ∷ []) new) → (basis : Basis) (h : List Entry) → IsFedBy basis h judge → IsFedBy basis (h ++ e ∷ []) (judges.Locks new)
fed_locks judge old new e is more (Locks stripes holder) h was = more holder stripes h (subst (IsFedBy (Locks stripes holder) h) is was)
fed_locks judge old new e is more Commits h was = absurd (subst (IsFedBy Commits h) is was)

pub fed_commits : (judge : Judge) (old new : commits_checker.Checker) (e : Entry) → judge ≡ judges.Commits old → ((h : List Entry) → commits.IsFed h old → commits.IsFed (h ++ e ∷ []) new) → (basis : Basis) (h : List Entry) → IsFedBy basis h judge → IsFedBy basis (h ++ e ∷ []) (judges.Commits new)
fed_commits judge old new e is more (Locks stripes holder) h was = absurd (subst (IsFedBy (Locks stripes holder) h) is was)
fed_commits judge old new e is more Commits h was = more h (subst (IsFedBy Commits h) is was)
