-- The rules by which a history is judged.
use Rattle.std.specs.Prelude.{◌<◌, List}
use Rattle.txn_words.specs.declared.entry.Entry.{Entry}
use Rattle.txn_trace.specs.Legal.{IsLegal}
use Rattle.bad_entry.specs.declared.reason.Reason.{Reason}
use Rattle.bad_entry.specs.Reasons.{IsReasonByCommits, IsReasonByLocks}
use Rattle.history_check.specs.declared.verdict.Rule.{Rule}
use Rattle.history_check.specs.declared.verdict.Verdict.{Verdict}
use Rattle.history_check.specs.Fed as locks
use Rattle.history_check.specs.Verdicts as locks_verdicts
use Rattle.serial_check.specs.Fed as commits
use Rattle.serial_check.specs.Verdicts as commits_verdicts
use Rattle.serial_check.specs.Serializable.{IsSerializableByCommits}
use Rattle.judge_engine.specs.declared.basis.Basis.{Basis}
use Rattle.judge_engine.specs.declared.basis.Basis.TheVariants.{Locks, Commits}
use Rattle.judge_engine.specs.declared.judge.Judge.{Judge}
use Rattle.judge_engine.specs.declared.judge.Judge.TheVariants as judges

-- If the rules are those of locks, there is at least one stripe.
abbrev pub HasStripes : Basis → Type 0
HasStripes (Locks stripes holder) = 0 < stripes
HasStripes Commits = Unit {0}

-- The history is legal by locks, or serializable in the order of its commits.
abbrev pub IsLegalBy : Basis → List Entry → Type 0
IsLegalBy (Locks stripes holder) h = IsLegal holder stripes h
IsLegalBy Commits h = IsSerializableByCommits h

-- The outcome is the verdict that the definitions give on the history by these rules. It says legal
-- exactly if the history is legal by these rules.
abbrev pub IsVerdictBy : Basis → List Entry → Verdict → Type 0
IsVerdictBy (Locks stripes holder) h outcome = locks_verdicts.IsVerdictOn holder stripes h outcome
IsVerdictBy Commits h outcome = commits_verdicts.IsVerdictOn h outcome

-- The judge was fed these entries, in this order, and judges by these rules.
abbrev pub IsFedBy : Basis → List Entry → Judge → Type 0
IsFedBy (Locks stripes holder) h (judges.Locks checker) = locks.IsFed holder stripes h checker
IsFedBy Commits h (judges.Commits checker) = commits.IsFed h checker
IsFedBy basis h judge = ⊥

-- This is the reason why the entry `e` breaks the rule after the entries `h`.
abbrev pub IsReasonBy : Basis → Rule → List Entry → Entry → Reason → Type 0
IsReasonBy (Locks stripes holder) rule h e reason = IsReasonByLocks rule stripes h e reason
IsReasonBy Commits rule h e reason = IsReasonByCommits rule h e reason
