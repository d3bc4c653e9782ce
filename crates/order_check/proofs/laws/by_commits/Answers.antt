use Rattle.serial_check.proofs.Law.{legal_serializable}
use Rattle.order_check.proofs.ByCommits.{serializable_in_order, serializable_in_some}
use Rattle.order_check.proofs.laws.by_commits.Goals as goal

pub returns-clause-order : goal.returns-clause-order
returns-clause-order c h is = serializable_in_order h is

pub returns-clause-commits : goal.returns-clause-commits
returns-clause-commits c h is = serializable_in_some h is

pub returns-clause-legal : goal.returns-clause-legal
returns-clause-legal c holder stripes h legal = serializable_in_some h (legal_serializable holder stripes h legal)
