use Rattle.order_check.proofs.Strictly.{strictly_in_order, strictly_serializable}
use Rattle.order_check.proofs.laws.in_time.Goals as goal

pub returns-clause-commits : goal.returns-clause-commits
returns-clause-commits c h is = strictly_in_order h is

pub returns-clause-plain : goal.returns-clause-plain
returns-clause-plain c h is = strictly_serializable h is
