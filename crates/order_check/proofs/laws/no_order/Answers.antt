use Rattle.order_check.proofs.Cycles.{no_writer, cycle_no_order}
use Rattle.order_check.specs.Lists.{IsIn}
use Rattle.order_check.proofs.laws.no_order.Goals as goal

pub returns-clause-writer : goal.returns-clause-writer
returns-clause-writer c all footprints since u k n one needs none = no_writer (λ t. IsIn t all) footprints since u k n one needs none

pub returns-clause-cycle : goal.returns-clause-cycle
returns-clause-cycle c all footprints since only ls cycle = cycle_no_order (λ t. IsIn t all) footprints since only ls cycle
