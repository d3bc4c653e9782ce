use Rattle.order_check.specs.Lists.{IsIn}
use Rattle.order_check.proofs.Cycles.{edge_forward}
use Rattle.order_check.proofs.laws.edges_forced.Goals as goal

pub returns : goal.returns
returns c all footprints since only edge to forces order is = edge_forward (λ t. IsIn t all) footprints since only order is edge to forces
