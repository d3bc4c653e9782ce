use Rattle.std.proofs.Common.{subst}
use Rattle.boost_core.proofs.Vocabulary.{nodes_of, State, IsInOrder}
use Rattle.boost_core.specs.Locks.{KeepsLocks}
use Rattle.boost_core.proofs.NodeLists.{in_order}
use Rattle.boost_core.proofs.machine.Core.trace.Goals as goal

pub returns-clause-order : goal.returns-clause-order
returns-clause-order c = subst (λ (s : State). IsInOrder s.nodes) c.self.view_is (in_order (nodes_of c.self.inside.table) c.size-size.ensures.rising)

pub returns-clause-locks : goal.returns-clause-locks
returns-clause-locks c = subst KeepsLocks c.self.view_is c.self.invariant.tells.legal.locks
