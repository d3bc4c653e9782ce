use Rattle.node_list.proofs.CountLemmas.{marked_count-zero}
use Rattle.node_list.proofs.list.NodeList.marked_count.Goals as goal

pub returns-clause-none : goal.returns-clause-none
returns-clause-none c = rw (← c.self.view_is, c.total.ensures, c.self.invariant.kept.marks) (marked_count-zero _)
