use Rattle.txn_drive.proofs.WayLemmas.{IsAncestor-root, parent_of-child_towards, IsAncestor-child_towards, child_towards-le}
use Rattle.txn_drive.proofs.laws.ways.Goals as goal

pub returns-clause-root : goal.returns-clause-root
returns-clause-root c = IsAncestor-root

pub returns-clause-child : goal.returns-clause-child
returns-clause-child c = parent_of-child_towards

pub returns-clause-ancestor : goal.returns-clause-ancestor
returns-clause-ancestor c = IsAncestor-child_towards

pub returns-clause-below : goal.returns-clause-below
returns-clause-below c = child_towards-le
