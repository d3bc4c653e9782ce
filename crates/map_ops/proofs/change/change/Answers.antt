use Rattle.map_ops.proofs.ThereLemmas.{node_linked}
use Rattle.map_ops.proofs.change.change.Goals as goal

pub put_key-requires-clause-owned : goal.put_key-requires-clause-owned
put_key-requires-clause-owned c = rw c.in-Put.is at c.requires.owned

pub put_if_key-requires-clause-owned : goal.put_if_key-requires-clause-owned
put_if_key-requires-clause-owned c = rw c.in-PutIf.is at c.requires.owned

pub take_key-requires-clause-owned : goal.take_key-requires-clause-owned
take_key-requires-clause-owned c = rw c.in-Take.is at c.requires.owned

pub returns-in-Put-clause-does : goal.returns-in-Put-clause-does
returns-in-Put-clause-does c = rw c.in-Put.is c.put_key.ensures.does

pub returns-in-PutIf-clause-does : goal.returns-in-PutIf-clause-does
returns-in-PutIf-clause-does c = rw c.in-PutIf.is c.put_if_key.ensures.does

pub returns-in-Take-clause-does : goal.returns-in-Take-clause-does
returns-in-Take-clause-does c = rw c.in-Take.is c.take_key.ensures.does

pub node-requires : goal.node-requires
node-requires c =
    let has = rw (c.in-Get.is, c.in-Some.is) at c.requires.stands in
    node_linked _ _ _ has
