use Rattle.owned_map.proofs.Steps.{commits}
use Rattle.owned_map.proofs.owned_map.OwnedMap.commit_first.Goals as goal

pub returns-clause-map : goal.returns-clause-map
returns-clause-map c = (commits c.args.self.now.core c.take_step.new.self.core 0 c.in-Committed.field-0 c.trace-legal.ensures.legal c.in-Committed.ensures.moves).same
