use Rattle.owned_map.proofs.Steps.{commits}
use Rattle.owned_map.proofs.owned_map.OwnedMap.commit.Goals as goal

pub returns-in-Committed-clause-ok : goal.returns-in-Committed-clause-ok
returns-in-Committed-clause-ok c = commits c.args.self.now.core c.take_step.new.self.core c.args.caller c.in-Committed.place c.trace-legal.ensures.legal c.in-Committed.ensures.moves
