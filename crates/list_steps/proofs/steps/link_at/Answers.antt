use Rattle.node_list.specs.Nodes.{filled}
use Rattle.list_steps.proofs.StepLemmas.{links}
use Rattle.list_steps.proofs.steps.link_at.Goals as goal

pub returns-clause-links : goal.returns-clause-links
returns-clause-links c =
    links _ _ _ (filled c.args.spare) c.requires.vacant c.link_after.ensures.linked c.link_after.ensures.node
