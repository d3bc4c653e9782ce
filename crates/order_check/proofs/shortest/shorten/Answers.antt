use Rattle.order_check.specs.Timing.{since_in}
use Rattle.order_check.proofs.Shortening.{cycle_leads}
use Rattle.order_check.proofs.shortest.shorten.Goals as goal

pub returns-in-None : goal.returns-in-None
returns-in-None c = cycle_leads (since_in c.args.since.now) c.args.graph.now c.args.found.items c.requires
