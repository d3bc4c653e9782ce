use Rattle.std.proofs.Common.{sym}
use Rattle.history_check.specs.Callers.{stance_of}
use Rattle.history_check.proofs.CallerTable.{sits_at}
use Rattle.history_check.proofs.callers.Callers.phase.Goals as goal

pub returns : goal.returns
returns c h entered =
    let sits = sits_at h c.args.self.now c.args.caller c.index.result.now entered c.requires c.index.ensures in
    record { stance = stance_of c.index.result.now; stance_is = sits.stance; phase_is = sym c.phase.ensures }
