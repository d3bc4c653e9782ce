use Rattle.std.proofs.Common.{◌<◌, refl, arith}
use Rattle.history_check.proofs.CallerTable.{sits_at, entered-same}
use Rattle.history_check.proofs.callers.Callers.reserve.Goals as goal

pub returns-clause-same : goal.returns-clause-same
returns-clause-same c h entered =
    let below : c.caller-caller.result < 64 = omega (arith, c.caller-caller.ensures, c.requires) in
    let sits = sits_at h c.args.self.now c.caller-caller.result c.index_mut.result.now entered below c.index_mut.ensures.value in
    entered-same h c.args.self.now _ c.caller-caller.result c.index_mut.result.now c.reserve.new.self entered sits c.reserve.ensures.stance c.reserve.ensures.log c.reserve.ensures.begun refl refl refl
