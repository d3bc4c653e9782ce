use Rattle.std.proofs.Common.{◌≡◌, ◌∙◌, arith}
use Rattle.std.proofs.Math.Nat.{add-mod_right}
use Rattle.script_worker.proofs.way.Way.first_left.Goals as goal

pub loop-number-preserved : goal.loop-number-preserved
loop-number-preserved c =
    let inv = c.loop-number.invariant in
    let low = inv.0 in
    (omega arith, add-mod_right c.loop-number.number c.args.work.now.workers ∙ inv.1)
