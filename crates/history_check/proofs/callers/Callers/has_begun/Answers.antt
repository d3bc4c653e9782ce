use Rattle.std.proofs.Common.{◌≤◌, sym, arith}
use Rattle.history_check.proofs.Beginners.{none_begun}
use Rattle.history_check.proofs.callers.Callers.has_begun.Goals as goal

pub returns-in-None : goal.returns-in-None
returns-in-None c h entered =
    let past = c.in-None.ensures.lookup.3 in
    let above : 64 ≤ c.args.caller = omega (arith, past, c.deref.ensures.len, c.args.self.now.all) in
    sym (none_begun c.args.caller above h entered.below)
