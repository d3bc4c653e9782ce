use Rattle.order_check.proofs.Misshapen.{told_if}
use Rattle.order_check.proofs.checker.Checker.callers.Goals as goal

pub returns : goal.returns
returns c b h fed shape = (told_if b h c.args.self.now c.args.self.now.misshapen shape fed).entered
