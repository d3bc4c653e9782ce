use Rattle.std.proofs.Common.{◌%◌, ap}
use Rattle.bad_entry.proofs.reason.lock_reason.Goals as goal

pub returns : goal.returns
returns c holder legal = (ap (λ k. k % c.args.stripes) c.key.ensures, c.in_ok-holder.ensures holder legal)
