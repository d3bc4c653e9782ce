use Rattle.std.proofs.Common.{refl}
use Rattle.striped_map.proofs.CallSpans.{lifts, within_every}
use Rattle.striped_map.proofs.transaction.Transaction.len.Goals as goal

pub returns : goal.returns
returns c = lifts _ _ _ refl c.len.ensures (within_every c.args.self.now.me.now c.len.new.self c.len.result c.len.ensures)
