use Rattle.std.proofs.Common.{refl}
use Rattle.striped_map.proofs.CallSpans.{lifts, within_operated}
use Rattle.striped_map.proofs.transaction.Transaction.operate.Goals as goal

pub returns : goal.returns
returns c = lifts _ _ _ refl c.operate.ensures (within_operated c.args.self.now.me.now c.operate.new.self c.args.op c.operate.result c.operate.ensures)
