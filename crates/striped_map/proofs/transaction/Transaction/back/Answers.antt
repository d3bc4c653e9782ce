use Rattle.std.proofs.Common.{refl}
use Rattle.striped_map.proofs.CallSpans.{lifts, within_backed}
use Rattle.striped_map.proofs.transaction.Transaction.back.Goals as goal

pub returns : goal.returns
returns c = lifts _ _ _ refl c.back.ensures (within_backed c.args.self.now.me.now c.back.new.self c.args.level c.back.result c.back.ensures)
