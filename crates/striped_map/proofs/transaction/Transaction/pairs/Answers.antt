use Rattle.std.proofs.Common.{refl}
use Rattle.striped_map.proofs.CallSpans.{lifts, within_every}
use Rattle.striped_map.proofs.transaction.Transaction.pairs.Goals as goal

pub returns : goal.returns
returns c = lifts _ _ _ refl c.pairs.ensures (within_every c.args.self.now.me.now c.pairs.new.self c.pairs.result c.pairs.ensures)
