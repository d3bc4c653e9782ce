use Rattle.std.proofs.Common.{refl}
use Rattle.striped_map.proofs.CallSpans.{lifts, within_stripe}
use Rattle.striped_map.proofs.transaction.Transaction.pairs_with.Goals as goal

pub returns : goal.returns
returns c = lifts _ _ _ refl c.pairs_with.ensures (within_stripe c.args.self.now.me.now c.pairs_with.new.self c.args.key c.pairs_with.result c.pairs_with.ensures)
