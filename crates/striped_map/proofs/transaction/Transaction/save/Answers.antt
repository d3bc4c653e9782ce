use Rattle.std.proofs.Common.{refl}
use Rattle.striped_map.proofs.CallSpans.{lifts, within_save}
use Rattle.striped_map.proofs.transaction.Transaction.save.Goals as goal

pub returns : goal.returns
returns c = lifts _ _ _ refl c.save.ensures (within_save c.args.self.now.me.now c.save.new.self c.save.result c.save.ensures)
