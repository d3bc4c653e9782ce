use Rattle.order_check.proofs.Choosing.{first_put}
use Rattle.order_check.proofs.choice.note_first.Goals as goal

pub returns-in_ok-insert : goal.returns-in_ok-insert
returns-in_ok-insert c = first_put c.args.version c.args.index c.args.firsts.now c.insert.new.self c.in_ok-insert.ensures.updates.0
