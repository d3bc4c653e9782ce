use Rattle.boost_core.proofs.Calls.{stayed}
use Rattle.boost_core.proofs.machine.Core.back.Goals as goal

pub returns-in_default-clause-returns : goal.returns-in_default-clause-returns
returns-in_default-clause-returns c =
    let does = c.call.ensures in
    stayed c.args.self.now c.call.new.self c.args.caller c.args.level c.call.result c.in_default.not-Leaving (record { move = does.moves; lists = does.lists; cursors = does.cursors })
