use Rattle.boost_core.proofs.Calls.{operated, stopped}
use Rattle.boost_core.proofs.machine.Core.operate.Goals as goal

pub returns-in-Asked-clause-operates : goal.returns-in-Asked-clause-operates
returns-in-Asked-clause-operates c =
    let asks = c.in-Asked.ensures in
    let seeks = c.call-in-Asked.ensures in
    let acts = c.call-in-Asked-2.ensures in
    operated c.args.self.now c.call.new.self c.call-in-Asked.new.self c.call-in-Asked-2.new.self c.args.caller c.args.op c.call-in-Asked.result c.call-in-Asked-2.result (record { move = asks.moves; lists = asks.lists; cursors = asks.cursors }) (record { move = seeks.moves; lists = seeks.lists; cursors = seeks.cursors }) seeks.cursor (record { move = acts.moves; lists = acts.lists; cursors = acts.cursors })

pub returns-in_default-clause-operates : goal.returns-in_default-clause-operates
returns-in_default-clause-operates c =
    let does = c.call.ensures in
    stopped c.args.self.now c.call.new.self c.args.caller c.args.op c.call.result c.in_default.not-Asked (record { move = does.moves; lists = does.lists; cursors = does.cursors })
