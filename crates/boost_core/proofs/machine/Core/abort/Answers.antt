use Rattle.std.proofs.Common.{sym, ◌∙◌}
use Rattle.boost_core.proofs.Calls.{unaborted}
use Rattle.boost_core.proofs.machine.Core.abort.Goals as goal

pub returns-in_default-clause-aborts : goal.returns-in_default-clause-aborts
returns-in_default-clause-aborts c =
    let does = c.call.ensures in
    unaborted c.args.self.now c.call.new.self c.args.caller c.call.result c.in_default.not-Leaving (sym c.leaves_to_end.ensures.value ∙ c.if-leaves_to_end.false) (record { move = does.moves; lists = does.lists; cursors = does.cursors })
