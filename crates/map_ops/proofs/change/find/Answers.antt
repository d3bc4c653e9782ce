use Rattle.std.proofs.Common.{sym}
use Rattle.map_ops.proofs.ThereLemmas.{found}
use Rattle.map_ops.proofs.change.find.Goals as goal

pub returns-clause-ok : goal.returns-clause-ok
returns-clause-ok c =
    found c.args.list.now c.args.cursor.now c.args.key c.requires.sound c.requires.belong c.requires.placed c.requires.at c.look.result (sym c.look.ensures.again) c.look.ensures.ok
