use Rattle.std.proofs.Common.{Some}
use Rattle.history_check.proofs.OneKey.{has-set_at}
use Rattle.history_check.proofs.values.Values.insert.Goals as goal

pub returns-clause-ok : goal.returns-clause-ok
returns-clause-ok c m has = has-set_at m c.args.self.now c.args.key (Some c.args.value) c.index_mut.result.now c.insert.new.self has c.index_mut.ensures.value c.in_ok-insert.ensures.updates.0
