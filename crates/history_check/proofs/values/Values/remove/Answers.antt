use Rattle.std.proofs.Common.{None}
use Rattle.history_check.proofs.OneKey.{has-set_at}
use Rattle.history_check.proofs.values.Values.remove.Goals as goal

pub returns : goal.returns
returns c m has = has-set_at m c.args.self.now c.args.key None c.index_mut.result.now c.remove.new.self has c.index_mut.ensures.value c.remove.ensures.updates.0
