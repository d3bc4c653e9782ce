use Rattle.std.proofs.Common.{◌∙◌}
use Rattle.history_check.proofs.OneKey.{has-get}
use Rattle.history_check.proofs.values.Values.get.Goals as goal

pub returns : goal.returns
returns c m has = c.copied.ensures ∙ c.get.ensures.value ∙ has-get m c.args.self.now c.args.key c.index.result.now has c.index.ensures
