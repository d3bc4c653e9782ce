use Rattle.std.proofs.Common.{◌∙◌}
use Rattle.std.proofs.lemmas.Result.{IfOk-weaker}
use Rattle.judge_engine.proofs.OrderTexts.{text_is}
use Rattle.judge_engine.proofs.order.text_of.Goals as goal

pub returns : goal.returns
returns c h found = IfOk-weaker c.text_by.result _ _ (λ text is. is ∙ text_is c.args.real_time c.args.shows h c.args.ordered.now found) c.text_by.ensures
