use Rattle.std.proofs.Common.{sym, ap, ◌∙◌}
use Rattle.map_ops.specs.Vocabulary.{ordered}
use Rattle.map_ops.proofs.EitherOrder.{either-content, either-spares, either_due}
use Rattle.map_ops.proofs.law.either_order.Goals as goal

pub returns-clause-due : goal.returns-clause-due
returns-clause-due c old new first second apart spares shows back = either_due old new first second apart spares shows back

pub returns-clause-content : goal.returns-clause-content
returns-clause-content c old one other first second apart a b = either-content old one other first second apart a b

pub returns-clause-regular : goal.returns-clause-regular
returns-clause-regular c old one other first second apart a b was is =
    was ∙ ap ordered (either-content old one other first second apart a b) ∙ sym is

pub returns-clause-spares : goal.returns-clause-spares
returns-clause-spares c old one other first second a b = either-spares old one other first second a b
