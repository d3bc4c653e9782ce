use Rattle.std.proofs.Common.{sym, ap, ◌∙◌}
use Rattle.map_ops.specs.Vocabulary.{ordered}
use Rattle.map_ops.proofs.Laws.{content-there_and_back, content-no_job}
use Rattle.map_ops.proofs.law.there_and_back.Goals as goal

pub returns-clause-content : goal.returns-clause-content
returns-clause-content c old new goes = content-there_and_back old goes.between new goes.op goes.reply goes.job goes.applies goes.back

pub returns-clause-regular : goal.returns-clause-regular
returns-clause-regular c old new goes was is =
    is ∙ ap ordered (content-there_and_back old goes.between new goes.op goes.reply goes.job goes.applies goes.back) ∙ sym was

pub returns-clause-no_job : goal.returns-clause-no_job
returns-clause-no_job c old new op reply applies = content-no_job old new op reply applies
