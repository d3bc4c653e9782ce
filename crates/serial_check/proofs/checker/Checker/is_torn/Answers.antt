use Rattle.history_check.proofs.FirstBad.{told_of}
use Rattle.serial_check.specs.Serializable.{broken}
use Rattle.serial_check.specs.States.{Tells}
use Rattle.serial_check.proofs.Judging.{serializable_iff}
use Rattle.serial_check.proofs.checker.Checker.is_torn.Goals as goal

pub returns-clause-torn : goal.returns-clause-torn
returns-clause-torn c torn h t fed is =
    let self = c.args.self.now in
    c.is_torn.ensures.torn torn h t (told_of broken (Tells h self.state) h self.fed self.bad ((serializable_iff h).0 is) fed).keeps

pub returns-clause-whole : goal.returns-clause-whole
returns-clause-whole c whole h t fed is =
    let self = c.args.self.now in
    c.is_torn.ensures.whole whole h t (told_of broken (Tells h self.state) h self.fed self.bad ((serializable_iff h).0 is) fed).keeps
