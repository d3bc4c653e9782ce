use Rattle.history_check.proofs.FirstBad.{told_of}
use Rattle.serial_check.specs.Serializable.{broken}
use Rattle.serial_check.specs.States.{Tells}
use Rattle.serial_check.proofs.Judging.{serializable_iff}
use Rattle.serial_check.proofs.checker.Checker.misread.Goals as goal

pub returns-clause-some : goal.returns-clause-some
returns-clause-some c h t fed is =
    let self = c.args.self.now in
    c.misread.ensures.some h t (told_of broken (Tells h self.state) h self.fed self.bad ((serializable_iff h).0 is) fed).keeps

pub returns-clause-none : goal.returns-clause-none
returns-clause-none c none h t fed is =
    let self = c.args.self.now in
    c.misread.ensures.none none h t (told_of broken (Tells h self.state) h self.fed self.bad ((serializable_iff h).0 is) fed).keeps
