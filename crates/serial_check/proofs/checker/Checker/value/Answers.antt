use Rattle.std.proofs.Common.{◌∙◌}
use Rattle.history_check.proofs.FirstBad.{told_of}
use Rattle.serial_check.specs.Serializable.{broken}
use Rattle.serial_check.specs.States.{Tells}
use Rattle.serial_check.proofs.Judging.{serializable_iff}
use Rattle.serial_check.proofs.checker.Checker.value.Goals as goal

pub returns : goal.returns
returns c h fed is =
    let self = c.args.self.now in
    c.copied.ensures ∙ c.get.ensures.value ∙ (told_of broken (Tells h self.state) h self.fed self.bad ((serializable_iff h).0 is) fed).keeps.values c.args.key
