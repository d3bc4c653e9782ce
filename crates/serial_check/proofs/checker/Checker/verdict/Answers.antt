use Rattle.std.proofs.Common.{subst}
use Rattle.history_check.specs.FirstBad.{FedBy}
use Rattle.history_check.proofs.FirstBad.{verdict_by-none, verdict_by-some}
use Rattle.serial_check.specs.Serializable.{broken}
use Rattle.serial_check.specs.States.{Tells}
use Rattle.serial_check.proofs.Judging.{serializable_iff, verdict_on}
use Rattle.serial_check.proofs.checker.Checker.verdict.Goals as goal

pub returns-in-None : goal.returns-in-None
returns-in-None c h fed =
    let self = c.args.self.now in
    let told = subst (FedBy broken (Tells h self.state) h self.fed) c.in-None.is fed in
    verdict_on h _ (verdict_by-none broken h c.committed.result c.running.result ((serializable_iff h).0 told.0.serializable) (c.committed.ensures h told.0.entered) (c.running.ensures h told.0.entered))

pub returns-in-Some : goal.returns-in-Some
returns-in-Some c h fed =
    let self = c.args.self.now in
    let told = subst (FedBy broken (Tells h self.state) h self.fed) c.in-Some.is fed in
    verdict_on h _ (verdict_by-some broken h _ told)
