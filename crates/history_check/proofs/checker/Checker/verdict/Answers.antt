use Rattle.std.proofs.Common.{subst}
use Rattle.txn_trace.specs.Legal.{broken}
use Rattle.history_check.specs.FirstBad.{FedBy}
use Rattle.history_check.specs.States.{Tells}
use Rattle.history_check.proofs.FirstBad.{verdict_by-none, verdict_by-some}
use Rattle.history_check.proofs.Ends.{none_bad_in, verdict_on}
use Rattle.history_check.proofs.checker.Checker.verdict.Goals as goal

pub returns-in-None : goal.returns-in-None
returns-in-None c holder stripes h fed =
    let self = c.args.self.now in
    let told = subst (FedBy (broken holder stripes) (Tells holder stripes h self.state) h self.fed) c.in-None.is fed in
    verdict_on holder stripes h _ (verdict_by-none (broken holder stripes) h c.committed.result c.running.result (none_bad_in holder stripes h told.0.legal) (c.committed.ensures h told.0.entered) (c.running.ensures h told.0.entered))

pub returns-in-Some : goal.returns-in-Some
returns-in-Some c holder stripes h fed =
    let self = c.args.self.now in
    let told = subst (FedBy (broken holder stripes) (Tells holder stripes h self.state) h self.fed) c.in-Some.is fed in
    verdict_on holder stripes h _ (verdict_by-some (broken holder stripes) h _ told)
