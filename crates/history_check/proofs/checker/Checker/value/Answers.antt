use Rattle.txn_trace.specs.Legal.{broken}
use Rattle.txn_trace.specs.Now.{now}
use Rattle.history_check.specs.States.{Tells}
use Rattle.history_check.proofs.FirstBad.{told_of}
use Rattle.history_check.proofs.Ends.{none_bad_in}
use Rattle.history_check.proofs.checker.Checker.value.Goals as goal

pub returns : goal.returns
returns c holder stripes h fed legal =
    let self = c.args.self.now in
    c.get.ensures (now h) (told_of (broken holder stripes) (Tells holder stripes h self.state) h self.fed self.bad (none_bad_in holder stripes h legal) fed).shows.values
