use Rattle.serial_check.proofs.FootprintSteps.{torn_on_all, whole_txn}
use Rattle.serial_check.proofs.commits.Commits.is_torn.Goals as goal

pub returns-clause-torn : goal.returns-clause-torn
returns-clause-torn c torn h t keeps in_t going =
    let self = c.args.self.now in
    let foot = c.of_caller-footprint.result.now in
    torn_on_all h self keeps c.args.caller t foot (c.of_caller-footprint.ensures h keeps.footprints) in_t going torn

pub returns-clause-whole : goal.returns-clause-whole
returns-clause-whole c whole h t keeps in_t going =
    let self = c.args.self.now in
    let foot = c.of_caller-footprint.result.now in
    whole_txn h self keeps c.args.caller t foot (c.of_caller-footprint.ensures h keeps.footprints) in_t going whole
