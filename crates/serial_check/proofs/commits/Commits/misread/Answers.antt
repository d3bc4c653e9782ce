use Rattle.std.proofs.Common.{refl, ◌∙◌}
use Rattle.serial_check.proofs.FootprintSteps.{torn_txn, fitting_txn, misread_is}
use Rattle.serial_check.proofs.commits.Commits.misread.Goals as goal

pub returns-then-footprint-clause-none : goal.returns-then-footprint-clause-none
returns-then-footprint-clause-none c none h t keeps in_t going =
    let self = c.args.self.now in
    let foot = c.of_caller-footprint.result.now in
    torn_txn h self keeps c.args.caller t foot (c.of_caller-footprint.ensures h keeps.footprints) in_t going c.if-footprint.true

pub returns-in_err-key-clause-none : goal.returns-in_err-key-clause-none
returns-in_err-key-clause-none c none h t keeps in_t going =
    let self = c.args.self.now in
    let foot = c.of_caller-footprint.result.now in
    fitting_txn h self keeps c.args.caller t foot (c.of_caller-footprint.ensures h keeps.footprints) in_t going c.if-footprint.false (c.in_err-key.ensures.none refl)

pub returns-clause-some : goal.returns-clause-some
returns-clause-some c h t keeps in_t going =
    let self = c.args.self.now in
    let foot = c.of_caller-footprint.result.now in
    misread_is h self keeps c.args.caller t foot (c.of_caller-footprint.ensures h keeps.footprints) in_t going c.if-footprint.false _ _ _ c.in_ok-key.ensures.some (c.copied-due.ensures ∙ c.get.ensures.value)
