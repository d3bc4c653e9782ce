use Rattle.std.proofs.Common.{ap, ◌∙◌}
use Rattle.txn_drive.specs.Made.{made_in}
use Rattle.txn_drive.proofs.MadeLemmas.{made-told_of}
use Rattle.txn_drive.proofs.drive.Drive.told.Goals as goal

pub returns-clause-made : goal.returns-clause-made
returns-clause-made c = λ step is. ap (λ phase. made_in c.args.self.now.caller c.args.self.now.call phase) c.told.ensures ∙ made-told_of c.args.self.now step c.args.answer is
