use Rattle.std.proofs.Common.{sym, subst}
use Rattle.std.specs.Prelude.{Option, IfSome}
use Rattle.txn_drive.specs.declared.«end».End.{End}
use Rattle.txn_drive.specs.Made.{made, IsMade}
use Rattle.txn_drive.proofs.DriveLaws.{made_if_ended}
use Rattle.txn_drive.proofs.drive.Drive.ended.Goals as goal

pub returns-clause-made : goal.returns-clause-made
returns-clause-made c =
    subst (λ (outcome : Option End). IfSome outcome (λ o. IsMade c.args.self.caller c.args.self.call o (made c.args.self))) (sym c.«end».ensures)
    (made_if_ended c.args.self)
