use Rattle.std.proofs.Common.{sym, ◌∙◌}
use Rattle.txn_drive.specs.Drives.{turn_of}
use Rattle.txn_drive.proofs.DriveLaws.{turn_of_end}
use Rattle.txn_drive.proofs.drive.Drive.show.Goals as goal

pub returns-in-Some : goal.returns-in-Some
returns-in-Some c = turn_of_end (turn_of c.args.self) c.in-Some.«end» (sym c.«end».ensures ∙ c.in-Some.is)
