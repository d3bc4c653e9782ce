use Rattle.txn_drive.proofs.MadeLemmas.{ended-turn_of}
use Rattle.txn_drive.proofs.drive.Drive.turn.Goals as goal

pub returns-clause-ended : goal.returns-clause-ended
returns-clause-ended c = ended-turn_of c.match-self.self c.show.result c.show.ensures
