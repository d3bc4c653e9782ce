use Rattle.script_worker.proofs.Played.{all_counted}
use Rattle.script_worker.proofs.laws.commits_are_counted.Goals as goal

pub returns : goal.returns
returns c callers scripts h outcomes shape plays are caller below = all_counted callers scripts h outcomes shape plays are caller below
