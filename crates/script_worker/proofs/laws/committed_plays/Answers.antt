use Rattle.script_worker.proofs.Numbering.{commit_plays}
use Rattle.script_worker.proofs.laws.committed_plays.Goals as goal

pub returns : goal.returns
returns c caller place entry script h shape commits = commit_plays caller place entry script h shape commits
