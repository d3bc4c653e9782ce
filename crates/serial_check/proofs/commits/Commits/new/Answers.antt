use Rattle.serial_check.proofs.Starts.{keeps-none}
use Rattle.serial_check.proofs.commits.Commits.new.Goals as goal

pub returns : goal.returns
returns c = keeps-none _ c.new.ensures.empty c.in_ok-new.ensures
