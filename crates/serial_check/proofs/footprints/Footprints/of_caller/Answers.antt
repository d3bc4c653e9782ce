use Rattle.serial_check.proofs.Growth.{foot_at}
use Rattle.serial_check.proofs.footprints.Footprints.of_caller.Goals as goal

pub returns : goal.returns
returns c h have = foot_at h c.args.self.now c.args.caller c.index.result.now have c.requires c.index.ensures
