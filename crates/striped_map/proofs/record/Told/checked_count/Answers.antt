use Rattle.std.proofs.Common.{◌∙◌}
use Rattle.striped_map.proofs.Recording.{length-back, length-abort, length-yield}
use Rattle.striped_map.proofs.record.Told.checked_count.Goals as goal

pub returns-in_ok-count-in-TellBack : goal.returns-in_ok-count-in-TellBack
returns-in_ok-count-in-TellBack c = let e = c.in_ok-count-in-TellBack.ensures in e.1 ∙ length-back c.args.self _ _ c.in-TellBack.is

pub returns-in_ok-count-in-TellAbort : goal.returns-in_ok-count-in-TellAbort
returns-in_ok-count-in-TellAbort c = let e = c.in_ok-count-in-TellAbort.ensures in e.1 ∙ length-abort c.args.self _ c.in-TellAbort.is

pub returns-in_ok-count-in-TellYield : goal.returns-in_ok-count-in-TellYield
returns-in_ok-count-in-TellYield c = let e = c.in_ok-count-in-TellYield.ensures in e.1 ∙ length-yield c.args.self _ _ _ c.in-TellYield.is
