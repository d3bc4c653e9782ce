use Rattle.std.proofs.Common.{arith}
use Rattle.striped_map.proofs.Recording.{length-back, length-abort, length-yield}
use Rattle.striped_map.proofs.record.Told.count.Goals as goal

pub overflow_add-result : goal.overflow_add-result
overflow_add-result c = let few = c.requires.few in let l = length-back c.args.self _ _ c.in-TellBack.is in omega arith

pub overflow_add-result-in-TellAbort : goal.overflow_add-result-in-TellAbort
overflow_add-result-in-TellAbort c = let few = c.requires.few in let l = length-abort c.args.self _ c.in-TellAbort.is in omega arith

pub overflow_add-result-in-TellYield : goal.overflow_add-result-in-TellYield
overflow_add-result-in-TellYield c = let few = c.requires.few in let l = length-yield c.args.self _ _ _ c.in-TellYield.is in omega arith

pub returns-in-TellBack : goal.returns-in-TellBack
returns-in-TellBack c = length-back c.args.self _ _ c.in-TellBack.is

pub returns-in-TellAbort : goal.returns-in-TellAbort
returns-in-TellAbort c = length-abort c.args.self _ c.in-TellAbort.is

pub returns-in-TellYield : goal.returns-in-TellYield
returns-in-TellYield c = length-yield c.args.self _ _ _ c.in-TellYield.is
