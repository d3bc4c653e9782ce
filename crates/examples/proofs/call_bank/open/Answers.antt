use Rattle.owned_map.proofs.Calls.{keeps_on}
use Rattle.examples.proofs.call_bank.open.Goals as goal

pub returns-in_err-put-2 : goal.returns-in_err-put-2
returns-in_err-put-2 c = keeps_on _ _ _ c.put.ensures.keeps c.put-2.ensures.keeps

pub returns : goal.returns
returns c = keeps_on _ _ _ c.put.ensures.keeps c.put-2.ensures.keeps
