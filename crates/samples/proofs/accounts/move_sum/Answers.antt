use Rattle.std.proofs.Common.{rules}
use Rattle.samples.proofs.Adding.{moved, not_moved}
use Rattle.samples.proofs.accounts.move_sum.Goals as goal

pub returns-in_default-clause-ok : goal.returns-in_default-clause-ok
returns-in_default-clause-ok c = not_moved _ _ _ _ _ _ _ _ (search rules) c.in_ok-get.ensures.does.ok c.in_ok-get-2.ensures.does.ok

pub returns-in_default-checked_add-clause-ok : goal.returns-in_default-checked_add-clause-ok
returns-in_default-checked_add-clause-ok c = not_moved _ _ _ _ _ _ _ _ (search rules) c.in_ok-get.ensures.does.ok c.in_ok-get-2.ensures.does.ok

pub returns-clause-ok : goal.returns-clause-ok
returns-clause-ok c = moved _ _ _ _ _ _ _ _ _ _ _ _ _ _ (search rules) (search rules) c.in_ok-get.ensures.does.ok c.in_ok-get-2.ensures.does.ok c.in_ok-put.ensures.does.ok c.in_ok-put-2.ensures.does.ok
