use Rattle.history_check.proofs.values.Values.restore.Goals as goal

pub returns-in-None-clause-ok : goal.returns-in-None-clause-ok
returns-in-None-clause-ok c m has = rw c.in-None.is (c.remove.ensures m has)
