use Rattle.key_locks.proofs.ChainLemmas.{AreChained-new}
use Rattle.key_locks.proofs.key_locks.KeyLocks.new.Goals as goal

pub invariant_of-result : goal.invariant_of-result
invariant_of-result c = AreChained-new c.args.stripes _ _ _ c.in_ok-holders.ensures c.in_ok-older.ensures c.in_ok-newest.ensures
