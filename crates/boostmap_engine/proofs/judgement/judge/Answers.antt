use Rattle.txn_files.proofs.InRange.{file_in_range}
use Rattle.boostmap_engine.proofs.judgement.judge.Goals as goal

pub check_packed-requires-clause-stripes : goal.check_packed-requires-clause-stripes
check_packed-requires-clause-stripes c = rw c.from.ensures (file_in_range c.args.bytes.items _ c.in_ok-stripes.ensures).0

pub check_packed-requires-clause-callers : goal.check_packed-requires-clause-callers
check_packed-requires-clause-callers c = rw c.deref.ensures.value (file_in_range c.args.bytes.items _ c.in_ok-stripes.ensures).1
