use Rattle.txn_files.proofs.InRange.{file_in_range}
use Rattle.judge_engine.proofs.Known.{has_stripes}
use Rattle.judge_engine.proofs.file.explain_file.Goals as goal

pub verdict_by-requires-clause-stripes : goal.verdict_by-requires-clause-stripes
verdict_by-requires-clause-stripes c = rw c.basis_of-basis.ensures (has_stripes c.args.by_commits _ _ (file_in_range c.args.bytes.now _ c.in_ok-stripes.ensures).0)

pub verdict_by-requires-clause-callers : goal.verdict_by-requires-clause-callers
verdict_by-requires-clause-callers c = rw c.as_slice-entries.ensures.value (file_in_range c.args.bytes.now _ c.in_ok-stripes.ensures).1

pub lines_of-requires-clause-stripes : goal.lines_of-requires-clause-stripes
lines_of-requires-clause-stripes c = rw c.basis_of-basis.ensures (has_stripes c.args.by_commits _ _ (file_in_range c.args.bytes.now _ c.in_ok-stripes.ensures).0)

pub lines_of-requires-clause-callers : goal.lines_of-requires-clause-callers
lines_of-requires-clause-callers c = rw c.as_slice-entries.ensures.value (file_in_range c.args.bytes.now _ c.in_ok-stripes.ensures).1
