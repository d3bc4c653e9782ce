use Rattle.txn_files.proofs.InRange.{file_in_range}
use Rattle.judge_engine.proofs.order.explain_order.Goals as goal

pub judge_entries-requires : goal.judge_entries-requires
judge_entries-requires c = rw c.as_slice-entries.ensures.value (file_in_range c.args.bytes.now _ c.in_ok-packed.ensures).1

pub text_or_graph-requires : goal.text_or_graph-requires
text_or_graph-requires c = rw c.as_slice-entries.ensures.value (file_in_range c.args.bytes.now _ c.in_ok-packed.ensures).1
