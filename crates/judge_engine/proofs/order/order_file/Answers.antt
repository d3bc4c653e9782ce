use Rattle.txn_files.proofs.InRange.{file_in_range}
use Rattle.judge_engine.proofs.order.order_file.Goals as goal

pub judge_packed-requires : goal.judge_packed-requires
judge_packed-requires c = (file_in_range c.args.bytes.items _ c.in_ok-packed.ensures).1
