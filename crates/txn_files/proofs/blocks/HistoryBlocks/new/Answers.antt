use Rattle.txn_files.proofs.Joined.{whole_line}
use Rattle.txn_files.proofs.blocks.HistoryBlocks.new.Goals as goal

pub returns : goal.returns
returns c = whole_line c.args.version c.args.stripes c.args.entries.now
