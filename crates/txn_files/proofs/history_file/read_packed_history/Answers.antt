use Rattle.std.proofs.Common.{sym}
use Rattle.txn_files.proofs.KeptEntries.{same_history}
use Rattle.txn_files.proofs.history_file.read_packed_history.Goals as goal

pub returns : goal.returns
returns c = rw (sym (same_history c.args.bytes.now)) c.kept_history.ensures
