use Rattle.std.proofs.Common.{append_assoc}
use Rattle.txn_files.proofs.text.history_text.Goals as goal

pub returns : goal.returns
returns c =
    let whole = rw (c.in_ok-put_entries.ensures, c.in_ok-push_str.ensures.bytes, c.new-text.ensures.bytes) at c.in_ok-write.ensures.bytes in
    simp append_assoc whole
