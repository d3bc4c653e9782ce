use Rattle.std.proofs.Common.{append_assoc}
use Rattle.txn_files.proofs.Joined.{join_with_byte_cons}
use Rattle.txn_files.specs.HistoryText.{comma, entry_text}
use Rattle.txn_files.proofs.text.put_entries.Goals as goal

pub returns : goal.returns
returns c =
    let so_far = rw (c.in_ok-push_str.ensures.bytes, c.text.ensures, c.set_entry.ensures.text, append_assoc) at c.put_further_entries.ensures in
    rw (c.in-Some.ensures.cases.0, join_with_byte_cons comma entry_text c.in-Some.first.now c.in-Some.rest.now) so_far
