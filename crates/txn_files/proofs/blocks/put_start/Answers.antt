use Rattle.std.proofs.Common.{refl}
use Rattle.txn_files.proofs.Joined.{join_with_byte_cons}
use Rattle.txn_files.specs.HistoryText.{comma, entry_text}
use Rattle.txn_files.proofs.blocks.put_start.Goals as goal

pub returns : goal.returns
returns c =
    let whole = rw (c.text.ensures, c.set_entry.ensures.text, c.entry.ensures, c.put.ensures, c.requires) at c.put-2.ensures in
    rw (c.in-Some.ensures.cases.0, join_with_byte_cons comma entry_text c.in-Some.first.now c.in-Some.rest.now, whole) refl
