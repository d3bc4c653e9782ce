use Rattle.std.proofs.Common.{map, sym, ap, ◌∙◌}
use Rattle.serde_json.specs.Data.{array}
use Rattle.piece_files.specs.Plain.{data_of}
use Rattle.piece_files.specs.Tokens.{items_from}
use Rattle.piece_files.proofs.ItemLists.{list_of-items_from}
use Rattle.txn_files.specs.Entries.{entry_of}
use Rattle.txn_files.proofs.entry_line.entry_in_plain.Goals as goal

pub returns-then-whole_array : goal.returns-then-whole_array
returns-then-whole_array c =
    let ds = map data_of c.whole_array.new.elements.items in
    (array (items_from ds), c.whole_array.ensures c.if-whole_array.true, c.entry_in.ensures ∙ ap (λ es. entry_of (map data_of es)) c.deref.ensures.0 ∙ ap entry_of (sym (list_of-items_from ds)))
