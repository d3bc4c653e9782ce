use Rattle.std.proofs.Common.{◌≡◌, ◌≤◌, ◌<◌, Some, length, take, map, vec_len, vec_capacity}
use Rattle.std.specs.List.{All}
use Rattle.txn_words.specs.Kinds.{caller_of}
use Rattle.boostmap_c.specs.Entries.{judged_entry}
use Rattle.boostmap_c.proofs.any_order.read_history.Given as goal

abbrev pub invariant-reads : goal.invariant-reads
invariant-reads l =
    (map Some l.history.items ≡ map judged_entry (take l.i l.entries)) × (vec_len l.history ≡ l.i)
    × (length l.entries ≤ vec_capacity l.history)
    × All (λ entry. caller_of entry < 64) l.history.items
