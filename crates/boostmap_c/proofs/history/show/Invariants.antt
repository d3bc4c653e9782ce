use Rattle.std.proofs.Common.{◌≡◌, length, take, drop, map}
use Rattle.boostmap_c.specs.Entries.{c_entry_of}
use Rattle.boostmap_c.proofs.history.show.Given as goal

abbrev pub invariant-shows : goal.invariant-shows
invariant-shows l =
    (length l.entries ≡ length l.fn.entries) × (take l.i l.entries ≡ map c_entry_of (take l.i l.history))
    × (drop l.i l.entries ≡ drop l.i l.fn.entries)
