use Rattle.std.proofs.Common.{◌≡◌, length, take, drop, map}
use Rattle.boostmap_c.specs.Entries.{c_entry_of}
use Rattle.boostmap_c.proofs.history.lay.Given as goal

abbrev pub invariant-lays : goal.invariant-lays
invariant-lays l =
    (length l.entries ≡ length l.fn.entries) × (take l.i l.entries ≡ map c_entry_of (take l.i l.listed))
    × (drop l.i l.entries ≡ drop l.i l.fn.entries)
