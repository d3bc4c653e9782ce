use Rattle.std.proofs.Common.{◌≡◌, length, take, drop, map}
use Rattle.boostmap_c.specs.Contents.{c_pair_of}
use Rattle.boostmap_c.proofs.read.lay.Given as goal

abbrev pub invariant-lays : goal.invariant-lays
invariant-lays l =
    (length l.pairs ≡ length l.fn.pairs) × (take l.i l.pairs ≡ map c_pair_of (take l.i l.listed))
    × (drop l.i l.pairs ≡ drop l.i l.fn.pairs)
