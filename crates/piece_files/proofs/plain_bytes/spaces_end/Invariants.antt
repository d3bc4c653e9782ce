use Rattle.std.proofs.Common.{◌≤◌, ◌-◌, length, drop}
use Rattle.piece_files.specs.PlainBytes.{PassesSpace}
use Rattle.piece_files.proofs.plain_bytes.spaces_end.Given as goal

abbrev pub invariant-spaces : goal.invariant-spaces
invariant-spaces l = (l.start ≤ l.at) × (l.at ≤ length l.bytes) × PassesSpace (drop l.start l.bytes) (drop l.at l.bytes)

abbrev pub decreases-spaces : goal.decreases-spaces
decreases-spaces l = length l.bytes - l.at
