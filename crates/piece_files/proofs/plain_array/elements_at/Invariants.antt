use Rattle.std.proofs.Common.{ℕ, ◌≤◌, ◌-◌, length, drop, map}
use Rattle.piece_files.specs.Plain.{data_of}
use Rattle.piece_files.specs.PlainBytes.{AreTaken}
use Rattle.piece_files.proofs.plain_array.elements_at.Given as goal

abbrev pub invariant-elements : goal.invariant-elements
invariant-elements g l =
    (l.start ≤ l.at) × (l.at ≤ length l.text)
    × ((depth : ℕ) → AreTaken depth (drop l.start l.text) (map data_of l.elements.items) (drop l.at l.text))

abbrev pub decreases-elements : goal.decreases-elements
decreases-elements g l = length l.text - l.at
