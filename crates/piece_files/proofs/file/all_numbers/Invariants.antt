use Rattle.std.proofs.Common.{◌≡◌, take, length, Some}
use Rattle.piece_files.specs.Files.{all_of}
use Rattle.piece_files.proofs.file.all_numbers.Given as goal

abbrev pub invariant-numbers : goal.invariant-numbers
invariant-numbers g l = (length l.numbers ≡ g.row.N) × (all_of (take l.i l.found) ≡ Some (take l.i l.numbers))
