use Rattle.std.proofs.Common.{◌≡◌, take}
use Rattle.std.specs.Str.Parse.{AllDigits, digits_value}
use Rattle.piece_files.proofs.numeral.few_digits_in.Given as goal

abbrev pub invariant-loop-byte : goal.invariant-loop-byte
invariant-loop-byte l =
    AllDigits 10 (take l.byte-index l.bytes) × (l.number ≡ digits_value 10 (take l.byte-index l.bytes))
