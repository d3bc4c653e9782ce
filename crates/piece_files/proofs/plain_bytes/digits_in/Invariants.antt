use Rattle.std.proofs.Common.{◌≡◌, ◌≤◌, ◌-◌, length, take}
use Rattle.std.specs.Str.Parse.{AllDigits, digits_value}
use Rattle.piece_files.proofs.plain_bytes.digits_in.Given as goal

abbrev pub invariant-digits : goal.invariant-digits
invariant-digits l =
    (l.len ≤ length l.bytes) × (l.len ≤ 19) × AllDigits 10 (take l.len l.bytes) × (l.number ≡ digits_value 10 (take l.len l.bytes))

abbrev pub decreases-digits : goal.decreases-digits
decreases-digits l = length l.bytes - l.len
