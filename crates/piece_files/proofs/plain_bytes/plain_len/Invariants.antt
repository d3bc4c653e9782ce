use Rattle.std.proofs.Common.{◌≡◌, ◌≤◌, ◌-◌, true, length, take}
use Rattle.std.specs.List.{All}
use Rattle.json.specs.Run.{is_plain}
use Rattle.piece_files.proofs.plain_bytes.plain_len.Given as goal

abbrev pub invariant-plain : goal.invariant-plain
invariant-plain l = (l.len ≤ length l.bytes) × All (λ byte. is_plain byte ≡ true) (take l.len l.bytes)

abbrev pub decreases-plain : goal.decreases-plain
decreases-plain l = length l.bytes - l.len
