-- The positions to which bits move when groups of bits are swapped.
use Rattle.std.specs.Prelude.{ℕ, ◌+◌, ◌-◌, ◌/◌, ◌%◌, ◌==◌, if◌then◌else◌}

-- The position that a bit gets when neighbouring groups of `width` bits are swapped.
abbrev pub swapped_place : ℕ → ℕ → ℕ
swapped_place width place = (if place / width % 2 == 0 then place + width else place - width)
