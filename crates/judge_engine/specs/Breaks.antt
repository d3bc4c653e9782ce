-- Line feeds.
use Rattle.std.specs.Prelude.{◌≡◌, ℕ, ◌==◌, Bool, false, List}
use Rattle.std.specs.List.{All}

-- Whether a byte is a line feed.
abbrev pub is_break : ℕ → Bool
is_break byte = byte == 10

-- No byte is a line feed.
abbrev pub IsUnbroken : List ℕ → Type 0
IsUnbroken bytes = All (λ byte. is_break byte ≡ false) bytes
