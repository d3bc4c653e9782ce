-- How many bytes of a file are read.
use Rattle.std.specs.Prelude.{◌≡◌, ℕ, ◌+◌, List, take, Option, IfSome}
use Rattle.piece_files.specs.Json.{max_bytes}

-- The greatest number of bytes that are read from a file. This is one byte more than a file may
-- have, so a reader finds that a file is too long without reading all of it.
abbrev pub max_read : ℕ
max_read = max_bytes + 1

-- `bytes` are the first `max_read` of the bytes that the reader still had, or all of them if there
-- are fewer.
abbrev pub IsRead : Option (List ℕ) → List ℕ → Type 0
IsRead remaining bytes = IfSome remaining (λ all. bytes ≡ take max_read all)
