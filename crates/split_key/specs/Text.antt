-- The texts of errors.
use Rattle.std.specs.Prelude.{ℕ, List, codes}

-- The text of a `BadKey`.
abbrev pub bad_key_text : List ℕ
bad_key_text = codes "a key is a number below 2^63"
