-- The text of the error for a cursor that does not fit.
use Rattle.std.specs.Prelude.{ℕ, List, codes}

-- The text of `Again`.
abbrev pub again_text : List ℕ
again_text = codes "the list is not as the cursor noted it"
