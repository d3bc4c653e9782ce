-- The list of the stripes that a seat holds, and the words that name the holders of stripes.
use Rattle.std.specs.Prelude.{ℕ, ◌+◌, ◌==◌, cond, List, [], ◌∷◌}

-- How often a stripe occurs in a list.
abbrev pub times : ℕ → List ℕ → ℕ
times stripe [] = 0
times stripe (first ∷ rest) = cond (first == stripe) 1 0 + times stripe rest

-- The list without the first occurrence of the stripe.
abbrev pub removed : ℕ → List ℕ → List ℕ
removed stripe [] = []
removed stripe (first ∷ others) = cond (first == stripe) others (first ∷ removed stripe others)

-- 1 if the word names the seat with this number, else 0.
abbrev pub once_for : ℕ → ℕ → ℕ
once_for number word = cond (word == number + 1) 1 0
