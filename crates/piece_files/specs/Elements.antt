-- Functions that read the elements of a JSON array, one after the other.
use Rattle.std.specs.Prelude.{ℕ, List, [], ◌∷◌, length, ◌==◌, Option, Some, None, option_map, option_and_then, is_some, ⊤, if◌then◌else◌}
use Rattle.serde_json.specs.Data.{Data, Items, no_items, item}
use Rattle.serde_json.specs.Find.{as_null, as_number, as_str, as_array, as_u64}

-- Applies the function to the value in an option, if there is one.
infixl 10 ◌>>=◌
abbrev pub ◌>>=◌ : {A B : Type 0} → Option A → (A → Option B) → Option B
(Some x) >>= f = f x
None >>= f = None

-- The value, if it is a whole number below 2^64 with no sign, fraction or exponent. The values 2.0,
-- 1e2, -0 and 2^64 are floats, so the result for them is `None`.
abbrev pub whole_number : Data → Option ℕ
whole_number d = option_and_then as_u64 (as_number d)

-- The items of an array, as a list.
abbrev pub list_of : Items → List Data
list_of no_items = []
list_of (item d ds) = d ∷ list_of ds

-- The elements of an array.
abbrev pub elements_of : Data → Option (List Data)
elements_of d = option_map list_of (as_array d)

-- If the first element is a number, the result is this number and the elements after it.
unfoldable pub number_at : List Data → Option (ℕ × List Data)
number_at [] = None
number_at (d ∷ ds) = option_map (λ n. (n, ds)) (whole_number d)

-- If the first element is a text, the result is this text and the elements after it.
unfoldable pub leading_text : List Data → Option (List ℕ × List Data)
leading_text [] = None
leading_text (d ∷ ds) = option_map (λ s. (s, ds)) (as_str d)

-- If the list has exactly one element, and this element is a number, the result is this number.
unfoldable pub one_of : List Data → Option ℕ
one_of ds = do
  n ← number_at ds
  if length n.1 == 0 then Some n.0 else None

-- Returns `Some` exactly if the list is empty.
unfoldable pub ends_here : List Data → Option ⊤
ends_here ds = if length ds == 0 then Some tt else None

-- Reads a value that is null or a number. Null is read as `None`, and a number as itself.
abbrev pub optional : Data → Option (Option ℕ)
optional d = if is_some (as_null d) then Some None else option_map (λ n. Some n) (whole_number d)

-- If the first element is null or a number, the result is this element, as `optional` reads it, and
-- the elements after it.
unfoldable pub optional_at : List Data → Option (Option ℕ × List Data)
optional_at [] = None
optional_at (d ∷ ds) = option_map (λ r. (r, ds)) (optional d)

-- If the list has exactly one element, and this element is null or a number, the result is the
-- element as `optional` reads it.
unfoldable pub optional_of : List Data → Option (Option ℕ)
optional_of ds = do
  r ← optional_at ds
  if length r.1 == 0 then Some r.0 else None

-- If the list consists of exactly two numbers, the result is these two numbers.
unfoldable pub two_of : List Data → Option (ℕ × ℕ)
two_of ds = do
  m ← number_at ds
  n ← one_of m.1
  Some (m.0, n)
