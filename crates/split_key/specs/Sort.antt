-- The order of the nodes in the list. It is the order of their sort keys.
use Rattle.std.specs.Prelude.{ℕ, ◌≡◌, Bool, true, false, ◌==◌, ◌&&◌, nat_lt, if◌then◌else◌}
use Rattle.split_key.specs.declared.sort.SortKey.{SortKey}
use Rattle.split_key.specs.Split.{reversed, split}

-- True if the first sort key precedes the second. Sort keys are ordered by split key, and by key if
-- the split keys are equal.
unfoldable pub is_before : SortKey → SortKey → Bool
is_before a b = if a.split == b.split then nat_lt a.key b.key else nat_lt a.split b.split

-- The first sort key precedes the second.
abbrev pub IsBefore : SortKey → SortKey → Type 0
IsBefore a b = is_before a b ≡ true

-- The first sort key does not precede the second: it comes after the second, or they are equal.
abbrev pub IsNotBefore : SortKey → SortKey → Type 0
IsNotBefore a b = is_before a b ≡ false

-- Whether two sort keys are equal.
abbrev pub is_same : SortKey → SortKey → Bool
is_same a b = a.split == b.split && a.key == b.key

-- The sort key of the regular node with this key.
abbrev pub regular_at : ℕ → SortKey
regular_at key = record { split = split key; key = key }

-- The sort key of a bucket's dummy.
abbrev pub dummy_at : ℕ → SortKey
dummy_at bucket = record { split = reversed bucket; key = 0 }
