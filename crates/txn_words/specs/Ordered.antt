-- PROMISES each-change-has-an-inverse: ordered
-- The order in which a split-ordered table lists its keys.
use Rattle.std.specs.Prelude.{ℕ, List, []}
use Rattle.std.specs.FinMap.Entries.{put}
use Rattle.std.specs.Ordering.{nat_cmp, then_cmp}
use Rattle.std.specs.List.{fold}
use Rattle.std.specs.declared.cmp.Ordering.{Ordering}
use Rattle.split_key.specs.Split.{split}
use Rattle.txn_words.specs.Map.{Map}

-- Compares keys by their split keys and, if the split keys are equal, by the keys themselves. This
-- is the order of the sort keys.
abbrev pub split_cmp : ℕ → ℕ → Ordering
split_cmp = then_cmp (λ a b. nat_cmp (split a) (split b)) nat_cmp

-- The pairs of a map in the order of `split_cmp`, each pair once.
abbrev pub ordered : Map → List (ℕ × ℕ)
ordered m = fold (λ pairs pair. put split_cmp pair.0 pair.1 pairs) [] m.rows
