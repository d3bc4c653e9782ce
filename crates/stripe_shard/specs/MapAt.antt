-- A contract sees two things of a map: its content, and the number of new keys for which it has
-- room.
use Rattle.std.specs.Prelude.{◌≡◌, ℕ, List, [], ◌∷◌, refl}
use Rattle.std.proofs.Common.{ap}
use Rattle.std.specs.Coded.{Coded, code_by, coded×, coded_list, coded_ℕ}
use Rattle.std.specs.FinMap.Entries.{find}
use Rattle.std.specs.Ordering.{nat_cmp}
use base.Stored.{coded_via}
use Rattle.txn_words.specs.Map.{Map, empty, insert}
use Rattle.txn_words.proofs.Maps.{same_map}

-- The content of a map, and how many new keys can be put without taking memory.
pub record MapAt : Type 0 where
  pub content : Map
  pub spare : ℕ

-- A map with no key and no room.
abbrev pub nothing : MapAt
nothing = record { content = empty; spare = 0 }

-- If two maps have the same pairs, they are equal.
pub same_rows : (m n : Map) → m.rows ≡ n.rows → m ≡ n
same_rows m n rows = same_map m n (λ k. ap (find nat_cmp k) rows)

-- Encodes a finite map as the list of its pairs, and a `MapAt` as the pair of its fields.
abbrev pub content_code : Coded Map
content_code = coded_via (coded_list (coded× coded_ℕ coded_ℕ)) (λ m. m.rows) same_rows

abbrev pub map_code : Coded MapAt
map_code = code_by (Map × ℕ) (coded× content_code coded_ℕ) (λ p. (p.content, p.spare))
    (λ t. record { content = t.0; spare = t.1 }) (λ _. refl)

-- The map that has these pairs. If a key is in several pairs, the first of them counts.
abbrev pub map_of : List (ℕ × ℕ) → Map
map_of [] = empty
map_of (pair ∷ pairs) = insert (map_of pairs) pair.0 pair.1
