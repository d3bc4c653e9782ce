-- The keys that a map's limits accept, and the keys that they refuse.
use Rattle.std.specs.Prelude.{ℕ, ◌≡◌, Bool, true, not, ◌&&◌, List, [], ◌∷◌, None}
use Rattle.txn_words.specs.declared.entry.Entry.{Entry}
use Rattle.txn_words.specs.declared.entry.Entry.TheVariants.{Asked}
use Rattle.txn_words.specs.Map.{Map, key_of, get}
use Rattle.txn_words.specs.Sizes.{is_bad_key}

-- Returns false exactly if the entry asks for a refused key. If `half` is true, the keys from 2^63
-- on are refused. If not, no key is refused.
abbrev pub is_well : Bool → Entry → Bool
is_well half (Asked c op) = not (is_bad_key half (key_of op))
is_well half e = true

-- True if no entry of the history asks for a refused key.
abbrev pub asks_well : Bool → List Entry → Bool
asks_well half [] = true
asks_well half (e ∷ es) = is_well half e && asks_well half es

-- The map has no key that is refused.
abbrev pub HasTakenKeys : Bool → Map → Type 0
HasTakenKeys half m = (k : ℕ) → is_bad_key half k ≡ true → get m k ≡ None
