-- The meaning of bytes in plain form. It is given by the tokens that the JSON reader makes from the
-- bytes.
use Rattle.std.specs.Prelude.{◌≡◌, ℕ, ◌≤◌, true, false, List, [], ◌∷◌, ◌++◌, length, Some, None}
use Rattle.json.specs.Token.{Token, begin_array, begin_object, end_array, end_object, key}
use Rattle.json.specs.Json.{after_end_array, items, members, value}
use Rattle.json.specs.Word.{ends_word}
use Rattle.json.specs.Lex.{Place, token, fresh, after_value, after_comma, begins_colon, between, lex, may_begin, punctuate}
use Rattle.serde_json.specs.Data.{Data, Members, object}
use Rattle.serde_json.specs.Read.{converted, of_items, of_members, read}
use Rattle.piece_files.specs.Tokens.{items_from, value_at}

-- The tokens of the bytes. `place` says what is before the bytes: a value, a comma, a key, or none
-- of these (`fresh`).
abbrev pub tokens_at : Place → List ℕ → List Token
tokens_at place bytes = punctuate place (lex between bytes)

-- ---- the bytes between values

-- The bytes are white space, followed by the bytes `rest`.
pub record PassesSpace (bytes rest : List ℕ) : Type 0 where
  pub same : lex between bytes ≡ lex between rest
  pub ended : ends_word rest ≡ true → ends_word bytes ≡ true

-- The bytes may follow a value. They do not continue the value's word, and they do not begin with a
-- colon, which would make the value a key.
pub record EndsValue (bytes : List ℕ) : Type 0 where
  pub ended : ends_word bytes ≡ true
  pub no_colon : begins_colon (lex between bytes) ≡ false

-- These bytes follow a value. They are a comma, followed by the bytes `rest`.
pub record Comma (bytes rest : List ℕ) : Type 0 where
  pub ends : EndsValue bytes
  pub left : tokens_at after_value bytes ≡ tokens_at after_comma rest

-- These bytes follow a value. They are the bracket that closes an array, followed by the bytes
-- `rest`.
pub record Closes (bytes rest : List ℕ) : Type 0 where
  pub ends : EndsValue bytes
  pub left : tokens_at after_value bytes ≡ end_array ∷ tokens_at after_value rest

-- These bytes follow a value. They are the brace that closes an object, and nothing follows the
-- brace.
pub record Finishes (bytes : List ℕ) : Type 0 where
  pub ends : EndsValue bytes
  pub left : tokens_at after_value bytes ≡ end_object ∷ []

-- The bytes are the opening bracket of an array, followed by the bytes `rest`.
abbrev pub OpensArray : List ℕ → List ℕ → Type 0
OpensArray bytes rest = lex between bytes ≡ token begin_array ∷ lex between rest

-- The bytes are the opening brace of an object, followed by the bytes `rest`.
abbrev pub OpensObject : List ℕ → List ℕ → Type 0
OpensObject bytes rest = lex between bytes ≡ token begin_object ∷ lex between rest

-- ---- values and keys

-- The bytes are the value `d`, followed by the bytes `rest`. This is claimed only if a value may
-- begin at these bytes, and if `rest` may follow a value.
abbrev pub IsValue : ℕ → List ℕ → Data → List ℕ → Type 0
IsValue depth bytes d rest =
    EndsValue rest → (place : Place) → may_begin place ≡ true
    → (value_at depth (tokens_at place bytes) ≡ Some (d, tokens_at after_value rest))
    × (after_end_array (tokens_at place bytes) ≡ None)

-- The bytes are the key `name`, followed by the bytes `rest`. This is claimed only if a key may
-- begin at these bytes. A value may begin at `rest`.
abbrev pub IsKey : List ℕ → List ℕ → List ℕ → Type 0
IsKey bytes name rest =
    (place : Place) → may_begin place ≡ true
    → tokens_at place bytes ≡ key name ∷ tokens_at fresh rest

-- ---- elements and members

-- The tokens are the remaining elements of an array, its closing bracket, and then the tokens
-- `others`.
abbrev pub AreLeft : ℕ → List Token → List Data → List Token → Type 0
AreLeft depth ts ds others =
    (n : ℕ) → length ts ≤ n
    → converted of_items (items (value depth) n ts) ≡ Some (items_from ds, others)

-- If an element may begin at these bytes, the bytes are the elements `ds`, which are the rest of an
-- array. The tokens after the array are `others`.
abbrev pub Begin : ℕ → List ℕ → List Data → List Token → Type 0
Begin depth bytes ds others =
    (place : Place) → may_begin place ≡ true → AreLeft depth (tokens_at place bytes) ds others

-- These bytes follow an element of an array. They are the elements `ds`, which are the rest of the
-- array. The tokens after the array are `others`.
pub record Follow (depth : ℕ) (bytes : List ℕ) (ds : List Data) (others : List Token) : Type 0 where
  pub ends : EndsValue bytes
  pub left : AreLeft depth (tokens_at after_value bytes) ds others

-- The bytes `start` are the elements `ds`, followed by the elements in the bytes `rest`.
abbrev pub AreTaken : ℕ → List ℕ → List Data → List ℕ → Type 0
AreTaken depth start ds rest =
    (es : List Data) (others : List Token)
    → Begin depth rest es others → Begin depth start (ds ++ es) others

-- The tokens are the remaining members of an object, and nothing follows the object. If these
-- members are added to the members `old`, the result is `all`.
abbrev pub AreMembers : List Token → Members → Members → Type 0
AreMembers ts old all =
    (n : ℕ) → length ts ≤ n
    → converted (λ ms. of_members ms old) (members (value 126) n ts) ≡ Some (all, [])

-- The text is an object with the members `old`, followed by the members in the bytes `rest`.
abbrev pub AreMembersTaken : List ℕ → Members → List ℕ → Type 0
AreMembersTaken text old rest =
    (all : Members)
    → ((place : Place) → may_begin place ≡ true → AreMembers (tokens_at place rest) old all)
    → read text ≡ Some (object all)
