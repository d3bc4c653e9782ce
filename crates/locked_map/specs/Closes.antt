-- PROMISES callers-in-threads: IsOwn
-- The result of closing a map.
use Rattle.std.specs.Prelude.{ℕ, ◌≡◌, ◌==◌, ◌<◌, List, length, IsTrue, All, Bool, true, false, codes}
use Rattle.locked_map.specs.Vocabulary.{Entry, Sizes, list_any, own}
use Rattle.locked_map.specs.Tokens.{Token, AreCounted}
use Rattle.locked_map.specs.declared.unclosed.Unclosed.{Unclosed}
use Rattle.locked_map.specs.declared.unclosed.Unclosed.TheVariants.{Missing, Differs}

-- A caller's entries in the history are exactly those that the caller saw.
abbrev pub IsOwn : {S : Type 0} → List Entry → Token S → Type 0
IsOwn h k = own k.number h ≡ k.seen

-- There is one caller with each number below `count`: there are `count` callers, and each number
-- occurs.
abbrev pub IsAllHere : {S : Type 0} → ℕ → List (Token S) → Type 0
IsAllHere count ks =
    (length ks ≡ count) × ((c : ℕ) → c < count → IsTrue (list_any (λ k. k.number == c) ks))

-- The callers that are returned if a map was not closed.
abbrev pub back_of : {L S J : Type 0} → Unclosed L S J → List (Token S)
back_of (Missing map callers) = callers.items
back_of (Differs core callers) = callers.items

-- The reason why a map was not closed. For `Missing`: a number is missing or was passed in twice.
-- For `Differs`: the core has other limits, or the entries of some caller in the history are not
-- those that the caller saw.
abbrev pub IsWhy : {L S J : Type 0} → Sizes → List (Token S) → Unclosed L S J → Type 0
IsWhy limits ks (Missing map callers) = IsAllHere limits.callers ks → ⊥
IsWhy limits ks (Differs core callers) =
    (core.limits ≡ limits) × All (λ k. IsOwn core.history k) ks → ⊥

-- What holds in addition to `IsWhy`. If the map is returned, it has these limits. If the core is
-- returned, no caller is missing.
abbrev pub IsBeside : {L S J : Type 0} → Sizes → List (Token S) → Unclosed L S J → Type 0
IsBeside limits ks (Missing map callers) = map.limits ≡ limits
IsBeside limits ks (Differs core callers) = IsAllHere limits.callers ks

-- If the core is returned, its history has as many entries as the callers saw.
abbrev pub IsCounted : {L S J : Type 0} → List (Token S) → Unclosed L S J → Type 0
IsCounted ks (Missing map callers) = Unit {0}
IsCounted ks (Differs core callers) = AreCounted core.history ks

-- The text of the reason why a map was not closed: a caller is missing, or the history differs.
abbrev pub text_of : Bool → List ℕ
text_of true = codes "a caller of the map is missing or was handed in twice"
text_of false = codes "the history of the map is not what its callers saw"

abbrev pub unclosed_text : {L S J : Type 0} → Unclosed L S J → List ℕ
unclosed_text (Missing map callers) = text_of true
unclosed_text (Differs core callers) = text_of false
