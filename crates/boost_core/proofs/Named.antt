-- The holder that a Busy entry names is one of the callers. So every entry of a core is small
-- (`is_small`).
use Rattle.std.proofs.Common.{◌≡◌, ℕ, ◌<◌, ◌≤◌, ◌==◌, ◌&&◌, Bool, true, false, not, List, [], ◌∷◌, ◌++◌, arith, eqb-true, append-nil, inl, inr, All}
use Rattle.boost_core.proofs.Vocabulary.{Entry, caller_of, is_began, false≢true, and_parts, or_cases, All-head, All-tail, Busy, Begun, has_begun, is_locked, IsLegal, legal_begun, holder_by}
use Rattle.txn_words.specs.Packed.{holder_in, is_small}
use Rattle.txn_words.proofs.Packing.{small_of}

wider : (words : Bool) (stripes : ℕ) (h : List Entry) → IsLegal (holder_by words) stripes h → IsLegal Begun stripes h
wider false stripes h legal = legal_begun stripes h legal
wider true stripes h legal = legal

-- If `c` has begun a transaction, `c` is the number of a caller.
begun_below : (callers c : ℕ) (h : List Entry) → All (λ e. caller_of e < callers) h → has_begun c h ≡ true → c < callers
begun_below callers c [] all is = absurd (false≢true is)
begun_below callers c (e ∷ h) all is = elim (or_cases (is_began e && caller_of e == c) (has_begun c h) is) [
  | inl here ↦
      omega (arith, eqb-true (caller_of e) c (and_parts (is_began e) (caller_of e == c) here).1, All-head (λ e. caller_of e < callers) e h all)
  | inr there ↦ begun_below callers c h (All-tail (λ e. caller_of e < callers) e h all) there
]

named_below : (stripes callers : ℕ) (h : List Entry) (e : Entry) → All (λ e. caller_of e < callers) h → is_locked Begun stripes h e ≡ true → caller_of e < callers → holder_in e < callers
named_below stripes callers h (Busy c op x) all locked below = begun_below callers x h all (and_parts (not (x == c)) (has_begun x h) locked).1
named_below stripes callers h _ all locked below = omega arith

-- Let a history be legal, let `e` be its last entry, and let there be at most 64 callers. Then `e`
-- is small (`is_small`): its caller and the holder that it names fit in 16 bits.
pub grown_small : (words : Bool) (stripes callers : ℕ) (h : List Entry) (e : Entry) → All (λ e. caller_of e < callers) h → IsLegal (holder_by words) stripes (h ++ e ∷ []) → caller_of e < callers → callers ≤ 64 → is_small e ≡ true
grown_small words stripes callers h e all legal below few =
    let locked : is_locked Begun stripes h e ≡ true = (wider words stripes (h ++ e ∷ []) legal).locks h e ([], append-nil (h ++ e ∷ [])) in
    let named = named_below stripes callers h e all locked below in
    small_of e (omega arith) (omega arith)
