-- The entry with which the replies of a caller's transaction begin to contradict one another.
use Rattle.std.proofs.Common.{◌≡◌, ℕ, ◌+◌, ◌<◌, ◌≤◌, List, length, take, Option, Some, None, Bool, true, false, refl, subst, sym, arith, if◌then◌else◌}
use Rattle.std.specs.Option.{option_or}
use Rattle.std.proofs.Math.Logic.{⊎_elim}
use Rattle.std.proofs.Math.Nat.{eq-or-lt_of_le}
use Rattle.std.proofs.lemmas.List.{take_all}
use Rattle.txn_words.specs.declared.entry.Entry.{Entry}
use Rattle.bad_entry.specs.Commits.{IsTornIn, IsTornSince, IsWholeIn}

-- Like `IsTornSince`, but for the first `n` entries.
abbrev pub IsTornBefore : List Entry → ℕ → ℕ → Option ℕ → Type 0
IsTornBefore h c n None = IsWholeIn (take n h) c
IsTornBefore h c n (Some i) = (i < n) × IsWholeIn (take i h) c × ((m : ℕ) → i < m → m ≤ n → IsTornIn (take m h) c)

pub none_yet : (h : List Entry) (c : ℕ) → IsTornBefore h c 0 None
none_yet h c t in_t going = absurd (grind (arith, in_t))

one_more : (h : List Entry) (c n m : ℕ) → IsTornIn (take (n + 1) h) c → (m ≤ n → IsTornIn (take m h) c) → m ≤ n + 1 → IsTornIn (take m h) c
one_more h c n m last before up =
    ⊎_elim (λ same. subst (λ (k : ℕ). IsTornIn (take k h) c) (sym same) last) (λ (less : m < n + 1). before (omega arith)) (eq-or-lt_of_le up)

pub turn : (h : List Entry) (c n : ℕ) (torn : Bool) (since : Option ℕ) → IsTornBefore h c n since
    → (torn ≡ true → IsTornIn (take (n + 1) h) c) → (torn ≡ false → IsWholeIn (take (n + 1) h) c) → IsTornBefore h c (n + 1) (if torn then option_or since (Some n) else None)
turn h c n false since before is_torn is_whole = is_whole refl
turn h c n true None before is_torn is_whole =
    (omega arith, before, λ m above up. one_more h c n m (is_torn refl) (λ below. absurd (omega (arith, above, below))) up)
turn h c n true (Some i) before is_torn is_whole =
    (omega (arith, before.0), before.1, λ m above up. one_more h c n m (is_torn refl) (before.2 m above) up)

pub at_end : (h : List Entry) (c n : ℕ) (since : Option ℕ) → n ≤ length h → length h ≤ n → IsTornBefore h c n since → IsTornSince h c since
at_end h c n None few all is = subst (λ g. IsWholeIn g c) (take_all n h all) is
at_end h c n (Some i) few all is = (omega (arith, is.0), is.1, λ m above up. is.2 m above (omega arith))
