-- Lemmas about the index, which has the place of each held stripe. They say which places it has
-- after stripes are taken or given back.
use Rattle.std.proofs.Common.{◌≡◌, ◌≢◌, ℕ, zero, suc, ◌<◌, ◌≤◌, true, false, ◌||◌, List, [], ◌∷◌, ◌++◌, length, set, None, Some, slice_get, sym, refl, ◌∙◌, ap, ⊎_elim, arith, ne_eqb}
use mathlib.Core.Logic.{dite}
use native.Mathlib.Decide.{ℕ_discrete}
use Rattle.std.specs.List.{AllByRecursion, IsDistinct, list_any}
use Rattle.std.proofs.Math.Dec.{eqb}
use Rattle.std.proofs.lemmas.Bool.{false≢true}
use Rattle.std.proofs.lemmas.Map.Steps.{length-le_from_distinct_below}
use Rattle.std.proofs.lemmas.Option.{none-some, same_Some}
use Rattle.striped_map.specs.Sound.{IsIndexed}
use Rattle.striped_map.proofs.Hands.{push_at}

-- If a list is made longer at its end, each of its elements keeps its place.
pub appended_at : (xs ys : List ℕ) (i a : ℕ) → slice_get xs i ≡ Some a → slice_get (xs ++ ys) i ≡ Some a
appended_at [] ys i a e = absurd (none-some a e)
appended_at (x ∷ xs) ys zero a e = e
appended_at (x ∷ xs) ys (suc i) a e = appended_at xs ys i a e

set_here : (xs : List ℕ) (i a : ℕ) → i < length xs → slice_get (set xs i a) i ≡ Some a
set_here [] i a lt = absurd (omega arith)
set_here (x ∷ xs) zero a lt = refl
set_here (x ∷ xs) (suc i) a lt = set_here xs i a (omega arith)

set_away : (xs : List ℕ) (i j a b : ℕ) → j ≢ i → slice_get xs j ≡ Some b → slice_get (set xs i a) j ≡ Some b
set_away [] i j a b ne e = e
set_away (x ∷ xs) zero zero a b ne e = absurd (ne refl)
set_away (x ∷ xs) zero (suc j) a b ne e = e
set_away (x ∷ xs) (suc i) zero a b ne e = e
set_away (x ∷ xs) (suc i) (suc j) a b ne e = set_away xs i j a b (λ same. ne (ap suc same)) e

-- If the index has no place for a stripe, the stripe is not in the list `ks`.
pub none_indexed : (ks index : List ℕ) → IsIndexed ks index → (stripe : ℕ) → slice_get index stripe ≡ None → (other : ℕ) → slice_get ks other ≢ Some stripe
none_indexed ks index is stripe none other at = none-some other (sym none ∙ is other stripe at)

pub none_placed : (ks index : List ℕ) → IsIndexed ks index → (stripe place : ℕ) → slice_get index stripe ≡ Some place → slice_get ks place ≡ None → (other : ℕ) → slice_get ks other ≢ Some stripe
none_placed ks index is stripe place found none other at =
    let same : other ≡ place = same_Some other place (sym (is other stripe at) ∙ found) in
    none-some stripe (sym none ∙ ap (slice_get ks) (sym same) ∙ at)

pub none_other : (ks index : List ℕ) → IsIndexed ks index → (stripe place k : ℕ) → slice_get index stripe ≡ Some place → slice_get ks place ≡ Some k → k ≢ stripe → (other : ℕ) → slice_get ks other ≢ Some stripe
none_other ks index is stripe place k found there ne other at =
    let same : other ≡ place = same_Some other place (sym (is other stripe at) ∙ found) in
    ne (same_Some k stripe (sym there ∙ ap (slice_get ks) (sym same) ∙ at))

-- If an index is right for the stripes `ks` (`IsIndexed`), a later index that keeps all its places
-- is right for them too.
pub indexed_longer : (ks index later : List ℕ) → ((stripe place : ℕ) → slice_get index stripe ≡ Some place → slice_get later stripe ≡ Some place) → IsIndexed ks index → IsIndexed ks later
indexed_longer ks index later keeps is place stripe at = keeps stripe place (is place stripe at)

pub indexed_none : (ks index : List ℕ) → ks ≡ [] → IsIndexed ks index
indexed_none ks index none place stripe at = absurd (none-some stripe (sym (ap (λ (l : List ℕ). slice_get l place) none) ∙ at))

pub indexed_taken : (ks index : List ℕ) (k place : ℕ) → ((i : ℕ) → slice_get ks i ≢ Some k) → k < length index → place ≡ length ks → IsIndexed ks index → IsIndexed (ks ++ k ∷ []) (set index k place)
indexed_taken ks index k place none lt long is i stripe at =
    ⊎_elim (λ (old : slice_get ks i ≡ Some stripe).
    set_away index k stripe place i (λ same. none i (old ∙ ap (λ (x : ℕ). Some x) same)) (is i stripe old))
    (λ (last : (i ≡ length ks) × (k ≡ stripe)).
    ap (slice_get (set index k place)) (sym last.1) ∙ set_here index k place lt ∙ ap (λ (x : ℕ). Some x) (long ∙ sym last.0))
    (push_at ks k stripe i at)

others_apart : (k : ℕ) (ks : List ℕ) → ((i : ℕ) → slice_get ks i ≢ Some k) → AllByRecursion (λ other. eqb k other ≡ false) ks
others_apart k [] none = tt
others_apart k (x ∷ ks) none = (ne_eqb k x (λ e. none 0 (ap (λ (y : ℕ). Some y) (sym e))), others_apart k ks (λ i. none (suc i)))

distinct : (ks : List ℕ) → ((i j k : ℕ) → slice_get ks i ≡ Some k → slice_get ks j ≡ Some k → i ≡ j) → IsDistinct eqb ks
unfolding IsDistinct
distinct [] one = tt
distinct (x ∷ ks) one = (
  others_apart x ks (λ i at. let e = one 0 (suc i) x refl at in absurd (omega arith)),
  distinct ks (λ i j k a b. let e = one (suc i) (suc j) k a b in omega arith),
)

member_at : (ks : List ℕ) (k : ℕ) → list_any (eqb k) ks ≡ true → (i : ℕ) × (slice_get ks i ≡ Some k)
member_at [] k is = absurd (false≢true is)
member_at (x ∷ ks) k is = dite (ℕ_discrete x k) (λ (e : x ≡ k). (0, ap (λ (y : ℕ). Some y) e))
    (λ ne. let deep = member_at ks k (sym (ap (λ b. b || list_any (eqb k) ks) (ne_eqb k x (λ e. ne (sym e)))) ∙ is) in (suc deep.0, deep.1))

pub few : (n : ℕ) (ks : List ℕ) → ((i j k : ℕ) → slice_get ks i ≡ Some k → slice_get ks j ≡ Some k → i ≡ j) → ((i k : ℕ) → slice_get ks i ≡ Some k → k < n) → length ks ≤ n
few n ks apart below = length-le_from_distinct_below ks n (distinct ks apart) (λ q is. let at = member_at ks q is in below at.0 q at.1)
