-- Suppose that each key is at the place where its probe stops. Then no key is at two places, and a
-- key whose probe stops at an empty place is at no place. If a key is put at the place where its
-- probe stops, each other key is still at the place where its own probe stops.
use Rattle.std.proofs.Common.{◌≡◌, ◌≢◌, ℕ, ◌<◌, ◌≤◌, ◌⊎◌, true, false, Option, Some, None, inl, inr, ⊎_elim, arith, refl, sym, ap, subst, ◌∙◌, eq-eqb}
use Rattle.std.proofs.lemmas.Bool.{cases_eq, cases_lt, eqb-true, false≢true}
use Rattle.stripe_shard.specs.Probes.{ReachesBefore, IsProbed, LeadsTo, stops}

from_less : (home i j : ℕ) → i < j → ReachesBefore home i j ⊎ ReachesBefore home j i
from_less home i j less = ⊎_elim
    (λ (low : i < home). ⊎_elim
    (λ (l : j < home). inl (inr (inl (less, l))))
    (λ (h : home ≤ j). inr (inr (inr (low, h)))) (cases_lt j home))
    (λ (high : home ≤ i). inl (inl (high, less))) (cases_lt i home)

-- If two places are different, the probe reaches one of them before the other.
either : (home i j : ℕ) → i ≢ j → ReachesBefore home i j ⊎ ReachesBefore home j i
either home i j other = ⊎_elim (λ (l : i < j). from_less home i j l)
    (λ (h : j ≤ i). let l : j < i = omega arith in ⊎_elim (λ b. inr b) (λ b. inl b) (from_less home j i l)) (cases_lt i j)

-- If a probe reaches `j` before `i`, then `j` and `i` are different.
not_before : (home i j : ℕ) → ReachesBefore home j i → j ≢ i
not_before home i j (inl b) same = let low = b.0 in let high = b.1 in absurd (omega arith)
not_before home i j (inr (inl b)) same = let low = b.0 in let high = b.1 in absurd (omega arith)
not_before home i j (inr (inr b)) same = let low = b.0 in let high = b.1 in absurd (omega arith)

stops_none : (o : Option ℕ) (key : ℕ) → o ≡ None → stops o key ≡ true
stops_none o key is = ap (λ x. stops x key) is

pub stops_some : (o : Option ℕ) (key : ℕ) → o ≡ Some key → stops o key ≡ true
stops_some o key is = ap (λ x. stops x key) is ∙ eq-eqb key key refl

pub stopped : (o : Option ℕ) (key : ℕ) → stops o key ≡ true → (o ≡ None) ⊎ (o ≡ Some key)
stopped None key is = inl refl
stopped (Some other) key is = inr (ap Some (eqb-true other key is))

-- A key is at no more than one place.
pub unique : (keys : ℕ → Option ℕ) (count : ℕ) (home : ℕ → ℕ) (key i j : ℕ) → IsProbed keys count home → i < count → j < count
    → keys i ≡ Some key → keys j ≡ Some key → i ≡ j
unique keys count home key i j probed li lj at_i at_j = ⊎_elim (λ (e : i ≡ j). e)
    (λ (other : i ≢ j). ⊎_elim
    (λ (b : ReachesBefore (home key) i j). absurd (false≢true (sym (probed j key at_j i li b) ∙ stops_some (keys i) key at_i)))
    (λ (b : ReachesBefore (home key) j i). absurd (false≢true (sym (probed i key at_i j lj b) ∙ stops_some (keys j) key at_j)))
    (either (home key) i j other)) (cases_eq i j)

-- If the probe for a key stops at an empty place, no place has the key.
absent : (keys : ℕ → Option ℕ) (count : ℕ) (home : ℕ → ℕ) (key i m : ℕ) → IsProbed keys count home → i < count → m < count
    → keys i ≡ None → LeadsTo keys count (home key) key i → keys m ≡ Some key → ⊥
absent keys count home key i m probed li lm none leads at_m = ⊎_elim
    (λ (e : i ≡ m). cc)
    (λ (other : i ≢ m). ⊎_elim
    (λ (b : ReachesBefore (home key) i m). false≢true (sym (probed m key at_m i li b) ∙ stops_none (keys i) key none))
    (λ (b : ReachesBefore (home key) m i). false≢true (sym (leads m lm b) ∙ stops_some (keys m) key at_m))
    (either (home key) i m other)) (cases_eq i m)

-- No place has the key, except perhaps the place at which the probe for the key stops.
pub no_other : (keys : ℕ → Option ℕ) (count : ℕ) (home : ℕ → ℕ) (key i : ℕ) → IsProbed keys count home → i < count
    → stops (keys i) key ≡ true → LeadsTo keys count (home key) key i → (m : ℕ) → m < count → m ≢ i → keys m ≢ Some key
no_other keys count home key i probed li stop leads m lm other at_m = ⊎_elim
    (λ (none : keys i ≡ None). absent keys count home key i m probed li lm none leads at_m)
    (λ (here : keys i ≡ Some key). other (unique keys count home key m i probed lm li at_m here)) (stopped (keys i) key stop)

-- If a key is put at the place at which its probe stops, each key is still at the place where its
-- own probe stops.
pub put_there : (keys later : ℕ → Option ℕ) (count : ℕ) (home : ℕ → ℕ) (key i : ℕ) → IsProbed keys count home → i < count
    → stops (keys i) key ≡ true → LeadsTo keys count (home key) key i
    → later i ≡ Some key → ((j : ℕ) → j ≢ i → later j ≡ keys j) → IsProbed later count home
put_there keys later count home key i probed li stop leads here same m k at_m j lj before = ⊎_elim
    (λ (e : m ≡ i).
    let is : Some key ≡ Some k = sym here ∙ ap later (sym e) ∙ at_m in
    let k_is : key ≡ k = cc in
    let way : ReachesBefore (home key) j i = subst (λ n. ReachesBefore (home n) j i) (sym k_is) (subst (λ n. ReachesBefore (home k) j n) e before) in
    ap (λ o. stops o k) (same j (not_before (home key) i j way)) ∙ ap (stops (keys j)) (sym k_is) ∙ leads j lj way)
    (λ (other : m ≢ i).
    let was : keys m ≡ Some k = sym (same m other) ∙ at_m in
    let passes : stops (keys j) k ≡ false = probed m k was j lj before in
    ⊎_elim
    (λ (e : j ≡ i). ⊎_elim
    (λ (none : keys i ≡ None). absurd (false≢true (sym passes ∙ stops_none (keys j) k (ap keys e ∙ none))))
    (λ (there : keys i ≡ Some key). ap (λ o. stops o k) (ap later e ∙ here ∙ sym there ∙ sym (ap keys e)) ∙ passes) (stopped (keys i) key stop))
    (λ (ne : j ≢ i). ap (λ o. stops o k) (same j ne) ∙ passes) (cases_eq j i)) (cases_eq m i)
