-- The map `now` has the value of `now_at` at each key.
use Rattle.std.proofs.Common.{◌≡◌, ℕ, ◌==◌, true, false, cond, ◌||◌, List, [], ◌∷◌, refl, ap, sym, ◌∙◌, None, Option}
use Rattle.std.specs.Ordering.{nat_cmp, eq_by_cmp}
use Rattle.std.specs.Cmp.{unsigned_tied}
use Rattle.std.specs.FinMap.Entries.{is_some-find}
use Rattle.std.specs.List.{fold, list_any, flat_map}
use Rattle.std.proofs.lemmas.Bool.{false≢true, cases_Bool, eqb-true, or_parts, or_cases}
use Rattle.std.proofs.lemmas.List.Folds.{list_any-append}
use mathlib.Core.Logic.{inl, inr}
use Rattle.txn_words.specs.declared.entry.Entry.{Entry}
use Rattle.txn_words.specs.Map.{Map, empty, get, keys, set_at}
use Rattle.txn_trace.specs.Serial.{serial}
use Rattle.txn_trace.specs.Now.{first_differing, tabulated, open_maps, now, now_at}
use Rattle.txn_words.proofs.Maps.{none_is, get-set_at}
use Rattle.txn_trace.proofs.Now.{same_is}

-- The base with the other maps laid over it. At each key it has the value of the first map that
-- differs there from the base, or the value of the base if no map differs.
abbrev pub overlaid : Map → List Map → Map
overlaid base ms = tabulated (flat_map keys (base ∷ ms)) (first_differing base ms)

module _ (f : ℕ → Option ℕ) (k : ℕ) where
  table_out : (ks : List ℕ) (m : Map) → list_any (λ j. k == j) ks ≡ false → get (fold (λ m k. set_at m k (f k)) m ks) k ≡ get m k
  table_out [] m out = refl
  table_out (j ∷ ks) m out =
      let parts = or_parts (k == j) _ out in
      table_out ks (set_at m j (f j)) parts.1 ∙ get-set_at m j (f j) k ∙ ap (λ b. cond b (f j) (get m k)) parts.0

  table_in : (ks : List ℕ) (m : Map) → list_any (λ j. k == j) ks ≡ true → get (fold (λ m k. set_at m k (f k)) m ks) k ≡ f k
  table_in [] m there = absurd (false≢true there)
  table_in (j ∷ ks) m there = elim (cases_Bool (list_any (λ j. k == j) ks)) [
    | inl later ↦ table_in ks (set_at m j (f j)) later
    | inr not_later ↦
        let here : (k == j) ≡ true = elim (or_cases (k == j) _ there) [ inl h ↦ h | inr h ↦ absurd (false≢true (sym not_later ∙ h)) ] in
        table_out ks (set_at m j (f j)) not_later ∙ get-set_at m j (f j) k ∙ ap (λ b. cond b (f j) (get m k)) here ∙ ap f (sym (eqb-true k j here))
  ]

any_same : (k : ℕ) (ks : List ℕ) → list_any (eq_by_cmp nat_cmp k) ks ≡ list_any (λ j. k == j) ks
any_same k [] = refl
any_same k (j ∷ ks) = ap (λ b. b || list_any (eq_by_cmp nat_cmp k) ks) (unsigned_tied k j) ∙ ap (λ b. (k == j) || b) (any_same k ks)

absent : (m : Map) (k : ℕ) → list_any (λ j. k == j) (keys m) ≡ false → get m k ≡ None
absent m k out = none_is (get m k) (is_some-find nat_cmp k m.rows ∙ any_same k (keys m) ∙ out)

none_there : (base : Map) (k : ℕ) (ms : List Map) → get base k ≡ None → list_any (λ j. k == j) (flat_map keys ms) ≡ false → first_differing base ms k ≡ None
none_there base k [] is out = is
none_there base k (m ∷ ms) is out =
    let parts = or_parts (list_any (λ j. k == j) (keys m)) (list_any (λ j. k == j) (flat_map keys ms)) (sym (list_any-append (λ j. k == j) (keys m) (flat_map keys ms)) ∙ out) in
    ap (λ b. cond b (first_differing base ms k) (get m k)) (same_is _ _ (absent m k parts.0 ∙ sym is)) ∙ none_there base k ms is parts.1

pub get-overlaid : (base : Map) (ms : List Map) (k : ℕ) → get (overlaid base ms) k ≡ first_differing base ms k
get-overlaid base ms k = elim (cases_Bool (list_any (λ j. k == j) (flat_map keys (base ∷ ms)))) [
  | inl there ↦ table_in (first_differing base ms) k (flat_map keys (base ∷ ms)) empty there
  | inr out ↦
      let parts = or_parts (list_any (λ j. k == j) (keys base)) (list_any (λ j. k == j) (flat_map keys ms)) (sym (list_any-append (λ j. k == j) (keys base) (flat_map keys ms)) ∙ out) in
      table_out (first_differing base ms) k (flat_map keys (base ∷ ms)) empty out ∙ sym (none_there base k ms (absent base k parts.0) parts.1)
]

pub get-now : (h : List Entry) (k : ℕ) → get (now h) k ≡ now_at h k
get-now h k = get-overlaid (serial h) (open_maps h) k
