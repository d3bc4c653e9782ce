-- What a transaction needs comes from the last transaction before it that changes the key.
use Rattle.std.proofs.Common.{◌≡◌, ℕ, ◌<◌, List, [], ◌∷◌, Option, Some, None, refl, sym, ◌∙◌, subst}
use Rattle.std.proofs.lemmas.Bool.{cases_eq}
use mathlib.Core.Logic.{◌⊎◌, inl, inr}
use Rattle.order_check.specs.Lists.{IsIn, AreApart, place}
use Rattle.order_check.specs.Footprints.{Cell, Footprint, Values, leaves, RunsFrom}
use Rattle.order_check.specs.Dependencies.{Needs, Writes}
use Rattle.order_check.proofs.Places.{place-up, place-first, in_rest}
use Rattle.order_check.proofs.Values.{cases_option, met, left_is, same_left, found}
use Rattle.order_check.proofs.Versions.{Changes}

module _ (footprints : ℕ → Footprint) (k : ℕ) (v : Option ℕ) (u : ℕ) where
  -- Nobody before `u` changes the key.
  abbrev pub IsUnchanged : List ℕ → Type 0
  IsUnchanged ts = (x : ℕ) → IsIn x ts → Changes (footprints x) k → (x ≡ u → ⊥) → place u ts < place x ts

  -- The last transaction before `u` that changes the key. It writes the value.
  pub record IsLatest (ts : List ℕ) : Type 0 where
    pub txn : ℕ
    pub is_in : IsIn txn ts
    pub writes : Writes (footprints txn) k v
    pub before : place txn ts < place u ts
    pub others : (x : ℕ) → IsIn x ts → Changes (footprints x) k → (x ≡ txn → ⊥) → (x ≡ u → ⊥) → (place x ts < place txn ts) ⊎ (place u ts < place x ts)

  -- A first transaction that does not change the key, before others.
  still : (x : ℕ) (xs : List ℕ) → (x ≡ u → ⊥) → (Changes (footprints x) k → ⊥) → IsUnchanged xs → IsUnchanged (x ∷ xs)
  still x xs apart same rest y is_in changes other = elim (cases_eq x y) [
    | inl is ↦ absurd (same (subst (λ t. Changes (footprints t) k) (sym is) changes))
    | inr not ↦ place-up x u y xs not (rest y (in_rest x y xs not is_in) changes other)
  ]

  -- A first transaction that writes the value, before others that do not change it before `u`.
  wrote_first : (x : ℕ) (xs : List ℕ) → (x ≡ u → ⊥) → Writes (footprints x) k v → IsUnchanged xs → IsLatest (x ∷ xs)
  wrote_first x xs apart writes rest = record {
    txn = x;
    is_in = inl refl;
    writes = writes;
    before = place-first x u xs apart;
    others = λ y is_in changes not_x not_u. inr (place-up x u y xs (λ is. not_x (sym is)) (rest y (in_rest x y xs (λ is. not_x (sym is)) is_in) changes not_u));
  }

  later : (x : ℕ) (xs : List ℕ) → (x ≡ u → ⊥) → (IsIn x xs → ⊥) → IsLatest xs → IsLatest (x ∷ xs)
  later x xs apart once last = record {
    txn = last.txn;
    is_in = inr last.is_in;
    writes = last.writes;
    before = place-up x last.txn u xs apart last.before;
    others = λ y is_in changes not_w not_u. elim (cases_eq x y) [
      | inl is ↦ inl (subst (λ t. place t (x ∷ xs) < place last.txn (x ∷ xs)) is (place-first x last.txn xs x_not_w))
      | inr not ↦ elim (last.others y (in_rest x y xs not is_in) changes not_w not_u) [
        | inl earlier ↦ inl (place-up x y last.txn xs x_not_w earlier)
        | inr after ↦ inr (place-up x u y xs not after)
      ]
    ];
  }
    where
      x_not_w : x ≡ last.txn → ⊥
      x_not_w is = once (subst (λ t. IsIn t xs) (sym is) last.is_in)

  unchanged_cell : (footprint : Footprint) (cell : Cell) → footprint k ≡ Some cell → cell.need ≡ cell.now → Changes footprint k → ⊥
  unchanged_cell footprint cell there same changes =
      let one : cell ≡ changes.cell = cc (sym there ∙ changes.there) in
      changes.changed (subst (λ (c : Cell). c.need ≡ c.now) one same)

  -- A transaction that needs the value finds what was there at first, or what the last one before it
  -- left that changes the key.
  pub latest : (vs : Values) (ts : List ℕ) → RunsFrom footprints vs ts → AreApart ts → IsIn u ts → Needs (footprints u) k v → ((vs k ≡ v) × IsUnchanged ts) ⊎ IsLatest ts
  latest vs [] runs apart is_in needs = absurd is_in
  latest vs (x ∷ xs) runs apart is_in needs = elim (cases_eq x u) [
    | inl same ↦ inl (
      met (footprints x) vs k v runs.0 (subst (λ t. Needs (footprints t) k v) (sym same) needs),
      λ y in_y changes other. subst (λ t. place t (x ∷ xs) < place y (x ∷ xs)) same (place-first x y xs (λ is. other (sym is ∙ same))),
    )
    | inr differ ↦ elim (latest (leaves (footprints x) vs) xs runs.1 apart.1 (in_rest x u xs differ is_in) needs) [
      | inl first ↦ at differ (footprints x k) refl first.0 first.1
      | inr last ↦ inr (later x xs differ apart.0 last)
    ]
  ]
    where
      at : (x ≡ u → ⊥) → (o : Option Cell) → footprints x k ≡ o → leaves (footprints x) vs k ≡ v → IsUnchanged xs → ((vs k ≡ v) × IsUnchanged (x ∷ xs)) ⊎ IsLatest (x ∷ xs)
      at differ None is now rest =
          inl (sym (same_left (footprints x) vs k is) ∙ now, still x xs differ (λ changes. cc (sym is ∙ changes.there)) rest)
      at differ (Some cell) is now rest = elim (cases_option cell.need cell.now) [
        | inl same ↦ inl (
          found (footprints x) vs k cell runs.0 is ∙ same ∙ sym (left_is (footprints x) vs k cell is) ∙ now,
          still x xs differ (unchanged_cell (footprints x) cell is same) rest,
        )
        | inr changed ↦
            let now_is : cell.now ≡ v = sym (left_is (footprints x) vs k cell is) ∙ now in
            inr (wrote_first x xs differ (record { cell = cell; there = is; now_is = now_is; changed = λ same. changed (same ∙ sym now_is) }) rest)
      ]
