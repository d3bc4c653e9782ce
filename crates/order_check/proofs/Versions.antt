-- Shows that each transaction finds what it needs in an order that keeps the sources, because a
-- key's present version is the one that its source wrote: every other was replaced. No value need
-- be written only once.
use Rattle.std.proofs.Common.{◌≡◌, ℕ, ◌<◌, List, [], ◌∷◌, ◌++◌, length, Option, Some, None, refl, ap, sym, ◌∙◌, subst, append_assoc, arith}
use Rattle.std.specs.Option.{IfSome}
use mathlib.Core.Logic.{◌⊎◌, inl, inr}
use Rattle.order_check.specs.Lists.{IsIn, AreApart, place}
use Rattle.order_check.specs.Footprints.{Cell, Footprint, Values, no_values, Meets, leaves, RunsFrom}
use Rattle.order_check.specs.Sources.{Sources, Gives, KeepsSources}
use Rattle.order_check.proofs.Places.{in_left, in_right, in_parts, not_both, place-left, in_left-place, place-next}
use Rattle.order_check.proofs.Values.{cases_option, left_is, same_left}

-- The transaction changes the key.
pub record Changes (footprint : Footprint) (k : ℕ) : Type 0 where
  pub cell : Cell
  pub there : footprint k ≡ Some cell
  pub changed : cell.need ≡ cell.now → ⊥

module _ (footprints : ℕ → Footprint) (source : Sources) where
  -- The version was made: it is the one at the beginning, or one of the transactions wrote it.
  abbrev IsMade : List ℕ → ℕ → Option ℕ → Type 0
  IsMade p k None = Unit {0}
  IsMade p k (Some t) = IsIn t p × Changes (footprints t) k

  -- One of the transactions replaced the version.
  record IsGone (p : List ℕ) (k : ℕ) (version : Option ℕ) : Type 0 where
    by : ℕ
    is_in : IsIn by p
    changes : Changes (footprints by) k
    source_is : source by k ≡ version

  -- The value that the version has.
  abbrev HasValue : ℕ → Option ℕ → Option ℕ → Type 0
  HasValue k v None = v ≡ None
  HasValue k v (Some t) = (cell : Cell) × (footprints t k ≡ Some cell) × (v ≡ cell.now)

  -- The version that the key has now. Every other version that was made is gone.
  record Stands (p : List ℕ) (vs : Values) (k : ℕ) : Type 0 where
    version : Option ℕ
    value : HasValue k (vs k) version
    others : (w : Option ℕ) → IsMade p k w → (version ≡ w) ⊎ IsGone p k w

  more_gone : (p : List ℕ) (u k : ℕ) (w : Option ℕ) → IsGone p k w → IsGone (p ++ u ∷ []) k w
  more_gone p u k w gone = record { by = gone.by; is_in = in_left gone.by p (u ∷ []) gone.is_in; changes = gone.changes; source_is = gone.source_is }

  -- A version that was made before the last transaction, or by it.
  made_before : (p : List ℕ) (u k : ℕ) (w : Option ℕ) → IsMade (p ++ u ∷ []) k w → IsMade p k w ⊎ ((w ≡ Some u) × Changes (footprints u) k)
  made_before p u k None made = inl tt
  made_before p u k (Some t) made = elim (in_parts t p (u ∷ []) made.0) [
    | inl early ↦ inl (early, made.1)
    | inr last ↦ elim last [
      | inl same ↦ inr (ap Some (sym same), subst (λ x. Changes (footprints x) k) (sym same) made.1)
      | inr never ↦ absurd never
    ]
  ]

  -- A transaction that changes nothing at the key runs.
  stands_still : (p : List ℕ) (u k : ℕ) (vs : Values) → Stands p vs k → leaves (footprints u) vs k ≡ vs k → (Changes (footprints u) k → ⊥) → Stands (p ++ u ∷ []) (leaves (footprints u) vs) k
  stands_still p u k vs stands same none = record {
    version = stands.version;
    value = subst (λ v. HasValue k v stands.version) (sym same) stands.value;
    others = λ w made. elim (made_before p u k w made) [
      | inl before ↦ elim (stands.others w before) [
        | inl now ↦ inl now
        | inr gone ↦ inr (more_gone p u k w gone)
      ]
      | inr last ↦ absurd (none last.1)
    ];
  }

  -- A transaction that changes the key runs, and its source is the present version.
  stands_new : (p : List ℕ) (u k : ℕ) (vs : Values) (stands : Stands p vs k) → stands.version ≡ source u k → Changes (footprints u) k → Stands (p ++ u ∷ []) (leaves (footprints u) vs) k
  stands_new p u k vs stands at_source changes = record {
    version = Some u;
    value = (changes.cell, changes.there, left_is (footprints u) vs k changes.cell changes.there);
    others = λ w made. elim (made_before p u k w made) [
      | inl before ↦ elim (stands.others w before) [
        | inl now ↦ inr (record { by = u; is_in = in_right u p (u ∷ []) (inl refl); changes = changes; source_is = sym at_source ∙ now })
        | inr gone ↦ inr (more_gone p u k w gone)
      ]
      | inr last ↦ inl (sym last.0)
    ];
  }

  -- The next transaction: its source at a key is the present version of the key.
  module _ (p : List ℕ) (u : ℕ) (us : List ℕ) (apart : AreApart (p ++ u ∷ us)) (keeps : KeepsSources footprints source (p ++ u ∷ us)) where
    in_u : IsIn u (p ++ u ∷ us)
    in_u = in_right u p (u ∷ us) (inl refl)

    early : (t : ℕ) → place t (p ++ u ∷ us) < place u (p ++ u ∷ us) → IsIn t p
    early t before = let next = place-next u p us in in_left-place t p (u ∷ us) (omega arith)

    made : (k : ℕ) (cell : Cell) (w : Option ℕ) → footprints u k ≡ Some cell → source u k ≡ w → Gives footprints k cell.need w → IsMade p k w
    made k cell None there is gives = tt
    made k cell (Some t) there is gives =
        (early t (keeps.reads u k t cell in_u there is), record { cell = gives.cell; there = gives.there; changed = λ same. gives.changed (same ∙ gives.now_is) })

    not_gone : (k : ℕ) (cell : Cell) → footprints u k ≡ Some cell → IsGone p k (source u k) → ⊥
    not_gone k cell there gone =
        let differ : u ≡ gone.by → ⊥ = λ same. not_both gone.by p (u ∷ us) apart gone.is_in (inl same) in
        let forward : place u (p ++ u ∷ us) < place gone.by (p ++ u ∷ us) = keeps.replaces u gone.by k cell gone.changes.cell differ in_u (in_left gone.by p (u ∷ us) gone.is_in) there gone.changes.there (sym gone.source_is) gone.changes.changed in
        let left : place gone.by (p ++ u ∷ us) < length p = place-left gone.by p (u ∷ us) gone.is_in in
        not_both u p (u ∷ us) apart (in_left-place u p (u ∷ us) (omega arith)) (inl refl)

    at_source : (vs : Values) (k : ℕ) (cell : Cell) → footprints u k ≡ Some cell → (stands : Stands p vs k) → stands.version ≡ source u k
    at_source vs k cell there stands = elim (stands.others (source u k) (made k cell (source u k) there refl (keeps.gives u k cell in_u there))) [
      | inl now ↦ now
      | inr gone ↦ absurd (not_gone k cell there gone)
    ]

    value_given : (v need : Option ℕ) (k : ℕ) (w : Option ℕ) → HasValue k v w → Gives footprints k need w → v ≡ need
    value_given v need k None has gives = has ∙ sym gives
    value_given v need k (Some t) has gives =
        let same : has.0 ≡ gives.cell = cc (sym has.1 ∙ gives.there) in
        has.2 ∙ ap (λ (c : Cell). c.now) same ∙ gives.now_is

    finds : (vs : Values) (k : ℕ) (cell : Cell) → footprints u k ≡ Some cell → Stands p vs k → vs k ≡ cell.need
    finds vs k cell there stands =
        value_given (vs k) cell.need k stands.version stands.value (subst (Gives footprints k cell.need) (sym (at_source vs k cell there stands)) (keeps.gives u k cell in_u there))

    meets : (vs : Values) → ((k : ℕ) → Stands p vs k) → Meets (footprints u) vs
    meets vs stands k = at (footprints u k) refl
      where
        at : (o : Option Cell) → footprints u k ≡ o → IfSome o (λ cell. vs k ≡ cell.need)
        at None is = tt
        at (Some cell) is = finds vs k cell is (stands k)

    stands_on : (vs : Values) → ((k : ℕ) → Stands p vs k) → (k : ℕ) → Stands (p ++ u ∷ []) (leaves (footprints u) vs) k
    stands_on vs stands k = at (footprints u k) refl
      where
        at : (o : Option Cell) → footprints u k ≡ o → Stands (p ++ u ∷ []) (leaves (footprints u) vs) k
        at None is = stands_still p u k vs (stands k) (same_left (footprints u) vs k is) (λ changes. cc (sym is ∙ changes.there))
        at (Some cell) is = elim (cases_option cell.need cell.now) [
          | inl same ↦
              let unchanged : Changes (footprints u) k → ⊥ = λ changes. let one : cell ≡ changes.cell = cc (sym is ∙ changes.there) in changes.changed (subst (λ (c : Cell). c.need ≡ c.now) one same) in
              stands_still p u k vs (stands k) (left_is (footprints u) vs k cell is ∙ sym same ∙ sym (finds vs k cell is (stands k))) unchanged
          | inr differ ↦ stands_new p u k vs (stands k) (at_source vs k cell is (stands k)) (record { cell = cell; there = is; changed = differ })
        ]

  runs_on : (p ts : List ℕ) (vs : Values) → AreApart (p ++ ts) → KeepsSources footprints source (p ++ ts) → ((k : ℕ) → Stands p vs k) → RunsFrom footprints vs ts
  runs_on p [] vs apart keeps stands = tt
  runs_on p (u ∷ us) vs apart keeps stands =
      let whole : p ++ u ∷ us ≡ (p ++ u ∷ []) ++ us = sym (append_assoc p (u ∷ []) us) in (
        meets p u us apart keeps vs stands,
        runs_on (p ++ u ∷ []) us (leaves (footprints u) vs) (subst AreApart whole apart) (subst (KeepsSources footprints source) whole keeps) (stands_on p u us apart keeps vs stands),
      )

  at_first : (k : ℕ) → Stands [] no_values k
  at_first k = record { version = None; value = refl; others = λ w made. first w made }
    where
      first : (w : Option ℕ) → IsMade [] k w → (None ≡ w) ⊎ IsGone [] k w
      first None made = inl refl
      first (Some t) made = absurd made.0

  -- An order that keeps the sources is one in which all transactions find what they need.
  pub runs_by_sources : (ts : List ℕ) → AreApart ts → KeepsSources footprints source ts → RunsFrom footprints no_values ts
  runs_by_sources ts apart keeps = runs_on [] ts no_values apart keeps at_first
