-- In every order in which all transactions find what they need, each edge goes forward.
use Rattle.std.proofs.Common.{◌≡◌, ℕ, ◌<◌, List, [], ◌∷◌, Option, Some, None, refl, sym, ◌∙◌, subst}
use Rattle.std.proofs.lemmas.Bool.{cases_eq}
use mathlib.Core.Logic.{inl, inr}
use Rattle.order_check.specs.Lists.{IsIn, AreApart, place}
use Rattle.order_check.specs.Footprints.{Footprint, Values, no_values, Meets, leaves, RunsFrom}
use Rattle.order_check.specs.Dependencies.{Needs, Writes, Replaces, ReadsFrom, ReplacesFor}
use Rattle.order_check.proofs.Places.{place-up, place-first, in_rest}
use Rattle.order_check.proofs.Values.{cases_option, met, wrote, replaced, needs_replaced}

-- A transaction of the list that comes before `u` and writes `v` at the key.
pub record Source (footprints : ℕ → Footprint) (ts : List ℕ) (k : ℕ) (v : Option ℕ) (u : ℕ) : Type 0 where
  pub txn : ℕ
  pub is_in : IsIn txn ts
  pub writes : Writes (footprints txn) k v
  pub before : place txn ts < place u ts

-- If `u` needs a value that the key does not have at first, a transaction before `u` writes it.
pub sourced : (footprints : ℕ → Footprint) (vs : Values) (ts : List ℕ) (k : ℕ) (v : Option ℕ) (u : ℕ) → RunsFrom footprints vs ts → (vs k ≡ v → ⊥) → IsIn u ts → Needs (footprints u) k v → Source footprints ts k v u
sourced footprints vs [] k v u runs other is_in needs = absurd is_in
sourced footprints vs (x ∷ xs) k v u runs other is_in needs = elim (cases_eq x u) [
  | inl same ↦ absurd (other (met (footprints x) vs k v runs.0 (subst (λ t. Needs (footprints t) k v) (sym same) needs)))
  | inr apart ↦ elim (cases_option (leaves (footprints x) vs k) v) [
    | inl now ↦ record { txn = x; is_in = inl refl; writes = wrote (footprints x) vs k v runs.0 other now; before = place-first x u xs apart }
    | inr still ↦
        let s = sourced footprints (leaves (footprints x) vs) xs k v u runs.1 still (in_rest x u xs apart is_in) needs in
        record { txn = s.txn; is_in = inr s.is_in; writes = s.writes; before = place-up x s.txn u xs apart s.before }
  ]
]

-- Nobody in the list writes `v` at the key.
abbrev pub NotWritten : (ℕ → Footprint) → List ℕ → ℕ → Option ℕ → Type 0
NotWritten footprints ts k v = (x : ℕ) → IsIn x ts → Writes (footprints x) k v → ⊥

-- Let `r` and `w` need the same value, and let `w` replace it. Then `r` comes before `w`, if the key
-- gets this value only once.
pub read_first : (footprints : ℕ → Footprint) (vs : Values) (ts : List ℕ) (k : ℕ) (v : Option ℕ) (r w : ℕ) → RunsFrom footprints vs ts → AreApart ts
    → ((x y : ℕ) → Writes (footprints x) k v → Writes (footprints y) k v → x ≡ y) → (vs k ≡ v → NotWritten footprints ts k v)
    → (r ≡ w → ⊥) → IsIn r ts → IsIn w ts → Needs (footprints r) k v → Replaces (footprints w) k v → place r ts < place w ts
read_first footprints vs [] k v r w runs apart one fresh differ in_r in_w needs replaces = absurd in_r
read_first footprints vs (x ∷ xs) k v r w runs apart one fresh differ in_r in_w needs replaces = elim (cases_eq x r) [
  | inl is_r ↦ subst (λ t. place t (x ∷ xs) < place w (x ∷ xs)) is_r (place-first x w xs (λ is_w. differ (sym is_r ∙ is_w)))
  | inr not_r ↦ elim (cases_eq x w) [
    | inl is_w ↦
        let here : Replaces (footprints x) k v = subst (λ t. Replaces (footprints t) k v) (sym is_w) replaces in
        let s = sourced footprints (leaves (footprints x) vs) xs k v r runs.1 (replaced (footprints x) vs k v here) (in_rest x r xs not_r in_r) needs in
        absurd (fresh (met (footprints x) vs k v runs.0 (needs_replaced (footprints x) k v here)) s.txn (inr s.is_in) s.writes)
    | inr not_w ↦
        place-up x r w xs not_w
        (read_first footprints (leaves (footprints x) vs) xs k v r w runs.1 apart.1 one (fresh_after vs x xs runs.0 apart.0 fresh) differ (in_rest x r xs not_r in_r) (in_rest x w xs not_w in_w) needs replaces)
  ]
]
  where
    fresh_after : (vs : Values) (x : ℕ) (xs : List ℕ) → Meets (footprints x) vs → (IsIn x xs → ⊥) → (vs k ≡ v → NotWritten footprints (x ∷ xs) k v) → leaves (footprints x) vs k ≡ v → NotWritten footprints xs k v
    fresh_after vs x xs meets once fresh now y in_y writes = elim (cases_option (vs k) v) [
      | inl was ↦ fresh was y (inr in_y) writes
      | inr other ↦ once (subst (λ t. IsIn t xs) (sym (one x y (wrote (footprints x) vs k v meets other now) writes)) in_y)
    ]

-- The value comes from a transaction before `u`, unless the key is absent.
pub sourced_first : (footprints : ℕ → Footprint) (ts : List ℕ) (k n u : ℕ) → RunsFrom footprints no_values ts → IsIn u ts → Needs (footprints u) k (Some n) → Source footprints ts k (Some n) u
sourced_first footprints ts k n u runs is_in needs = sourced footprints no_values ts k (Some n) u runs (λ is. cc is) is_in needs

-- `u` reads what `t` writes: then `t` comes before `u`.
pub reads_forward : (footprints : ℕ → Footprint) (ts : List ℕ) (t u k : ℕ) (value : Option ℕ) → RunsFrom footprints no_values ts → IsIn u ts → ReadsFrom footprints t u k value → place t ts < place u ts
reads_forward footprints ts t u k value runs is_in reads = at value refl
  where
    at : (v : Option ℕ) → value ≡ v → place t ts < place u ts
    at None is = absurd (reads.once.fresh is t reads.writes)
    at (Some n) is =
        let s = sourced_first footprints ts k n u runs is_in (subst (Needs (footprints u) k) is reads.needs) in
        subst (λ x. place x ts < place u ts) (reads.once.one s.txn t (subst (Writes (footprints s.txn) k) (sym is) s.writes) reads.writes) s.before

-- `u` replaces what `t` reads: then `t` comes before `u`.
pub replaces_forward : (footprints : ℕ → Footprint) (ts : List ℕ) (t u k : ℕ) (value : Option ℕ) → RunsFrom footprints no_values ts → AreApart ts → IsIn t ts → IsIn u ts → ReplacesFor footprints t u k value → place t ts < place u ts
replaces_forward footprints ts t u k value runs apart in_t in_u e =
    read_first footprints no_values ts k value t u runs apart e.once.one (λ none x in_x writes. e.once.fresh (sym none) x writes) e.apart in_t in_u e.needs e.replaces
