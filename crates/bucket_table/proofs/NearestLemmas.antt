-- The nearest stored bucket.
use Prim.Native.Nat.{suc}
use Rattle.std.proofs.Common.{◌≡◌, ℕ, ◌%◌, ◌^◌, ◌<◌, inl, inr, Some, None, false, is_some, refl, sym, ◌∙◌, ap, subst, arith}
use Rattle.std.proofs.lemmas.Bool.{cases_eq}
use Rattle.node_list.specs.Nodes.{Listing}
use Rattle.list_steps.specs.Seek.{IsStart}
use Rattle.split_key.specs.Split.{parent_of, ancestor_of, IsAncestor, IsPowerOfTwo}
use Rattle.split_key.specs.Sort.{dummy_at, regular_at, IsBefore, IsNotBefore}
use Rattle.split_key.proofs.SortLemmas.{before_by_split, before_irreflexive, before_once}
use Rattle.split_key.proofs.AncestorLemmas.{ancestor_before, ancestor_before_key, exponent_below}
use Rattle.bucket_table.specs.Directory.{Directory, dummy_of, is_stored, IsNearest}
use Rattle.bucket_table.specs.Dummies.{IsDummyAt, IsBeforeBucket}
use Rattle.bucket_table.specs.Home.{IsHome}

-- Zero or more steps, each from a bucket to its parent, lead from `bucket` to `at`. No bucket
-- before `at` on this path is stored.
pub record IsPassing (d : Directory) (bucket at : ℕ) : Type 0 where
  pub steps : ℕ
  pub reached : at ≡ ancestor_of steps bucket
  pub passed : (fewer : ℕ) → fewer < steps → is_stored d (ancestor_of fewer bucket) ≡ false

pub passing_self : (d : Directory) (bucket : ℕ) → IsPassing d bucket bucket
unfolding ancestor_of
passing_self d bucket = record { steps = 0; reached = refl; passed = λ fewer less. absurd (omega arith) }

pub passing_parent : (d : Directory) (bucket at : ℕ) → IsPassing d bucket at → dummy_of d at ≡ None → IsPassing d bucket (parent_of at)
unfolding ancestor_of
passing_parent d bucket at passing none = record {
  steps = suc passing.steps;
  reached = ap parent_of passing.reached;
  passed = λ fewer less. elim (cases_eq fewer passing.steps) [
    | inl same ↦ rw (same, ← passing.reached) (ap is_some none)
    | inr apart ↦ passing.passed fewer (omega arith)
  ];
}

pub nearest_passing : (d : Directory) (bucket at place : ℕ) → IsPassing d bucket at → dummy_of d at ≡ Some place → IsNearest d bucket place
nearest_passing d bucket at place passing stored = record {
  steps = passing.steps;
  stored = ap (dummy_of d) (sym passing.reached) ∙ stored;
  nearer = passing.passed;
}

module _ (d : Directory) (l : Listing) (bucket place : ℕ) (home : IsHome d l) (nearest : IsNearest d bucket place) where
  -- The dummy of the nearest stored bucket.
  near_dummy : IsDummyAt l.nodes place (ancestor_of nearest.steps bucket)
  near_dummy = home.stored (ancestor_of nearest.steps bucket) place nearest.stored

  near_ancestor : IsAncestor (ancestor_of nearest.steps bucket) bucket
  near_ancestor = record { steps = nearest.steps; reached = refl }

  pub nearest_before : bucket < 2 ^ 32 → IsBeforeBucket l.nodes place bucket
  nearest_before fits = record {
    node = near_dummy.node;
    is = near_dummy.is;
    kind = near_dummy.kind;
    at_most = elim (cases_eq (ancestor_of nearest.steps bucket) bucket) [
      | inl same ↦ subst (λ at. IsNotBefore (dummy_at bucket) at) (sym (near_dummy.at ∙ ap dummy_at same)) (before_irreflexive (dummy_at bucket))
      | inr other ↦
          let below = ancestor_before (ancestor_of nearest.steps bucket) bucket fits near_ancestor other in
          subst (λ at. IsNotBefore (dummy_at bucket) at) (sym near_dummy.at) (before_once (dummy_at (ancestor_of nearest.steps bucket)) (dummy_at bucket) (before_by_split _ _ below))
    ];
  }

  pub nearest_start : IsPowerOfTwo d.size → d.size < 2 ^ 32 → (key : ℕ) → key % d.size ≡ bucket → IsStart l.nodes place (regular_at key)
  nearest_start power fits key in_bucket =
      let bits = power.exponent in
      let bucket_is : key % 2 ^ bits ≡ bucket = ap (λ n. key % n) (sym power.is) ∙ in_bucket in
      let ancestor : IsAncestor (ancestor_of nearest.steps bucket) (key % 2 ^ bits) = rw bucket_is near_ancestor in
      let few : bits < 32 = exponent_below bits 32 (omega (arith, power.is)) in
      let below = ancestor_before_key (ancestor_of nearest.steps bucket) key bits (omega arith) ancestor in
      record {
        node = near_dummy.node;
        is = near_dummy.is;
        dummy = near_dummy.kind;
        below = subst (λ at. IsBefore at (regular_at key)) (sym near_dummy.at) (before_by_split (dummy_at (ancestor_of nearest.steps bucket)) (regular_at key) below);
      }
