-- The order of nodes, and statements about each node of a list that changes.
use Rattle.std.proofs.Common.{◌≡◌, ℕ, inl, inr, List, [], ◌∷◌, Some, None, refl, sym}
use Rattle.std.proofs.lemmas.Bool.Decides.{eqb_tells}
use Rattle.std.specs.List.{AllByRecursion}
use Rattle.split_key.proofs.SortLemmas.{before_irreflexive, before_not_before, before_transitive}
use Rattle.node_list.specs.Nodes.{NodeAt, node_of, next_of, first, linked_after, unlinked_after, changed_at}
use Rattle.node_list.specs.Order.{IsNodeBefore, IsRising, IsVacant}
use Rattle.node_list.specs.Follow.{IsSameNode}

pub some-injective : {X : Type 0} {x y : X} → Some x ≡ Some y → x ≡ y
some-injective e = cc

pub some-none : {X : Type 0} {x : X} → Some x ≡ None → ⊥
some-none e = cc

-- No node is before itself.
pub before-irreflexive : (n : NodeAt) → IsNodeBefore n n → ⊥
before-irreflexive n before = before_not_before n.at n.at before (before_irreflexive n.at)

pub before-transitive : (n m k : NodeAt) → IsNodeBefore n m → IsNodeBefore m k → IsNodeBefore n k
before-transitive n m k first second = before_transitive n.at m.at k.at first second

-- The order of two nodes depends only on their sort keys.
pub before-same : (n m k l : NodeAt) → n.at ≡ k.at → m.at ≡ l.at → IsNodeBefore n m → IsNodeBefore k l
before-same n m k l n_at m_at before = rw (← n_at, ← m_at) before

-- If `P` implies `Q` and `P` holds for each node of a list, `Q` holds for each of these nodes.
pub each_map : (P Q : NodeAt → Type 0) (nodes : List NodeAt) → ((n : NodeAt) → P n → Q n) → AllByRecursion P nodes → AllByRecursion Q nodes
each_map P Q [] more each = tt
each_map P Q (n ∷ rest) more each = (more n each.0, each_map P Q rest more each.1)

pub each_both : (P Q : NodeAt → Type 0) (nodes : List NodeAt) → AllByRecursion P nodes → AllByRecursion Q nodes → AllByRecursion (λ n. P n × Q n) nodes
each_both P Q [] one other = tt
each_both P Q (n ∷ rest) one other = ((one.0, other.0), each_both P Q rest one.1 other.1)

-- If `P` holds for each node of a list, it holds for each node that `node_of` finds in the list.
pub each_found : (P : NodeAt → Type 0) (nodes : List NodeAt) (place : ℕ) (n : NodeAt) → AllByRecursion P nodes → node_of nodes place ≡ Some n → P n
unfolding node_of
each_found P [] place n each is = absurd (some-none (sym is))
each_found P (m ∷ rest) place n each is = elim (eqb_tells m.place place) [
  | inl here ↦ rw (some-injective (rw here.0 at is)) at each.0
  | inr apart ↦ each_found P rest place n each.1 (rw apart.0 at is)
]

-- If `P` holds for each node of a list and for a new node, it holds for each node after the new
-- node is linked.
pub each_linked : (P : NodeAt → Type 0) (nodes : List NodeAt) (pred : ℕ) (x : NodeAt) → P x → AllByRecursion P nodes → AllByRecursion P (linked_after nodes pred x)
unfolding linked_after
each_linked P [] pred x it each = tt
each_linked P (n ∷ rest) pred x it each = elim (eqb_tells n.place pred) [
  | inl here ↦ rw here.0 (each.0, (it, each.1))
  | inr apart ↦ rw apart.0 (each.0, each_linked P rest pred x it each.1)
]

pub each_unlinked : (P : NodeAt → Type 0) (nodes : List NodeAt) (pred : ℕ) → AllByRecursion P nodes → AllByRecursion P (unlinked_after nodes pred)
unfolding unlinked_after
each_unlinked P [] pred each = tt
each_unlinked P (n ∷ []) pred each = elim (eqb_tells n.place pred) [
  | inl here ↦ rw here.0 each
  | inr apart ↦ rw apart.0 each
]
each_unlinked P (n ∷ (m ∷ rest)) pred each = elim (eqb_tells n.place pred) [
  | inl here ↦ rw here.0 (each.0, each.1.1)
  | inr apart ↦ rw apart.0 (each.0, each_unlinked P (m ∷ rest) pred each.1)
]

pub each_changed : (P : NodeAt → Type 0) (nodes : List NodeAt) (place : ℕ) (change : NodeAt → NodeAt) → ((n : NodeAt) → node_of nodes place ≡ Some n → P n → P (change n)) → AllByRecursion P nodes → AllByRecursion P (changed_at nodes place change)
unfolding node_of changed_at
each_changed P [] place change kept each = tt
each_changed P (n ∷ rest) place change kept each = elim (eqb_tells n.place place) [
  | inl here ↦ rw here.0 (kept n (rw here.0 refl) each.0, each.1)
  | inr apart ↦ rw apart.0 (each.0, each_changed P rest place change (λ m is. kept m (rw apart.0 is)) each.1)
]

-- If a new node is linked where it belongs in the order, the nodes stay in order.
pub rising_linked : (nodes : List NodeAt) (pred : ℕ) (n x : NodeAt) → IsRising nodes → node_of nodes pred ≡ Some n → IsNodeBefore n x → ((m : NodeAt) → next_of nodes pred ≡ Some m → IsNodeBefore x m) → IsRising (linked_after nodes pred x)
unfolding IsRising linked_after node_of next_of
rising_linked [] pred n x rising is before next = tt
rising_linked (k ∷ []) pred n x rising is before next = elim (eqb_tells k.place pred) [
  | inl here ↦
      let same : k ≡ n = some-injective (rw here.0 at is) in
      rw here.0 ((rw same before, tt), (tt, tt))
  | inr apart ↦ absurd (some-none (sym (rw apart.0 at is)))
]
rising_linked (k ∷ (m ∷ rest)) pred n x rising is before next = elim (eqb_tells k.place pred) [
  | inl here ↦
      let same : k ≡ n = some-injective (rw here.0 at is) in
      let follows : IsNodeBefore x m = next m (rw here.0 refl) in
      let later = each_map (IsNodeBefore m) (IsNodeBefore x) rest (λ l after. before-transitive x m l follows after) rising.1.0 in
      rw here.0 ((rw same before, rising.0), ((follows, later), rising.1))
  | inr apart ↦
      let there : node_of (m ∷ rest) pred ≡ Some n = rw apart.0 at is in
      let follows = before-transitive k n x (each_found (IsNodeBefore k) (m ∷ rest) pred n rising.0 there) before in
      rw apart.0 (
        each_linked (IsNodeBefore k) (m ∷ rest) pred x follows rising.0,
        rising_linked (m ∷ rest) pred n x rising.1 there before (λ l behind. next l (rw apart.0 behind)),
      )
]

-- If a node is linked at a place where `IsVacant` holds for its sort key, the nodes stay in order.
pub rising_vacant : (nodes : List NodeAt) (pred : ℕ) (x : NodeAt) → IsRising nodes → IsVacant nodes pred x.at → IsRising (linked_after nodes pred x)
rising_vacant nodes pred x rising vacant = rising_linked nodes pred vacant.node x rising vacant.is vacant.below vacant.above

pub rising_unlinked : (nodes : List NodeAt) (pred : ℕ) → IsRising nodes → IsRising (unlinked_after nodes pred)
unfolding IsRising unlinked_after
rising_unlinked [] pred rising = tt
rising_unlinked (n ∷ []) pred rising = elim (eqb_tells n.place pred) [
  | inl here ↦ rw here.0 rising
  | inr apart ↦ rw apart.0 rising
]
rising_unlinked (n ∷ (m ∷ rest)) pred rising = elim (eqb_tells n.place pred) [
  | inl here ↦ rw here.0 (rising.0.1, rising.1.1)
  | inr apart ↦ rw apart.0 (each_unlinked (IsNodeBefore n) (m ∷ rest) pred rising.0, rising_unlinked (m ∷ rest) pred rising.1)
]

pub rising_changed : (nodes : List NodeAt) (place : ℕ) (change : NodeAt → NodeAt) → ((n : NodeAt) → IsSameNode n (change n)) → IsRising nodes → IsRising (changed_at nodes place change)
unfolding IsRising changed_at
rising_changed [] place change same rising = tt
rising_changed (n ∷ rest) place change same rising = elim (eqb_tells n.place place) [
  | inl here ↦
      let before : (m : NodeAt) → IsNodeBefore n m → IsNodeBefore (change n) m = λ m. before-same n m (change n) m (same n).at refl in
      rw here.0 (each_map (IsNodeBefore n) (IsNodeBefore (change n)) rest before rising.0, rising.1)
  | inr apart ↦
      let before : (m : NodeAt) → node_of rest place ≡ Some m → IsNodeBefore n m → IsNodeBefore n (change m) = λ m is. before-same n m n (change m) refl (same m).at in
      rw apart.0 (each_changed (IsNodeBefore n) rest place change before rising.0, rising_changed rest place change same rising.1)
]
