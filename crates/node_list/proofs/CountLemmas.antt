-- The number of nodes that pass a test.
use Rattle.std.proofs.Common.{◌≡◌, ℕ, ◌+◌, ◌≤◌, ◌↔◌, inl, inr, List, [], ◌∷◌, Some, Bool, true, false, length, refl, sym, ap, arith, cond, ◌&&◌, not}
use Rattle.std.proofs.lemmas.Bool.Decides.{eqb_tells}
use Rattle.std.specs.List.{AllByRecursion}
use Rattle.node_list.specs.declared.node.Kind.{Kind}
use Rattle.node_list.specs.declared.node.Kind.TheVariants.{Dummy, Regular}
use Rattle.node_list.specs.Nodes.{NodeAt, node_of, next_of, IsLinked, linked_after, unlinked_after, changed_at, count_where, is_live, is_regular, live_count, marked_count}
use Rattle.node_list.proofs.OrderLemmas.{some-none, some-injective}

-- The count of one node: 1 if it passes the test, else 0.
abbrev pub gain : (NodeAt → Bool) → NodeAt → ℕ
gain test n = cond (test n) 1 0

pub count-linked : (test : NodeAt → Bool) (nodes : List NodeAt) (pred : ℕ) (x : NodeAt) → IsLinked nodes pred → count_where test (linked_after nodes pred x) ≡ count_where test nodes + gain test x
unfolding IsLinked linked_after count_where
count-linked test [] pred x is = absurd is
count-linked test (n ∷ rest) pred x is = elim (eqb_tells n.place pred) [
  | inl here ↦ rw here.0 (omega arith)
  | inr apart ↦
      let later = count-linked test rest pred x (elim is [ inl first ↦ absurd (apart.1 first) | inr more ↦ more ]) in
      rw apart.0 (omega (arith, later))
]

pub count-unlinked : (test : NodeAt → Bool) (nodes : List NodeAt) (pred : ℕ) (m : NodeAt) → next_of nodes pred ≡ Some m → count_where test (unlinked_after nodes pred) + gain test m ≡ count_where test nodes
unfolding next_of unlinked_after count_where
count-unlinked test [] pred m is = absurd (some-none (sym is))
count-unlinked test (n ∷ []) pred m is = elim (eqb_tells n.place pred) [
  | inl here ↦ absurd (some-none (sym (rw here.0 at is)))
  | inr apart ↦ absurd (some-none (sym (rw apart.0 at is)))
]
count-unlinked test (n ∷ (k ∷ rest)) pred m is = elim (eqb_tells n.place pred) [
  | inl here ↦
      let same : gain test k ≡ gain test m = ap (gain test) (some-injective (rw here.0 at is)) in
      rw here.0 (omega (arith, same))
  | inr apart ↦
      let later = count-unlinked test (k ∷ rest) pred m (rw apart.0 at is) in
      rw apart.0 (omega (arith, later))
]

-- If a node is unlinked, the list has one node less.
pub length-unlinked : (nodes : List NodeAt) (pred : ℕ) (m : NodeAt) → next_of nodes pred ≡ Some m → length (unlinked_after nodes pred) + 1 ≡ length nodes
unfolding next_of unlinked_after
length-unlinked [] pred m is = absurd (some-none (sym is))
length-unlinked (n ∷ []) pred m is = elim (eqb_tells n.place pred) [
  | inl here ↦ absurd (some-none (sym (rw here.0 at is)))
  | inr apart ↦ absurd (some-none (sym (rw apart.0 at is)))
]
length-unlinked (n ∷ (k ∷ rest)) pred m is = elim (eqb_tells n.place pred) [
  | inl here ↦ rw here.0 (omega arith)
  | inr apart ↦
      let later = length-unlinked (k ∷ rest) pred m (rw apart.0 at is) in
      rw apart.0 (omega (arith, later))
]

pub count-changed : (test : NodeAt → Bool) (nodes : List NodeAt) (place : ℕ) (change : NodeAt → NodeAt) (n : NodeAt) → node_of nodes place ≡ Some n → count_where test (changed_at nodes place change) + gain test n ≡ count_where test nodes + gain test (change n)
unfolding node_of changed_at count_where
count-changed test [] place change n is = absurd (some-none (sym is))
count-changed test (m ∷ rest) place change n is = elim (eqb_tells m.place place) [
  | inl here ↦
      let same : m ≡ n = some-injective (rw here.0 at is) in
      let first : gain test m ≡ gain test n = ap (gain test) same in
      let second : gain test (change m) ≡ gain test (change n) = ap (λ v. gain test (change v)) same in
      rw here.0 (omega (arith, first, second))
  | inr apart ↦
      let later = count-changed test rest place change n (rw apart.0 at is) in
      rw apart.0 (omega (arith, later))
]

-- A marked node adds nothing to the count of live nodes.
pub live-marked : (n : NodeAt) → n.marked ≡ true → gain is_live n ≡ 0
live-marked n marked = go n.kind
  where
    go : (k : Kind) → cond {A = ℕ} (is_live (record n { kind = k })) 1 0 ≡ 0
    go Dummy = refl
    go Regular = rw marked refl

-- An unmarked regular node adds one to the count of live nodes.
pub live-regular : (n : NodeAt) → n.kind ≡ Regular → n.marked ≡ false → gain is_live n ≡ 1
live-regular n regular unmarked = rw (regular, unmarked) refl

-- A new node adds one to the count of live nodes if it is regular, and nothing if it is a dummy.
pub live-fresh : (k : Kind) → cond {A = ℕ} (is_regular k) 1 0 ≡ cond {A = ℕ} (is_regular k && not false) 1 0
live-fresh Dummy = refl
live-fresh Regular = refl

gains : (k : Kind) (marked : Bool) → cond {A = ℕ} (is_regular k && not marked) 1 0 + cond {A = ℕ} marked 1 0 ≤ 1
gains Dummy true = omega arith
gains Dummy false = omega arith
gains Regular true = omega arith
gains Regular false = omega arith

-- No node counts both as live and as marked. So the two counts together are at most the number of
-- nodes.
pub counts_fit : (nodes : List NodeAt) → live_count nodes + marked_count nodes ≤ length nodes
unfolding count_where
counts_fit [] = omega arith
counts_fit (n ∷ rest) = omega (arith, counts_fit rest, gains n.kind n.marked)

unmarked : (b : Bool) → cond {A = ℕ} b 1 0 ≡ 0 → b ≡ false
unmarked true none = absurd (omega arith)
unmarked false none = refl

all_unmarked : (nodes : List NodeAt) → marked_count nodes ≡ 0 → AllByRecursion (λ n. n.marked ≡ false) nodes
unfolding count_where
all_unmarked [] none = tt
all_unmarked (n ∷ rest) none = (unmarked n.marked (omega arith), all_unmarked rest (omega arith))

none_marked : (nodes : List NodeAt) → AllByRecursion (λ n. n.marked ≡ false) nodes → marked_count nodes ≡ 0
unfolding count_where
none_marked [] each = refl
none_marked (n ∷ rest) each =
    let here : cond {A = ℕ} n.marked 1 0 ≡ 0 = rw each.0 refl in
    omega (arith, here, none_marked rest each.1)

pub marked_count-zero : (nodes : List NodeAt) → (marked_count nodes ≡ 0) ↔ AllByRecursion (λ n. n.marked ≡ false) nodes
marked_count-zero nodes = (all_unmarked nodes, none_marked nodes)
