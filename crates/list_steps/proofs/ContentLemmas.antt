-- Shows what each step does to the content, because replacing a stretch of nodes replaces the pairs
-- of this stretch, and a marked node has no pair.
use Rattle.std.proofs.Common.{◌≡◌, ℕ, inl, inr, List, [], ◌∷◌, ◌++◌, Bool, true, false, Some, arith, subst, refl, sym, ◌∙◌, ap, append_assoc}
use Rattle.split_key.specs.declared.sort.SortKey.{SortKey}
use Rattle.split_key.proofs.SortLemmas.{cases_before}
use Rattle.std.specs.Prelude.{Contains}
use Rattle.std.specs.List.{AllByRecursion}
use Rattle.std.proofs.lemmas.List.Elements.{Contains-append_right}
use Rattle.node_list.specs.declared.node.Kind.{Kind}
use Rattle.node_list.specs.declared.node.Kind.TheVariants.{Dummy, Regular}
use Rattle.node_list.specs.Nodes.{NodeAt, IsBeforeMarked, linked_after, marked_at, written_at, unlinked_after, changed_at, node_of, without_first}
use Rattle.list_steps.specs.Content.{pair_if, pair_of, pairs, Replaces}
use Rattle.list_steps.specs.Seek.{IsStart, cleaned, sought}
use Rattle.list_steps.proofs.NodeLemmas.{IsAt, found_at, next_from, linked_at, changed_is, unlinked_at, next_at, first_is}
use Rattle.list_steps.proofs.SeekLemmas.{cleaned_marked, cleaned_passed, cleaned_stopped, sought_at}

append_nil : (xs : List (ℕ × ℕ)) → xs ++ [] ≡ xs
append_nil [] = refl
append_nil (x ∷ xs) = ap (λ ys. x ∷ ys) (append_nil xs)

pub pairs-append : (front rest : List NodeAt) → pairs (front ++ rest) ≡ pairs front ++ pairs rest
unfolding pairs
pairs-append [] rest = refl
pairs-append (n ∷ front) rest = ap (λ ps. pair_of n ++ ps) (pairs-append front rest) ∙ sym (append_assoc (pair_of n) (pairs front) (pairs rest))

no_pair : (k : Kind) (key value : ℕ) → pair_if k true key value ≡ []
no_pair Dummy key value = refl
no_pair Regular key value = refl

-- A marked node adds no pair to the content.
pub pair_marked : (n : NodeAt) → n.marked ≡ true → pair_of n ≡ []
pair_marked n marked = ap (λ b. pair_if n.kind b n.at.key n.value) marked ∙ no_pair n.kind n.at.key n.value

-- A regular, unmarked node adds its key and its value to the content.
pub pair_regular : (n : NodeAt) → n.kind ≡ Regular → n.marked ≡ false → pair_of n ≡ (n.at.key, n.value) ∷ []
pair_regular n regular unmarked = rw (regular, unmarked) refl

pairs_one : (n : NodeAt) → pairs (n ∷ []) ≡ pair_of n
unfolding pairs
pairs_one n = append_nil (pair_of n)

pub pairs_none : pairs [] ≡ []
unfolding pairs
pairs_none = refl

pairs_cons : (n : NodeAt) (rest : List NodeAt) → pairs (n ∷ rest) ≡ pair_of n ++ pairs rest
unfolding pairs
pairs_cons n rest = refl

-- If two lists begin with the same nodes, and their other nodes have the same content, the lists
-- have the same content.
pairs_same_rest : (front : List NodeAt) (n : NodeAt) (rest other : List NodeAt) → pairs rest ≡ pairs other → pairs (front ++ n ∷ rest) ≡ pairs (front ++ n ∷ other)
pairs_same_rest front n rest other same =
    pairs-append front (n ∷ rest)
    ∙ ap (λ ps. pairs front ++ ps) (pairs_cons n rest ∙ ap (λ ps. pair_of n ++ ps) same ∙ sym (pairs_cons n other))
    ∙ sym (pairs-append front (n ∷ other))

-- If a stretch of nodes is replaced, the pairs of this stretch are replaced in the content, and all
-- other pairs are unchanged.
pub replaced : (front was now rest : List NodeAt) → Replaces (pairs (front ++ (was ++ rest))) (pairs (front ++ (now ++ rest))) (pairs was) (pairs now)
replaced front was now rest = record {
  before = pairs front;
  after = pairs rest;
  old_is = pairs-append front (was ++ rest) ∙ ap (λ ps. pairs front ++ ps) (pairs-append was rest);
  new_is = pairs-append front (now ++ rest) ∙ ap (λ ps. pairs front ++ ps) (pairs-append now rest);
}

replaces_same : (old new old' new' was now was' now' : List (ℕ × ℕ)) → old ≡ old' → new ≡ new' → was ≡ was' → now ≡ now' → Replaces old new was now → Replaces old' new' was' now'
replaces_same old new old' new' was now was' now' olds news wass nows replaces = record {
  before = replaces.before;
  after = replaces.after;
  old_is = sym olds ∙ replaces.old_is ∙ ap (λ ps. replaces.before ++ (ps ++ replaces.after)) wass;
  new_is = sym news ∙ replaces.new_is ∙ ap (λ ps. replaces.before ++ (ps ++ replaces.after)) nows;
}

module _ (nodes : List NodeAt) (place : ℕ) (n : NodeAt) (is : node_of nodes place ≡ Some n) where
  at : IsAt nodes place n
  at = found_at nodes place n is

  -- Linking a node adds the node's pair to the content, if the node has one.
  pub pairs_linked : (x : NodeAt) → Replaces (pairs nodes) (pairs (linked_after nodes place x)) [] (pair_of x)
  pairs_linked x = replaces_same _ _ _ _ _ _ _ _
      (ap pairs (append_assoc at.front (n ∷ []) at.rest ∙ sym at.is))
      (ap pairs (append_assoc at.front (n ∷ []) (x ∷ at.rest) ∙ sym (linked_at nodes place n at x)))
      pairs_none (pairs_one x)
      (replaced (at.front ++ n ∷ []) [] (x ∷ []) at.rest)

  changed : (change : NodeAt → NodeAt) → Replaces (pairs nodes) (pairs (changed_at nodes place change)) (pair_of n) (pair_of (change n))
  changed change = replaces_same _ _ _ _ _ _ _ _
      (ap pairs (sym at.is))
      (ap pairs (sym (changed_is nodes place n at change)))
      (pairs_one n) (pairs_one (change n))
      (replaced at.front (n ∷ []) (change n ∷ []) at.rest)

  module _ (regular : n.kind ≡ Regular) (unmarked : n.marked ≡ false) where
    -- If a regular node is marked, its pair is removed from the content.
    pub pairs_marked : Replaces (pairs nodes) (pairs (marked_at nodes place)) ((n.at.key, n.value) ∷ []) []
    pairs_marked = replaces_same _ _ _ _ _ _ _ _ refl refl
        (pair_regular n regular unmarked) (pair_marked (record n { marked = true }) refl)
        (changed (λ k. record k { marked = true }))

    -- If a value is written to a regular node, only the value in this node's pair changes.
    pub pairs_written : (value : ℕ) → Replaces (pairs nodes) (pairs (written_at nodes place value)) ((n.at.key, n.value) ∷ []) ((n.at.key, value) ∷ [])
    pairs_written value = replaces_same _ _ _ _ _ _ _ _ refl refl
        (pair_regular n regular unmarked) (pair_regular (record n { value = value }) regular unmarked)
        (changed (λ k. record k { value = value }))

    -- The pair of a regular, unmarked node is in the content.
    pub pairs_contain : Contains (pairs nodes) (n.at.key, n.value)
    pairs_contain =
        let parts : pairs nodes ≡ pairs at.front ++ ((n.at.key, n.value) ∷ pairs at.rest) =
        ap pairs at.is ∙ pairs-append at.front (n ∷ at.rest)
        ∙ ap (λ ps. pairs at.front ++ ps) (pairs_cons n at.rest ∙ ap (λ ps. ps ++ pairs at.rest) (pair_regular n regular unmarked)) in
        let P : List (ℕ × ℕ) → Type 0 = λ ps. Contains ps (n.at.key, n.value) in
        subst P (sym parts) (Contains-append_right (pairs at.front) ((n.at.key, n.value) ∷ pairs at.rest) (n.at.key, n.value) (0, omega arith, refl))

-- Unlinking one marked node leaves the content unchanged.
pub pairs_unlinked : (nodes : List NodeAt) (place : ℕ) → IsBeforeMarked nodes place → pairs (unlinked_after nodes place) ≡ pairs nodes
pairs_unlinked nodes place before =
    let found = next_from nodes place before.node before.next in
    let at = found_at nodes place found.0 found.1 in
    let rest_is = first_is at.rest before.node (sym (next_at nodes place found.0 at) ∙ before.next) in
    let keeps : pairs (without_first at.rest) ≡ pairs at.rest =
    sym (
    ap pairs rest_is ∙ pairs_cons before.node (without_first at.rest)
    ∙ ap (λ ps. ps ++ pairs (without_first at.rest)) (pair_marked before.node before.marked)
    ) in
    ap pairs (unlinked_at nodes place found.0 at) ∙ pairs_same_rest at.front found.0 (without_first at.rest) at.rest keeps ∙ sym (ap pairs at.is)

-- Unlinking marked nodes leaves the content unchanged.
pub pairs_cleaned : (sort : SortKey) (nodes : List NodeAt) → pairs (cleaned sort nodes) ≡ pairs nodes
unfolding cleaned
pairs_cleaned sort [] = refl
pairs_cleaned sort (n ∷ rest) = go n.marked refl (pairs_cleaned sort rest)
  where
    go : (b : Bool) → n.marked ≡ b → pairs (cleaned sort rest) ≡ pairs rest → pairs (cleaned sort (n ∷ rest)) ≡ pairs (n ∷ rest)
    go true marked later =
        ap pairs (cleaned_marked n rest sort marked) ∙ later
        ∙ sym (pairs_cons n rest ∙ ap (λ ps. ps ++ pairs rest) (pair_marked n marked))
    go false unmarked later = elim (cases_before n.at sort) [
      | inl less ↦
          ap pairs (cleaned_passed n rest sort unmarked less)
          ∙ pairs_cons n (cleaned sort rest) ∙ ap (λ ps. pair_of n ++ ps) later ∙ sym (pairs_cons n rest)
      | inr more ↦ ap pairs (cleaned_stopped n rest sort unmarked more)
    ]

pub pairs_sought : (nodes : List NodeAt) (from : ℕ) (sort : SortKey) → IsStart nodes from sort → pairs (sought nodes from sort) ≡ pairs nodes
pairs_sought nodes from sort start =
    let at = found_at nodes from start.node start.is in
    ap pairs (sought_at nodes from start.node at sort)
    ∙ pairs_same_rest at.front start.node (cleaned sort at.rest) at.rest (pairs_cleaned sort at.rest)
    ∙ sym (ap pairs at.is)

-- If `P` holds for each node, and `P` implies `Q` for the pair of each regular, unmarked node, then
-- `Q` holds for each pair.
pub each_pair : (P : NodeAt → Type 0) (Q : ℕ → ℕ → Type 0) → ((n : NodeAt) → n.kind ≡ Regular → n.marked ≡ false → P n → Q n.at.key n.value) → (nodes : List NodeAt) → AllByRecursion P nodes → AllByRecursion (λ pair. Q pair.0 pair.1) (pairs nodes)
unfolding pairs
each_pair P Q holds [] each = tt
each_pair P Q holds (n ∷ rest) each = go n.kind n.marked refl refl (each_pair P Q holds rest each.1)
  where
    go : (k : Kind) (b : Bool) → n.kind ≡ k → n.marked ≡ b → AllByRecursion (λ pair. Q pair.0 pair.1) (pairs rest) → AllByRecursion (λ pair. Q pair.0 pair.1) (pair_if k b n.at.key n.value ++ pairs rest)
    go Dummy b kind marked later = later
    go Regular true kind marked later = later
    go Regular false kind marked later = (holds n kind marked each.0, later)
