-- Which nodes are linked, and which are found, in a list of nodes.
use Rattle.std.proofs.Common.{◌≡◌, ◌≢◌, ℕ, inl, inr, List, [], ◌∷◌, Option, Some, None, true, refl, sym, ◌∙◌, ap, is_some}
use Rattle.std.proofs.lemmas.Bool.Decides.{eqb_tells}
use Rattle.split_key.specs.declared.sort.SortKey.{SortKey}
use Rattle.node_list.specs.declared.node.Kind.{Kind}
use Rattle.node_list.specs.declared.node.Kind.TheVariants.{Dummy}
use Rattle.node_list.specs.Nodes.{NodeAt, SpareAt, filled, first_dummy, unfilled, node_of, next_of, first, without_first, place_of, IsLinked}
use Rattle.node_list.specs.Order.{AbsentFrom, IsSpread, IsVacant}
use Rattle.node_list.specs.Follow.{IsSameNode}
use Rattle.node_list.proofs.OrderLemmas.{some-injective, some-none}

-- If the node of a spare is the dummy of bucket 0, the spare equals `unfilled` of its place and
-- stamp.
pub unfilled_is : (s : SpareAt) → filled s ≡ first_dummy s.place s.stamp → unfilled s.place s.stamp ≡ s
unfilled_is s is =
    let with : SortKey → Kind → ℕ → SpareAt = λ at kind value. record { place = s.place; stamp = s.stamp; at = at; kind = kind; value = value } in
    ap (λ (at : SortKey). with at Dummy 0) (sym (ap (λ (n : NodeAt). n.at) is))
    ∙ ap (λ (kind : Kind). with s.at kind 0) (sym (ap (λ (n : NodeAt). n.kind) is))
    ∙ ap (λ (value : ℕ). with s.at s.kind value) (sym (ap (λ (n : NodeAt). n.value) is))

pub same_node : (n : NodeAt) → IsSameNode n n
same_node n = record { place = refl; at = refl; kind = refl; stamp = refl }

pub same_after : (n m k : NodeAt) → IsSameNode n m → IsSameNode m k → IsSameNode n k
same_after n m k first second = record {
  place = first.place ∙ second.place;
  at = first.at ∙ second.at;
  kind = first.kind ∙ second.kind;
  stamp = first.stamp ∙ second.stamp;
}

pub some_place : (o : Option NodeAt) → is_some o ≡ true → (place : ℕ) × (place_of o ≡ Some place)
some_place None is = cc
some_place (Some n) is = (n.place, refl)

-- If no node is at the place `p` and a node is at the place `q`, the two places differ.
pub absent_linked : (nodes : List NodeAt) (p q : ℕ) → AbsentFrom p nodes → IsLinked nodes q → p ≢ q
unfolding IsLinked
absent_linked [] p q absent is same = absurd is
absent_linked (n ∷ rest) p q absent (inl here) same = absent.0 (here ∙ sym same)
absent_linked (n ∷ rest) p q absent (inr later) same = absent_linked rest p q absent.1 later same

pub first_is_linked : (nodes : List NodeAt) (place : ℕ) → place_of (first nodes) ≡ Some place → IsLinked nodes place
unfolding IsLinked
first_is_linked [] place is = absurd (some-none (sym is))
first_is_linked (n ∷ rest) place is = inl (some-injective is)

pub linked_more : (nodes : List NodeAt) (place : ℕ) → IsLinked (without_first nodes) place → IsLinked nodes place
unfolding IsLinked
linked_more [] place is = is
linked_more (n ∷ rest) place is = inr is

-- If the node at a place has a next node, both nodes are linked.
pub next_linked : (nodes : List NodeAt) (pred place : ℕ) → place_of (next_of nodes pred) ≡ Some place → IsLinked nodes pred × IsLinked (without_first nodes) place
unfolding IsLinked next_of
next_linked [] pred place is = absurd (some-none (sym is))
next_linked (n ∷ rest) pred place is = elim (eqb_tells n.place pred) [
  | inl here ↦ (inl here.1, first_is_linked rest place (rw here.0 at is))
  | inr apart ↦
      let later = next_linked rest pred place (rw apart.0 at is) in
      (inr later.0, linked_more rest place later.1)
]

-- If `node_of` finds a node at a place, the place is linked and is the node's own place.
pub found_linked : (nodes : List NodeAt) (place : ℕ) (n : NodeAt) → node_of nodes place ≡ Some n → IsLinked nodes place
unfolding node_of IsLinked
found_linked [] place n is = absurd (some-none (sym is))
found_linked (m ∷ rest) place n is = elim (eqb_tells m.place place) [
  | inl here ↦ inl here.1
  | inr apart ↦ inr (found_linked rest place n (rw apart.0 at is))
]

-- If `IsVacant` holds for a place and a sort key, the list has a node at that place.
pub vacant_linked : (nodes : List NodeAt) (pred : ℕ) (sort : SortKey) → IsVacant nodes pred sort → IsLinked nodes pred
vacant_linked nodes pred sort vacant = found_linked nodes pred vacant.node vacant.is

pub place-found : (nodes : List NodeAt) (place : ℕ) (n : NodeAt) → node_of nodes place ≡ Some n → n.place ≡ place
unfolding node_of
place-found [] place n is = absurd (some-none (sym is))
place-found (m ∷ rest) place n is = elim (eqb_tells m.place place) [
  | inl here ↦ sym (ap (λ (v : NodeAt). v.place) (some-injective (rw here.0 at is))) ∙ here.1
  | inr apart ↦ place-found rest place n (rw apart.0 at is)
]

-- If a place is linked, `node_of` finds a node there.
pub linked_found : (nodes : List NodeAt) (place : ℕ) → IsLinked nodes place → (n : NodeAt) × (node_of nodes place ≡ Some n)
unfolding node_of IsLinked
linked_found [] place is = absurd is
linked_found (n ∷ rest) place is = elim (eqb_tells n.place place) [
  | inl here ↦ (n, rw here.0 refl)
  | inr apart ↦
      let later = linked_found rest place (elim is [ inl first ↦ absurd (apart.1 first) | inr more ↦ more ]) in
      (later.0, rw apart.0 later.1)
]

-- If a place is not linked, `node_of` finds no node there.
pub none_found : (nodes : List NodeAt) (place : ℕ) → (IsLinked nodes place → ⊥) → node_of nodes place ≡ None
unfolding IsLinked node_of
none_found [] place not_linked = refl
none_found (n ∷ rest) place not_linked = elim (eqb_tells n.place place) [
  | inl here ↦ absurd (not_linked (inl here.1))
  | inr apart ↦ rw apart.0 (none_found rest place (λ later. not_linked (inr later)))
]

-- `node_of` finds the first node at its own place.
pub first_found : (nodes : List NodeAt) (n : NodeAt) → first nodes ≡ Some n → node_of nodes n.place ≡ Some n
unfolding node_of
first_found [] n is = absurd (some-none (sym is))
first_found (m ∷ rest) n is = elim (eqb_tells m.place n.place) [
  | inl here ↦ rw here.0 is
  | inr apart ↦ absurd (apart.1 (ap (λ (v : NodeAt). v.place) (some-injective is)))
]

-- `node_of` finds the next node at its own place.
pub next_found : (nodes : List NodeAt) (pred : ℕ) (m : NodeAt) → IsSpread nodes → next_of nodes pred ≡ Some m → node_of nodes m.place ≡ Some m
unfolding next_of node_of IsSpread IsLinked
next_found [] pred m apart is = absurd (some-none (sym is))
next_found (n ∷ rest) pred m apart is = elim (eqb_tells n.place pred) [
  | inl here ↦
      let later : first rest ≡ Some m = rw here.0 at is in
      behind later (first_found rest m later)
  | inr further ↦
      let later : next_of rest pred ≡ Some m = rw further.0 at is in
      deeper (next_found rest pred m apart.1 later)
]
  where
    deeper : node_of rest m.place ≡ Some m → node_of (n ∷ rest) m.place ≡ Some m
    deeper there = elim (eqb_tells n.place m.place) [
      | inl same ↦ absurd (absent_linked rest n.place m.place apart.0 (found_linked rest m.place m there) same.1)
      | inr differs ↦ rw differs.0 there
    ]

    behind : first rest ≡ Some m → node_of rest m.place ≡ Some m → node_of (n ∷ rest) m.place ≡ Some m
    behind is_first there = deeper there

-- If the node right after `pred` is at `place`, and `node_of` finds `n` at `place`, then `n` is the
-- node right after `pred`.
pub next-found : (nodes : List NodeAt) (pred place : ℕ) (n : NodeAt) → IsSpread nodes → place_of (next_of nodes pred) ≡ Some place → node_of nodes place ≡ Some n → next_of nodes pred ≡ Some n
next-found nodes pred place n apart next is = go (next_of nodes pred) refl next
  where
    go : (behind : Option NodeAt) → next_of nodes pred ≡ behind → place_of behind ≡ Some place → next_of nodes pred ≡ Some n
    go None same there = absurd (some-none (sym there))
    go (Some m) same there = same ∙ sym (next_found nodes pred m apart same) ∙ ap (node_of nodes) (some-injective there) ∙ is

-- In a list of one node, no node has a next node.
pub next_of-single : (n : NodeAt) (place : ℕ) → next_of (n ∷ []) place ≡ None
unfolding next_of
next_of-single n place = elim (eqb_tells n.place place) [ inl here ↦ rw here.0 refl | inr apart ↦ rw apart.0 refl ]
