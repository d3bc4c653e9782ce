-- Shows what the functions of a list give at a place, because the list splits into the nodes before
-- the place, the node there and the nodes after it.
use Rattle.std.proofs.Common.{◌≡◌, ◌≢◌, ℕ, inl, inr, List, [], ◌∷◌, ◌++◌, Option, Some, None, refl, sym, ◌∙◌, ap, subst, append_assoc}
use Rattle.std.proofs.lemmas.Bool.Decides.{eqb_tells}
use Rattle.node_list.specs.Nodes.{NodeAt, IsLinked, node_of, next_of, first, without_first, place_of, linked_after, unlinked_after, changed_at}
use Rattle.node_list.specs.Order.{AbsentFrom, IsSpread}
use Rattle.node_list.proofs.OrderLemmas.{some-injective, some-none}
use Rattle.node_list.proofs.NodesLemmas.{found_linked, next_found}
use Rattle.split_key.proofs.SortLemmas.{apart_test, same_test}

-- The node at the place, with the nodes before it and after it.
pub record IsAt (nodes : List NodeAt) (place : ℕ) (n : NodeAt) : Type 0 where
  pub front : List NodeAt
  pub rest : List NodeAt
  pub is : nodes ≡ front ++ n ∷ rest
  pub absent : AbsentFrom place front
  pub here : n.place ≡ place

-- If `node_of` finds a node, the list can be split at that node (`IsAt`).
pub found_at : (nodes : List NodeAt) (place : ℕ) (n : NodeAt) → node_of nodes place ≡ Some n → IsAt nodes place n
unfolding node_of
found_at [] place n is = absurd (some-none (sym is))
found_at (m ∷ rest) place n is = elim (eqb_tells m.place place) [
  | inl here ↦
      let same : m ≡ n = some-injective (rw here.0 at is) in
      record {
        front = [];
        rest = rest;
        is = ap (λ k. k ∷ rest) same;
        absent = tt;
        here = sym (ap (λ (v : NodeAt). v.place) same) ∙ here.1;
      }
  | inr apart ↦
      let later = found_at rest place n (rw apart.0 at is) in
      record {
        front = m ∷ later.front;
        rest = later.rest;
        is = ap (λ ns. m ∷ ns) later.is;
        absent = (apart.1, later.absent);
        here = later.here;
      }
]

-- The results of functions on a list that is split at the place.
module _ (place : ℕ) (n : NodeAt) (rest : List NodeAt) (here : n.place ≡ place) where
  node_of-append : (front : List NodeAt) → AbsentFrom place front → node_of (front ++ n ∷ rest) place ≡ Some n
  unfolding node_of
  node_of-append [] absent = rw (same_test n.place place here) refl
  node_of-append (m ∷ front) absent = rw (apart_test m.place place absent.0) (node_of-append front absent.1)

  next_of-append : (front : List NodeAt) → AbsentFrom place front → next_of (front ++ n ∷ rest) place ≡ first rest
  unfolding next_of
  next_of-append [] absent = rw (same_test n.place place here) refl
  next_of-append (m ∷ front) absent = rw (apart_test m.place place absent.0) (next_of-append front absent.1)

  linked_after-append : (x : NodeAt) (front : List NodeAt) → AbsentFrom place front → linked_after (front ++ n ∷ rest) place x ≡ front ++ n ∷ (x ∷ rest)
  unfolding linked_after
  linked_after-append x [] absent = rw (same_test n.place place here) refl
  linked_after-append x (m ∷ front) absent = rw (apart_test m.place place absent.0) (ap (λ ns. m ∷ ns) (linked_after-append x front absent.1))

  unlinked_after-append : (front : List NodeAt) → AbsentFrom place front → unlinked_after (front ++ n ∷ rest) place ≡ front ++ n ∷ without_first rest
  unfolding unlinked_after
  unlinked_after-append [] absent = rw (same_test n.place place here) refl
  unlinked_after-append (m ∷ front) absent = rw (apart_test m.place place absent.0) (ap (λ ns. m ∷ ns) (unlinked_after-append front absent.1))

  changed_at-append : (change : NodeAt → NodeAt) (front : List NodeAt) → AbsentFrom place front → changed_at (front ++ n ∷ rest) place change ≡ front ++ change n ∷ rest
  unfolding changed_at
  changed_at-append change [] absent = rw (same_test n.place place here) refl
  changed_at-append change (m ∷ front) absent = rw (apart_test m.place place absent.0) (ap (λ ns. m ∷ ns) (changed_at-append change front absent.1))

  linked-append : (front : List NodeAt) → IsLinked (front ++ n ∷ rest) place
  unfolding IsLinked
  linked-append [] = inl here
  linked-append (m ∷ front) = inr (linked-append front)

apart_append : (place : ℕ) (front : List NodeAt) (m : NodeAt) (rest : List NodeAt) → AbsentFrom place (front ++ m ∷ rest) → m.place ≢ place
apart_append place [] m rest absent = absent.0
apart_append place (k ∷ front) m rest absent = apart_append place front m rest absent.1

pub absent_front : (front : List NodeAt) (m : NodeAt) (rest : List NodeAt) → IsSpread (front ++ m ∷ rest) → AbsentFrom m.place front
unfolding IsSpread
absent_front [] m rest spread = tt
absent_front (k ∷ front) m rest spread =
    ((λ same. apart_append k.place front m rest spread.0 (sym same)), absent_front front m rest spread.1)

pub first_is : (nodes : List NodeAt) (m : NodeAt) → first nodes ≡ Some m → nodes ≡ m ∷ without_first nodes
first_is [] m is = absurd (some-none (sym is))
first_is (k ∷ rest) m is = ap (λ n. n ∷ rest) (some-injective is)

pub first_none : (nodes : List NodeAt) → first nodes ≡ None → nodes ≡ []
first_none [] is = refl
first_none (k ∷ rest) is = absurd (some-none is)

module _ (nodes : List NodeAt) (place : ℕ) (n : NodeAt) (at : IsAt nodes place n) where
  pub node_at : node_of nodes place ≡ Some n
  node_at = ap (λ ns. node_of ns place) at.is ∙ node_of-append place n at.rest at.here at.front at.absent

  pub next_at : next_of nodes place ≡ first at.rest
  next_at = ap (λ ns. next_of ns place) at.is ∙ next_of-append place n at.rest at.here at.front at.absent

  pub linked_at : (x : NodeAt) → linked_after nodes place x ≡ at.front ++ n ∷ (x ∷ at.rest)
  linked_at x = ap (λ ns. linked_after ns place x) at.is ∙ linked_after-append place n at.rest at.here x at.front at.absent

  pub unlinked_at : unlinked_after nodes place ≡ at.front ++ n ∷ without_first at.rest
  unlinked_at = ap (λ ns. unlinked_after ns place) at.is ∙ unlinked_after-append place n at.rest at.here at.front at.absent

  pub changed_is : (change : NodeAt → NodeAt) → changed_at nodes place change ≡ at.front ++ change n ∷ at.rest
  changed_is change = ap (λ ns. changed_at ns place change) at.is ∙ changed_at-append place n at.rest at.here change at.front at.absent

  pub is_linked : IsLinked nodes place
  is_linked = let P : List NodeAt → Type 0 = λ ns. IsLinked ns place in
      subst P (sym at.is) (linked-append place n at.rest at.here at.front)

  -- If the node after `n` is unlinked, the list can still be split at `n` (`IsAt`).
  abbrev pub at_unlinked : IsAt (unlinked_after nodes place) place n
  at_unlinked = record { front = at.front; rest = without_first at.rest; is = unlinked_at; absent = at.absent; here = at.here }

  -- The list can be split at the node after `n` (`IsAt`).
  abbrev pub at_next : (m : NodeAt) → IsSpread nodes → first at.rest ≡ Some m → IsAt nodes m.place m
  at_next m spread is =
      let rest_is : at.rest ≡ m ∷ without_first at.rest = first_is at.rest m is in
      let apart : nodes ≡ (at.front ++ n ∷ []) ++ m ∷ without_first at.rest =
      at.is ∙ ap (λ ns. at.front ++ n ∷ ns) rest_is ∙ sym (append_assoc at.front (n ∷ []) (m ∷ without_first at.rest)) in
      let P : List NodeAt → Type 0 = IsSpread in
      record {
        front = at.front ++ n ∷ [];
        rest = without_first at.rest;
        is = apart;
        absent = absent_front (at.front ++ n ∷ []) m (without_first at.rest) (subst P apart spread);
        here = refl;
      }

some_place : (o : Option NodeAt) (place : ℕ) → place_of o ≡ Some place → (m : NodeAt) × (o ≡ Some m) × (m.place ≡ place)
some_place None place is = absurd (some-none (sym is))
some_place (Some m) place is = (m, refl, some-injective is)

-- If `place_of` returns `None` for an optional node, there is no node.
pub no_place : (o : Option NodeAt) → place_of o ≡ None → o ≡ None
no_place None is = refl
no_place (Some n) is = absurd (some-none is)

module _ (nodes : List NodeAt) (place next : ℕ) (spread : IsSpread nodes) (is : place_of (next_of nodes place) ≡ Some next) where
  pub next_linked : IsLinked nodes next
  next_linked =
      let there = some_place (next_of nodes place) next is in
      let P : ℕ → Type 0 = λ p. IsLinked nodes p in
      subst P there.2 (found_linked nodes there.0.place there.0 (next_found nodes place there.0 spread there.1))

  pub next_node : (m : NodeAt) → node_of nodes next ≡ Some m → next_of nodes place ≡ Some m
  next_node m found =
      let there = some_place (next_of nodes place) next is in
      let same : Some there.0 ≡ Some m =
      sym (next_found nodes place there.0 spread there.1) ∙ ap (λ p. node_of nodes p) there.2 ∙ found in
      there.1 ∙ same

-- If there is a node after a place, a node is linked at this place.
pub next_from : (nodes : List NodeAt) (place : ℕ) (m : NodeAt) → next_of nodes place ≡ Some m → (n : NodeAt) × (node_of nodes place ≡ Some n)
unfolding next_of node_of
next_from [] place m is = absurd (some-none (sym is))
next_from (n ∷ rest) place m is = elim (eqb_tells n.place place) [
  | inl here ↦ (n, rw here.0 refl)
  | inr apart ↦ let later = next_from rest place m (rw apart.0 at is) in (later.0, rw apart.0 later.1)
]
