-- Shows that the loop of a seek has the result of `sought`, because from each node that it reaches
-- the rest of the seek has the same result (`IsSeeking`).
use Prim.Native.Nat.{suc}
use Rattle.std.proofs.Common.{◌≡◌, ℕ, ◌+◌, ◌-◌, ◌<◌, ◌≤◌, inl, inr, List, [], ◌∷◌, ◌++◌, Option, Some, None, Bool, true, false, length, refl, sym, ◌∙◌, ap, subst, arith, if◌then◌else◌, ◌==◌, append_assoc}
use Rattle.std.proofs.lemmas.Bool.Decides.{eqb_tells}
use Rattle.std.specs.List.{AllByRecursion}
use Rattle.split_key.specs.declared.sort.SortKey.{SortKey}
use Rattle.split_key.proofs.SortLemmas.{cases_before, same_test, apart_test}
use Rattle.node_list.specs.Nodes.{NodeAt, Listing, node_of, next_of, place_of, first, without_first, unlinked_after, one_more, changes_after}
use Rattle.node_list.specs.Order.{AbsentFrom, IsSpread}
use Rattle.node_list.specs.Follow.{Follows}
use Rattle.node_list.specs.declared.node.Kind.TheVariants.{Dummy}
use Rattle.node_list.specs.Sound.{AllPlain, IsSound}
use Rattle.node_list.proofs.OrderLemmas.{each_found}
use Rattle.list_steps.specs.Seek.{cleaned, sought, IsBelow, IsNotBelow, IsPred, IsStart, KeepsRest}
use Rattle.list_steps.proofs.NodeLemmas.{IsAt, found_at, node_at, next_at, at_unlinked, at_next, first_is, first_none, next_node}

-- The nodes after a place.
unfoldable pub nodes_behind : List NodeAt → ℕ → List NodeAt
nodes_behind [] place = []
nodes_behind (n ∷ rest) place = if n.place == place then rest else nodes_behind rest place

-- The seek has reached the node at `place`, which is before the position sought, and the place of
-- the next node is `after`. A seek that begins at this node of the list `now` has the same result
-- as the whole seek on the list `old`.
pub record IsSeeking (old now : Listing) (from place : ℕ) (after : Option ℕ) (sort : SortKey) : Type 0 where
  pub sound : IsSound now
  pub pred : IsPred now.nodes place sort
  pub next : place_of (next_of now.nodes place) ≡ after
  pub rest : sought now.nodes place sort ≡ sought old.nodes from sort
  pub kept : KeepsRest old now
  pub fewer : length now.nodes ≤ length old.nodes
  pub changes : now.changes ≡ changes_after old.changes (length old.nodes - length now.nodes)
  pub follows : Follows old now

pub seeking_next : {old now : Listing} {from place : ℕ} {after : Option ℕ} {sort : SortKey} → IsSeeking old now from place after sort → (there : ℕ) → after ≡ Some there → (m : NodeAt) → node_of now.nodes there ≡ Some m → next_of now.nodes place ≡ Some m
seeking_next {now = now} {place = place} seeking there is m found =
    next_node now.nodes place there seeking.sound.spread (seeking.next ∙ is) m found

-- The dummy at which a seek begins is unmarked, so it satisfies `IsPred`.
pub pred_from_start : (nodes : List NodeAt) (place : ℕ) (sort : SortKey) → IsStart nodes place sort → AllPlain nodes → IsPred nodes place sort
pred_from_start nodes place sort start plain = record {
  node = start.node;
  is = start.is;
  unmarked = each_found (λ n. n.kind ≡ Dummy → n.marked ≡ false) nodes place start.node plain start.is start.dummy;
  below = start.below;
}

pub cleaned_marked : (n : NodeAt) (rest : List NodeAt) (sort : SortKey) → n.marked ≡ true → cleaned sort (n ∷ rest) ≡ cleaned sort rest
unfolding cleaned
cleaned_marked n rest sort is = rw is refl

pub cleaned_passed : (n : NodeAt) (rest : List NodeAt) (sort : SortKey) → n.marked ≡ false → IsBelow n sort → cleaned sort (n ∷ rest) ≡ n ∷ cleaned sort rest
unfolding cleaned
cleaned_passed n rest sort is less = rw (is, less) refl

pub cleaned_stopped : (n : NodeAt) (rest : List NodeAt) (sort : SortKey) → n.marked ≡ false → IsNotBelow n sort → cleaned sort (n ∷ rest) ≡ n ∷ rest
unfolding cleaned
cleaned_stopped n rest sort is more = rw (is, more) refl

cleaned_nil : (sort : SortKey) → cleaned sort [] ≡ []
unfolding cleaned
cleaned_nil sort = refl

module _ (place : ℕ) (n : NodeAt) (rest : List NodeAt) (here : n.place ≡ place) where
  sought-append : (sort : SortKey) (front : List NodeAt) → AbsentFrom place front → sought (front ++ n ∷ rest) place sort ≡ front ++ n ∷ cleaned sort rest
  unfolding sought
  sought-append sort [] absent = rw (same_test n.place place here) refl
  sought-append sort (m ∷ front) absent = rw (apart_test m.place place absent.0) (ap (λ ns. m ∷ ns) (sought-append sort front absent.1))

  nodes_behind-append : (front : List NodeAt) → AbsentFrom place front → nodes_behind (front ++ n ∷ rest) place ≡ rest
  unfolding nodes_behind
  nodes_behind-append [] absent = rw (same_test n.place place here) refl
  nodes_behind-append (m ∷ front) absent = rw (apart_test m.place place absent.0) (nodes_behind-append front absent.1)

module _ (nodes : List NodeAt) (place : ℕ) (n : NodeAt) (at : IsAt nodes place n) where
  pub sought_at : (sort : SortKey) → sought nodes place sort ≡ at.front ++ n ∷ cleaned sort at.rest
  sought_at sort = ap (λ ns. sought ns place sort) at.is ∙ sought-append place n at.rest at.here sort at.front at.absent

  pub behind_at : nodes_behind nodes place ≡ at.rest
  behind_at = ap (λ ns. nodes_behind ns place) at.is ∙ nodes_behind-append place n at.rest at.here at.front at.absent

-- A seek that has reached a node before the position sought.
module _ (nodes : List NodeAt) (place : ℕ) (sort : SortKey) (pred : IsPred nodes place sort) where
  pred_at : IsAt nodes place pred.node
  pred_at = found_at nodes place pred.node pred.is

  first_rest : (o : Option NodeAt) → next_of nodes place ≡ o → first pred_at.rest ≡ o
  first_rest o is = sym (next_at nodes place pred.node pred_at) ∙ is

  -- If there is no next node, the seek ends and leaves the nodes unchanged.
  pub sought_at_end : next_of nodes place ≡ None → sought nodes place sort ≡ nodes
  sought_at_end is =
      sought_at nodes place pred.node pred_at sort
      ∙ ap (λ ns. pred_at.front ++ pred.node ∷ ns) (ap (cleaned sort) nothing ∙ cleaned_nil sort ∙ sym nothing)
      ∙ sym pred_at.is
    where
      nothing : pred_at.rest ≡ []
      nothing = first_none pred_at.rest (first_rest None is)

  module _ (m : NodeAt) (is : next_of nodes place ≡ Some m) where
    rest_is : pred_at.rest ≡ m ∷ without_first pred_at.rest
    rest_is = first_is pred_at.rest m (first_rest (Some m) is)

    -- If the next node is unmarked and not below the sort key, the seek ends and leaves the nodes
    -- unchanged.
    pub sought_stopped : m.marked ≡ false → IsNotBelow m sort → sought nodes place sort ≡ nodes
    sought_stopped unmarked above =
        sought_at nodes place pred.node pred_at sort
        ∙ ap (λ ns. pred_at.front ++ pred.node ∷ ns)
        (ap (cleaned sort) rest_is ∙ cleaned_stopped m (without_first pred_at.rest) sort unmarked above ∙ sym rest_is)
        ∙ sym pred_at.is

    -- If the next node is unmarked and below the sort key, seeks that begin at this node and at the
    -- next node have the same result.
    pub sought_passed : IsSpread nodes → m.marked ≡ false → IsBelow m sort → sought nodes m.place sort ≡ sought nodes place sort
    sought_passed spread unmarked below =
        sought_at nodes m.place m next sort
        ∙ append_assoc pred_at.front (pred.node ∷ []) (m ∷ cleaned sort (without_first pred_at.rest))
        ∙ sym (
        sought_at nodes place pred.node pred_at sort
        ∙ ap (λ ns. pred_at.front ++ pred.node ∷ ns)
        (ap (cleaned sort) rest_is ∙ cleaned_passed m (without_first pred_at.rest) sort unmarked below)
        )
      where
        next : IsAt nodes m.place m
        next = at_next nodes place pred.node pred_at m spread (first_rest (Some m) is)

    -- If the next node is marked, unlinking it first does not change the result of a seek.
    pub sought_unlinked : m.marked ≡ true → sought (unlinked_after nodes place) place sort ≡ sought nodes place sort
    sought_unlinked marked =
        sought_at (unlinked_after nodes place) place pred.node (at_unlinked nodes place pred.node pred_at) sort
        ∙ ap (λ ns. pred_at.front ++ pred.node ∷ ns)
        (sym (ap (cleaned sort) rest_is ∙ cleaned_marked m (without_first pred_at.rest) sort marked))
        ∙ sym (sought_at nodes place pred.node pred_at sort)

  -- If the next node is unlinked, `IsPred` still holds for the node at the place.
  pub pred_unlinked : IsPred (unlinked_after nodes place) place sort
  pred_unlinked = record {
    node = pred.node;
    is = node_at (unlinked_after nodes place) place pred.node (at_unlinked nodes place pred.node pred_at);
    unmarked = pred.unmarked;
    below = pred.below;
  }

-- `n` is any linked node, and `m` is the next node.
module _ (nodes : List NodeAt) (place : ℕ) (n m : NodeAt) (is : node_of nodes place ≡ Some n) (next_is : next_of nodes place ≡ Some m) where
  behind_first : nodes_behind nodes place ≡ m ∷ without_first (found_at nodes place n is).rest
  behind_first =
      let at = found_at nodes place n is in
      behind_at nodes place n at ∙ first_is at.rest m (sym (next_at nodes place n at) ∙ next_is)

  -- There are fewer nodes after the next node than after this node.
  pub behind_next : IsSpread nodes → length (nodes_behind nodes m.place) < length (nodes_behind nodes place)
  behind_next spread =
      let at = found_at nodes place n is in
      let next = at_next nodes place n at m spread (sym (next_at nodes place n at) ∙ next_is) in
      omega (arith, ap length (behind_at nodes m.place m next), ap length behind_first)

  -- If the next node is unlinked, there are fewer nodes after this node.
  pub behind_fewer : length (nodes_behind (unlinked_after nodes place) place) < length (nodes_behind nodes place)
  behind_fewer =
      let at = found_at nodes place n is in
      omega (
        arith,
        ap length (behind_at (unlinked_after nodes place) place n (at_unlinked nodes place n at)),
        ap length behind_first,
      )

-- Each unlinking is one change, so the change number grows by the number of unlinked nodes.
pub changes_unlinked : (first all changes unlinked before after : ℕ) → after + 1 ≡ before → before ≤ all → changes ≡ changes_after first (all - before) → unlinked ≡ one_more changes → unlinked ≡ changes_after first (all - after)
unfolding changes_after
changes_unlinked first all changes unlinked before after one fewer changes_are unlinked_is =
    let more : all - after ≡ suc (all - before) = omega arith in
    unlinked_is ∙ ap one_more changes_are ∙ ap (changes_after first) (sym more)

pub changes_unchanged : (changes nodes : ℕ) → changes ≡ changes_after changes (nodes - nodes)
unfolding changes_after
changes_unchanged changes nodes =
    let none : nodes - nodes ≡ 0 = omega arith in
    ap (changes_after changes) (sym none)

-- If a statement holds for each node, it holds for each node that remains after a seek.
pub each_cleaned : (P : NodeAt → Type 0) (sort : SortKey) (nodes : List NodeAt) → AllByRecursion P nodes → AllByRecursion P (cleaned sort nodes)
each_cleaned P sort [] each = let Each : List NodeAt → Type 0 = λ ns. AllByRecursion P ns in subst Each (sym (cleaned_nil sort)) tt
each_cleaned P sort (n ∷ rest) each = go n.marked refl (each_cleaned P sort rest each.1)
  where
    Each : List NodeAt → Type 0
    Each ns = AllByRecursion P ns

    go : (b : Bool) → n.marked ≡ b → AllByRecursion P (cleaned sort rest) → AllByRecursion P (cleaned sort (n ∷ rest))
    go true marked later = subst Each (sym (cleaned_marked n rest sort marked)) later
    go false unmarked later = elim (cases_before n.at sort) [
      | inl less ↦ subst Each (sym (cleaned_passed n rest sort unmarked less)) (each.0, later)
      | inr more ↦ subst Each (sym (cleaned_stopped n rest sort unmarked more)) each
    ]

pub each_sought : (P : NodeAt → Type 0) (nodes : List NodeAt) (from : ℕ) (sort : SortKey) → AllByRecursion P nodes → AllByRecursion P (sought nodes from sort)
unfolding sought
each_sought P [] from sort each = tt
each_sought P (n ∷ rest) from sort each = elim (eqb_tells n.place from) [
  | inl here ↦ rw here.0 (each.0, each_cleaned P sort rest each.1)
  | inr apart ↦ rw apart.0 (each.0, each_sought P rest from sort each.1)
]
