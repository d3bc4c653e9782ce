-- Shows that a cursor still fits if its two nodes are still neighbours, because both stay linked
-- with their stamps, and a list has one node with a sort key.
use Rattle.std.proofs.Common.{◌≡◌, ℕ, ◌==◌, ◌&&◌, true, false, inl, inr, List, [], ◌∷◌, ◌++◌, Option, Some, None, refl, sym, ap, subst, ◌∙◌, not, eq-eqb, eqb-true, option_map}
use Rattle.boost_core.proofs.Vocabulary.{not-true, AllByRecursion, false≢true, cases_Bool, and_parts, and_from, IsBefore, NodeAt, Listing, node_of, next_of, first, IsRising, IsSpread, IsNodeBefore, Cursor, Noted, pred_of, behind, is_noted, is_next_noted, Node, SortKey, plain_node, StartsAt, AreNeighbours, node_at}
use Rattle.list_steps.specs.Found.{fits}
use Rattle.boost_core.proofs.NodeLists.{seen, node_here, node_later, none_of_none, order_behind}
use Rattle.boost_core.proofs.GapLists.{IsStill, Stay, each_at, place_at, next_here, next_later, next_found, one_of_key, apart_keys}

noted_node : (o : Option NodeAt) (stamp : ℕ) → is_noted o stamp ≡ true → (n : NodeAt) × (o ≡ Some n) × (n.stamp ≡ stamp) × (n.marked ≡ false)
noted_node None stamp is = absurd (false≢true is)
noted_node (Some n) stamp is = let parts = and_parts (n.stamp == stamp) (not n.marked) is in (n, refl, eqb-true n.stamp stamp parts.0, not-true n.marked parts.1)

abbrev pub NextIs : Option NodeAt → Option Noted → Type 0
NextIs None None = Unit {0}
NextIs (Some n) (Some noted) = (n.place ≡ noted.place) × (n.stamp ≡ noted.stamp) × (n.marked ≡ false)
NextIs _ _ = ⊥

next_is : (o : Option NodeAt) (noted : Option Noted) → is_next_noted o noted ≡ true → NextIs o noted
next_is None None is = tt
next_is (Some n) (Some noted) is =
    let parts = and_parts (n.place == noted.place) (n.stamp == noted.stamp && not n.marked) is in
    let rest = and_parts (n.stamp == noted.stamp) (not n.marked) parts.1 in
    (eqb-true n.place noted.place parts.0, eqb-true n.stamp noted.stamp rest.0, not-true n.marked rest.1)
next_is _ _ is = false≢true is

next_noted : (o : Option NodeAt) (noted : Option Noted) → NextIs o noted → is_next_noted o noted ≡ true
next_noted None None is = refl
next_noted (Some n) (Some noted) is =
    and_from (n.place == noted.place) (n.stamp == noted.stamp && not n.marked) (eq-eqb n.place noted.place is.0)
    (and_from (n.stamp == noted.stamp) (not n.marked) (eq-eqb n.stamp noted.stamp is.1) (ap not is.2))
next_noted _ _ is = absurd is

pub record Fit (l : Listing) (c : Cursor) : Type 0 where
  pub pred : NodeAt
  pub pred_is : node_of l.nodes (pred_of c) ≡ Some pred
  pub stamp : pred.stamp ≡ c.pred.stamp
  pub live : pred.marked ≡ false
  pub next : NextIs (behind l c) c.cur

pub fit_of : (l : Listing) (c : Cursor) → fits l c ≡ true → Fit l c
unfolding fits
fit_of l c is =
    let parts = and_parts (is_noted (node_of l.nodes (pred_of c)) c.pred.stamp) (is_next_noted (behind l c) c.cur) is in
    let noted = noted_node (node_of l.nodes (pred_of c)) c.pred.stamp parts.0 in
    record { pred = noted.0; pred_is = noted.1; stamp = noted.2; live = noted.3; next = next_is (behind l c) c.cur parts.1 }

pub fits_of : (l : Listing) (c : Cursor) → Fit l c → fits l c ≡ true
unfolding fits
fits_of l c fit =
    and_from (is_noted (node_of l.nodes (pred_of c)) c.pred.stamp) (is_next_noted (behind l c) c.cur)
    (ap (λ (o : Option NodeAt). is_noted o c.pred.stamp) fit.pred_is ∙ and_from (fit.pred.stamp == c.pred.stamp) (not fit.pred.marked) (eq-eqb fit.pred.stamp c.pred.stamp fit.stamp) (ap not fit.live))
    (next_noted (behind l c) c.cur fit.next)

-- The sort key of a node, if there is a node.
abbrev pub key_at : Option NodeAt → Option SortKey
key_at o = option_map (λ (n : NodeAt). n.at) o

abbrev Live : Option NodeAt → Type 0
Live None = Unit {0}
Live (Some n) = n.marked ≡ false

next_live : (o : Option NodeAt) (noted : Option Noted) → NextIs o noted → Live o
next_live None noted is = tt
next_live (Some n) None is = absurd is
next_live (Some n) (Some noted) is = is.2

starts : (nodes : List NodeAt) → Live (first nodes) → StartsAt (seen nodes) (key_at (first nodes))
starts [] live = tt
starts (n ∷ rest) live = λ i. record { at = n.at; marked = live i }

-- A node and the next node are neighbours if both are unmarked.
beside : (nodes : List NodeAt) (place : ℕ) (n : NodeAt) → node_of nodes place ≡ Some n → n.marked ≡ false → Live (next_of nodes place) → AreNeighbours (seen nodes) (record { before = n.at; behind = key_at (next_of nodes place) })
beside [] place n is live next = absurd (none_of_none place n is)
beside (m ∷ rest) place n is live next = elim (cases_Bool (m.place == place)) [
  | inl here ↦
      let same = node_here m rest place n is here in
      record {
        front = [];
        back = seen rest;
        nodes_are = λ i. record { at = (same i).at; marked = (ap (λ k. k.marked) same ∙ live) i } ∷ seen rest;
        next = rw (next_here m rest place here) (starts rest (rw (next_here m rest place here) at next));
      }
  | inr apart ↦
      let more = beside rest place n (node_later m rest place (Some n) is apart) live (rw (next_later m rest place apart) at next) in
      record {
        front = node_at m ∷ more.front;
        back = more.back;
        nodes_are = ap (λ ns. node_at m ∷ ns) more.nodes_are;
        next = rw (next_later m rest place apart) more.next;
      }
]

pub neighbours : (l : Listing) (c : Cursor) (fit : Fit l c) → AreNeighbours (seen l.nodes) (record { before = fit.pred.at; behind = key_at (behind l c) })
neighbours l c fit = beside l.nodes (pred_of c) fit.pred fit.pred_is fit.live (next_live (behind l c) c.cur fit.next)

-- The node is unmarked and has this sort key, or there is neither a node nor a sort key.
abbrev NextAt : Option NodeAt → Option SortKey → Type 0
NextAt None None = Unit {0}
NextAt (Some n) (Some at) = (n.at ≡ at) × (n.marked ≡ false)
NextAt _ _ = ⊥

next_first : (rest : List NodeAt) (behind : Option SortKey) → StartsAt (seen rest) behind → NextAt (first rest) behind
next_first [] None is = tt
next_first (n ∷ rest) (Some at) is = (ap (λ k. k.at) is, ap (λ k. k.marked) is)
next_first _ _ is = is

in_middle : (P : Node → Type 0) (front : List Node) (n : Node) (back : List Node) → AllByRecursion P (front ++ n ∷ back) → P n
in_middle P [] n back each = each.0
in_middle P (m ∷ front) n back each = in_middle P front n back each.1

abbrev head_or : Node → List Node → Node
head_or other [] = other
head_or other (n ∷ rest) = n

abbrev tail_of : List Node → List Node
tail_of [] = []
tail_of (n ∷ rest) = rest

side_by_side : (nodes : List NodeAt) (place : ℕ) (a : NodeAt) (behind : Option SortKey) (front back : List Node) → IsRising nodes → node_of nodes place ≡ Some a → seen nodes ≡ front ++ plain_node a.at ∷ back → StartsAt back behind
    → (a.marked ≡ false) × NextAt (next_of nodes place) behind
unfolding IsRising
side_by_side [] place a behind front back rising is same next = absurd (none_of_none place a is)
side_by_side (m ∷ rest) place a behind [] back rising is same next =
    let head : node_at m ≡ plain_node a.at = ap (head_or (node_at m)) same in
    let tail : seen rest ≡ back = ap tail_of same in
    elim (cases_Bool (m.place == place)) [
      | inl here ↦ (
        sym (ap (λ k. k.marked) (node_here m rest place a is here)) ∙ ap (λ (k : Node). k.marked) head,
        subst (λ (o : Option NodeAt). NextAt o behind) (sym (next_here m rest place here)) (next_first rest behind (subst (λ ns. StartsAt ns behind) (sym tail) next)),
      )
      | inr apart ↦ absurd (apart_keys m.at a.at (ap (λ (k : Node). k.at) head) (each_at (IsNodeBefore m) rest place a rising.0 (node_later m rest place (Some a) is apart)))
    ]
side_by_side (m ∷ rest) place a behind (f ∷ front) back rising is same next =
    let tail : seen rest ≡ front ++ plain_node a.at ∷ back = ap tail_of same in
    elim (cases_Bool (m.place == place)) [
      | inl here ↦ absurd (apart_keys m.at a.at (ap (λ k. k.at) (node_here m rest place a is here))
          (in_middle (λ n. IsBefore m.at n.at) front (plain_node a.at) back (subst (AllByRecursion (λ (n : Node). IsBefore m.at n.at)) tail (order_behind m rest rising.0))))
      | inr apart ↦
          let more = side_by_side rest place a behind front back rising.1 (node_later m rest place (Some a) is apart) tail next in
          (more.0, subst (λ (o : Option NodeAt). NextAt o behind) (sym (next_later m rest place apart)) more.1)
    ]

-- The list before a change is `l`, and the list after it is `l'`.
module _ (l l' : Listing) (c : Cursor) (spread : IsSpread l.nodes) (rising : IsRising l'.nodes) (stay : Stay l.nodes l'.nodes) (fit : Fit l c) where
  next_still : (o o' : Option NodeAt) (noted : Option Noted) → behind l c ≡ o → behind l' c ≡ o' → NextIs o noted → NextAt o' (key_at o) → NextIs o' noted × (key_at o' ≡ key_at o)
  next_still None None noted was now is at = (is, refl)
  next_still (Some m) (Some n) None was now is at = absurd is
  next_still (Some m) (Some n) (Some noted) was now is at =
      let still : IsStill l'.nodes m.place m = stay m.place m (next_found l.nodes (pred_of c) m spread was) is.2 in
      let one : still.node ≡ n = one_of_key l'.nodes (pred_of c) m.place n still.node rising now still.is (still.at ∙ sym at.0) in (
        (
          sym (ap (λ k. k.place) one) ∙ place_at l'.nodes m.place still.node still.is ∙ is.0,
          sym (ap (λ k. k.stamp) one) ∙ still.stamp ∙ is.1,
          at.1,
        ),
        ap Some at.0,
      )
  next_still _ _ noted was now is at = absurd at

  pub still_fits : AreNeighbours (seen l'.nodes) (record { before = fit.pred.at; behind = key_at (behind l c) }) → (now : Fit l' c) × (now.pred.at ≡ fit.pred.at) × (key_at (behind l' c) ≡ key_at (behind l c))
  still_fits near =
      let still : IsStill l'.nodes (pred_of c) fit.pred = stay (pred_of c) fit.pred fit.pred_is fit.live in
      let sides = side_by_side l'.nodes (pred_of c) still.node (key_at (behind l c)) near.front near.back rising still.is (near.nodes_are ∙ ap (λ at. near.front ++ plain_node at ∷ near.back) (sym still.at)) near.next in
      let next = next_still (behind l c) (behind l' c) c.cur refl refl fit.next sides.1 in (
        record { pred = still.node; pred_is = still.is; stamp = still.stamp ∙ fit.stamp; live = sides.0; next = next.0 },
        still.at,
        next.1,
      )
