-- A walk along the list that collects its pairs.
use Rattle.std.proofs.Common.{◌≡◌, ℕ, List, [], ◌∷◌, ◌++◌, Some, None, refl, sym, ◌∙◌, ap, append_assoc}
use Rattle.map_ops.specs.Vocabulary.{Dummy, IsSound, Listing, NodeAt, pair_if, pairs}
use Rattle.map_ops.proofs.Vocabulary.{place-found}
use Rattle.std.proofs.lemmas.List.{append-nil}
use Rattle.node_list.specs.Nodes.{next_of, without_first}
use Rattle.node_list.specs.Order.{IsSpread}
use Rattle.list_steps.specs.Content.{pair_of}
use Rattle.list_steps.proofs.NodeLemmas.{IsAt, next_at, at_next, first_is, first_none}
use Rattle.list_steps.proofs.ContentLemmas.{pairs_none}

-- The walk is at this place, and has found the pairs of all nodes up to and including the node
-- there.
pub record IsWalking (nodes : List NodeAt) (place : ℕ) (found : List (ℕ × ℕ)) : Type 0 where
  pub node : NodeAt
  pub at : IsAt nodes place node
  pub rest : found ++ pairs at.rest ≡ pairs nodes

pairs_behind_dummy : (n : NodeAt) (rest : List NodeAt) → n.kind ≡ Dummy → pairs (n ∷ rest) ≡ pairs rest
unfolding pairs
pairs_behind_dummy n rest dummy = ap (λ kind. pair_if kind n.marked n.at.key n.value ++ pairs rest) dummy

pairs_next : (n : NodeAt) (rest : List NodeAt) → pairs (n ∷ rest) ≡ pair_of n ++ pairs rest
unfolding pairs
pairs_next n rest = refl

-- At the first node, which is a dummy, a walk has found no pairs.
pub walk_first : (l : Listing) → IsSound l → IsWalking l.nodes l.head []
walk_first l sound =
    let is = first_is l.nodes sound.first.node sound.first.first in
    record {
      node = sound.first.node;
      at = record { front = []; rest = without_first l.nodes; is = is; absent = tt; here = place-found l.nodes l.head sound.first.node sound.first.is };
      rest = sym (pairs_behind_dummy sound.first.node (without_first l.nodes) sound.first.kind) ∙ ap pairs (sym is);
    }

module _ (nodes : List NodeAt) (place : ℕ) (found : List (ℕ × ℕ)) (walking : IsWalking nodes place found) where
  -- If a walk steps to the next node and adds this node's pair, `IsWalking` still holds.
  pub walk_next : (m : NodeAt) (more : List (ℕ × ℕ)) → IsSpread nodes → next_of nodes place ≡ Some m → more ≡ found ++ pair_of m → IsWalking nodes m.place more
  walk_next m more spread is more_is =
      let next = sym (next_at nodes place walking.node walking.at) ∙ is in
      record {
        node = m;
        at = at_next nodes place walking.node walking.at m spread next;
        rest = ap (λ es. es ++ pairs (without_first walking.at.rest)) more_is
            ∙ append_assoc found (pair_of m) (pairs (without_first walking.at.rest))
            ∙ ap (λ es. found ++ es) (sym (pairs_next m (without_first walking.at.rest)) ∙ ap pairs (sym (first_is walking.at.rest m next)))
            ∙ walking.rest;
      }

  -- If a walk is at the last node, it has found all pairs.
  pub walk_end : next_of nodes place ≡ None → found ≡ pairs nodes
  walk_end is =
      let nothing : walking.at.rest ≡ [] = first_none walking.at.rest (sym (next_at nodes place walking.node walking.at) ∙ is) in
      sym (append-nil found) ∙ ap (λ es. found ++ es) (sym pairs_none ∙ ap pairs (sym nothing)) ∙ walking.rest
