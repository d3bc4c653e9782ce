-- The node at a cursor that fits, and the effect of each step there.
use Rattle.std.proofs.Common.{◌≡◌, ℕ, List, [], ◌∷◌, Option, Some, None, true, false, refl, sym, ◌∙◌, ap, subst}
use Rattle.std.specs.Prelude.{IsSomeAnd, IsTrue}
use Rattle.node_list.specs.declared.node.Kind.{Kind}
use Rattle.node_list.specs.declared.node.Kind.TheVariants.{Dummy, Regular}
use Rattle.node_list.specs.Nodes.{NodeAt, Listing, Becomes, UsesSpare, IsRegularAt, is_regular, node_of, place_of, linked_after, marked_at, written_at}
use Rattle.node_list.specs.Order.{IsVacant}
use Rattle.node_list.specs.Sound.{IsSound}
use Rattle.list_steps.specs.declared.cursor.Cursor.{Cursor}
use Rattle.list_steps.specs.Content.{pairs, pair_of, Replaces}
use Rattle.list_steps.specs.Found.{fits, node_there, pred_of, at_of, IsKeyThere, IsPlaced}
use Rattle.list_steps.specs.Steps.{IsAbsent, IsThere, Finds, Links, Marks, Swaps}
use Rattle.node_list.proofs.OrderLemmas.{some-injective, some-none}
use Rattle.list_steps.proofs.NodeLemmas.{found_at, no_place}
use Rattle.list_steps.proofs.OrderLemmas.{none_between}
use Rattle.list_steps.proofs.ContentLemmas.{pairs_linked, pairs_marked, pairs_written, pairs_contain}
use Rattle.list_steps.proofs.CursorLemmas.{there, above, low, fits_pred}

module _ (l : Listing) (c : Cursor) (sound : IsSound l) (placed : IsPlaced l c) (fitting : fits l c ≡ true) where
  pred : (n : NodeAt) × (node_of l.nodes (pred_of c) ≡ Some n) × (n.stamp ≡ c.pred.stamp)
  pred = fits_pred l c fitting

  -- If the node right after the cursor's first node does not have the sort key, a node with that
  -- key belongs right after the first node.
  pub vacant_where_fits : node_there l c ≡ None → IsVacant l.nodes (pred_of c) (at_of c)
  vacant_where_fits none = record {
    node = pred.0;
    is = pred.1;
    below = low l c sound placed fitting pred.0 pred.1;
    above = above l c sound placed fitting none;
  }

  -- If the node right after the cursor's first node does not have the sort key, no linked node has
  -- it.
  absent : node_there l c ≡ None → IsAbsent l c
  absent none = record {
    none = none;
    vacant = vacant_where_fits none;
    others = none_between l.nodes (pred_of c) pred.0 (at_of c) sound.rising pred.1
        (low l c sound placed fitting pred.0 pred.1) (above l c sound placed fitting none);
  }

  -- If the node after the cursor's first node has the sort key, it is the node sought (`IsThere`).
  there_at : (place : ℕ) → Some place ≡ place_of (node_there l c) → IsThere l c place
  there_at place place_is = go (node_there l c) refl place_is
    where
      go : (o : Option NodeAt) → node_there l c ≡ o → Some place ≡ place_of o → IsThere l c place
      go None is is_place = absurd (some-none is_place)
      go (Some n) is is_place =
          let here = there l c n sound.spread fitting is in
          let P : ℕ → Type 0 = λ p. IsThere l c p in
          subst P (sym (some-injective is_place)) (record {
            node = n;
            there = is;
            is = here.is;
            at = here.at;
            unmarked = here.unmarked;
            content = λ regular. pairs_contain l.nodes n.place n here.is regular here.unmarked;
          })

  -- The result of `look` satisfies `Finds`.
  pub finds : (found : Option ℕ) → found ≡ place_of (node_there l c) → Finds l c found
  finds None none = absent (no_place (node_there l c) (sym none))
  finds (Some place) is = there_at place is

-- If `IsKeyThere` holds, the node that `look` finds is regular.
pub regular_there : (l : Listing) (c : Cursor) → fits l c ≡ true → (place : ℕ) → IsThere l c place → IsKeyThere l c → IsRegularAt l.nodes place
regular_there l c fitting place here key_there =
    let P : Option NodeAt → Type 0 = λ o. IsSomeAnd o (λ m. IsTrue (is_regular m.kind)) in
    let regular : IsTrue (is_regular here.node.kind) = subst P here.there (key_there fitting) in
    record { node = here.node; is = here.is; regular = go here.node.kind regular; unmarked = here.unmarked }
  where
    go : (k : Kind) → is_regular k ≡ true → k ≡ Regular
    go Dummy is = cc
    go Regular is = refl

-- If the node sought is at a place (`IsThere`) and `P` holds for the place, then `node_there` gives
-- a node, and `P` holds for this node's place.
pub at_node : (l : Listing) (c : Cursor) (place : ℕ) → IsThere l c place → (P : ℕ → Type 0) → P place → IsSomeAnd (node_there l c) (λ n. P n.place)
at_node l c place here P holds =
    let Q : Option NodeAt → Type 0 = λ o. IsSomeAnd o (λ n. P n.place) in
    let at_place : here.node.place ≡ place = (found_at l.nodes place here.node here.is).here in
    subst Q (sym here.there) (subst P (sym at_place) holds)

-- Linking a node has the effect that `Links` states.
pub links : (old new : Listing) (pred : ℕ) (x : NodeAt) → IsVacant old.nodes pred x.at → UsesSpare old new (linked_after old.nodes pred x) x.place → node_of new.nodes x.place ≡ Some x → Links old new pred x
links old new pred x vacant takes found =
    let Content : List NodeAt → Type 0 = λ ns. Replaces (pairs old.nodes) (pairs ns) [] (pair_of x) in
    record {
      takes = takes;
      linked = found;
      content = subst Content (sym takes.nodes) (pairs_linked old.nodes pred vacant.node vacant.is x);
    }

module _ (old new : Listing) (place : ℕ) (n : NodeAt) (regular : IsRegularAt old.nodes place) (is : node_of old.nodes place ≡ Some n) where
  same : regular.node ≡ n
  same = some-injective (sym regular.is ∙ is)

  kind : n.kind ≡ Regular
  kind = ap (λ (v : NodeAt). v.kind) (sym same) ∙ regular.regular

  unmarked : n.marked ≡ false
  unmarked = ap (λ (v : NodeAt). v.marked) (sym same) ∙ regular.unmarked

  -- Marking the node has the effect that `Marks` states.
  pub marks : Becomes old new (marked_at old.nodes place) → Marks old new place n.value
  marks becomes =
      let Content : List NodeAt → Type 0 = λ ns. Replaces (pairs old.nodes) (pairs ns) ((n.at.key, n.value) ∷ []) [] in
      record {
        node = n;
        is = is;
        regular = kind;
        value_is = refl;
        becomes = becomes;
        content = subst Content (sym becomes.nodes) (pairs_marked old.nodes place n is kind unmarked);
      }

  -- Writing a value has the effect that `Swaps` states.
  pub swaps : (now : ℕ) → Becomes old new (written_at old.nodes place now) → Swaps old new place n.value now
  swaps now becomes =
      let Content : List NodeAt → Type 0 = λ ns. Replaces (pairs old.nodes) (pairs ns) ((n.at.key, n.value) ∷ []) ((n.at.key, now) ∷ []) in
      record {
        node = n;
        is = is;
        regular = kind;
        value_is = refl;
        becomes = becomes;
        content = subst Content (sym becomes.nodes) (pairs_written old.nodes place n is kind unmarked now);
      }
