-- The value of a key, as it is found at a cursor that was placed for the key.
use Rattle.std.proofs.Common.{◌≡◌, ◌≢◌, ℕ, ◌%◌, Option, Some, None, true, refl, sym, ◌∙◌, ap, subst, arith}
use Rattle.std.specs.Prelude.{IfOk, IsSome, Result, Ok, Err, is_ok, is_some}
use Rattle.map_ops.specs.Vocabulary.{AllByRecursion, Cursor, Dummy, IsLinked, IsPlaced, IsSound, IsVacant, Kind, Listing, NodeAt, Regular}
use Rattle.map_ops.specs.Vocabulary.{SortKey, at_of, fits, get, node_of, pairs, pred_of, regular_at}
use Rattle.map_ops.proofs.Vocabulary.{Rises, each_found, false≢true, found_linked, place-found, some-injective, some-none}
use Rattle.list_steps.specs.declared.cursor.Again.{Again}
use Rattle.list_steps.specs.Found.{node_there}
use Rattle.list_steps.specs.Steps.{IsAbsent, Finds}
use Rattle.list_steps.proofs.CursorLemmas.{there}
use Rattle.split_key.proofs.SplitLemmas.{split_odd}
use Rattle.map_ops.specs.TableAt.{map_of}
use Rattle.map_ops.specs.Sound.{Belong, IsEvenDummy}
use Rattle.map_ops.specs.Lists.{HasNode, HasGap, Stands, place_in}
use Rattle.map_ops.proofs.ContentLemmas.{rises-pairs, get-map_of, value_at-absent, value_at-there}

-- A node at a key's position is regular.
pub regular_of : (n : NodeAt) (key : ℕ) → IsEvenDummy n → n.at ≡ regular_at key → n.kind ≡ Regular
regular_of n key even same = go n.kind refl
  where
    go : (kind : Kind) → n.kind ≡ kind → n.kind ≡ Regular
    go Dummy is =
        let odd = split_odd key in
        let no : n.at.split % 2 ≡ 0 = even is in
        let there = ap (λ (at : SortKey). at.split) same in
        absurd (omega (arith, odd, no, there))
    go Regular is = is

module _ (l : Listing) (c : Cursor) (key : ℕ) (sound : IsSound l) (belong : Belong l.nodes) (placed : IsPlaced l c) (fitting : fits l c ≡ true) (same : at_of c ≡ regular_at key) where
  rises : Rises (pairs l.nodes)
  rises = rises-pairs l.nodes sound.rising belong.keyed

  kind_there : (n : NodeAt) → node_there l c ≡ Some n → n.kind ≡ Regular
  kind_there n is =
      let at = there l c n sound.spread fitting is in
      regular_of n key (each_found IsEvenDummy l.nodes n.place n belong.even at.is) (at.at ∙ same)

  -- The node at the cursor has the key's value.
  get-there : (n : NodeAt) → node_there l c ≡ Some n → get (map_of (pairs l.nodes)) key ≡ Some n.value
  get-there n is =
      let at = there l c n sound.spread fitting is in
      get-map_of (pairs l.nodes) key rises ∙ value_at-there key l.nodes n.place n sound.rising belong.keyed at.is (kind_there n is) (at.at ∙ same) at.unmarked

  -- If no node is at the cursor, the key has no value.
  get-absent : IsAbsent l c → get (map_of (pairs l.nodes)) key ≡ None
  get-absent absent =
      get-map_of (pairs l.nodes) key rises ∙ value_at-absent key l.nodes belong.keyed (subst (λ (s : SortKey). AllByRecursion (λ (n : NodeAt). n.at ≢ s) l.nodes) same absent.others)

  -- If `look` finds a place, the key's node is linked at this place. If `look` finds no place, a
  -- node for the key belongs right after the cursor's first node.
  pub stands : (found : Option ℕ) → Finds l c found → Stands l key (pred_of c) found
  stands None absent = record { vacant = subst (IsVacant l.nodes (pred_of c)) same absent.vacant; none = get-absent absent }
  stands (Some place) at =
      let own : at.node.place ≡ place = place-found l.nodes place at.node at.is in
      record {
        node = at.node;
        its = record { is = ap (node_of l.nodes) own ∙ at.is; kind = kind_there at.node at.there; at = at.at ∙ same; unmarked = at.unmarked };
        place_is = sym own;
        value = get-there at.node at.there;
      }

-- If `look` at the cursor returns `Ok`, the value in the `Ok` satisfies `Stands`.
pub found : (l : Listing) (c : Cursor) (key : ℕ) → IsSound l → Belong l.nodes → IsPlaced l c → at_of c ≡ regular_at key
    → (result : Result (Option ℕ) Again) → fits l c ≡ is_ok result → IfOk result (Finds l c) → IfOk result (Stands l key (pred_of c))
found l c key sound belong placed same (Ok there) fitting finds = stands l c key sound belong placed fitting same there finds
found l c key sound belong placed same (Err again) fitting finds = tt

-- If the key has a value, the key's node is linked at the place that `place_in` gives.
pub occupied : (l : Listing) (key pred : ℕ) (there : Option ℕ) → Stands l key pred there → IsSome (get (map_of (pairs l.nodes)) key) → HasNode l key (place_in pred there)
occupied l key pred None room some = absurd (false≢true (sym (ap is_some room.none) ∙ some))
occupied l key pred (Some place) has some = has

-- If the key has no value, a node for the key belongs right after the node at the place that
-- `place_in` gives.
pub vacant : (l : Listing) (key pred : ℕ) (there : Option ℕ) → Stands l key pred there → get (map_of (pairs l.nodes)) key ≡ None → HasGap l key (place_in pred there)
vacant l key pred None room none = room
vacant l key pred (Some place) has none = absurd (some-none (sym has.value ∙ none))

-- If `HasNode` holds for a place, a node is linked at this place.
pub node_linked : (l : Listing) (key place : ℕ) → HasNode l key place → IsLinked l.nodes place
node_linked l key place has = found_linked l.nodes place has.node (ap (node_of l.nodes) has.place_is ∙ has.its.is)

-- If the key's node is at the place, the value of the node at this place is the key's value.
pub value_there : (l : Listing) (key place : ℕ) (n : NodeAt) → HasNode l key place → node_of l.nodes place ≡ Some n → Some n.value ≡ get (map_of (pairs l.nodes)) key
value_there l key place n has is =
    ap (λ (m : NodeAt). Some m.value) (some-injective (sym is ∙ ap (node_of l.nodes) has.place_is ∙ has.its.is)) ∙ sym has.value
