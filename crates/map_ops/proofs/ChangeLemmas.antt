-- How a step at a key changes the list.
use Rattle.std.proofs.Common.{◌≡◌, ℕ, List, [], ◌∷◌, Some, None, false, sym, ◌∙◌, ap, subst}
use Rattle.map_ops.specs.Vocabulary.{IsSound, Listing, NodeAt, Regular, Replaces, SortKey, get, has_dummy, linked_after}
use Rattle.map_ops.specs.Vocabulary.{marked_at, node_of, pairs, regular_at, written_at}
use Rattle.map_ops.proofs.Vocabulary.{Rises, found_linked, some-injective}
use Rattle.list_steps.specs.Steps.{Links, Marks, Swaps}
use Rattle.list_steps.proofs.ContentLemmas.{pair_regular}
use Rattle.map_ops.specs.Lists.{HasNode, HasGap, Sets, content}
use Rattle.map_ops.specs.Nodes.{LinksNode, MarksNode, WritesNode, WritesNothing}
use Rattle.map_ops.specs.Sound.{Belong}
use Rattle.map_ops.proofs.ContentLemmas.{rises-pairs, map_of-linked, map_of-written, map_of-unlinked}
use Rattle.map_ops.proofs.BelongLemmas.{belong_linked, belong_marked, belong_written, has_dummy-marked, has_dummy-written}
use Rattle.map_ops.proofs.BelongLemmas.{has_dummy-regular}

module _ (old new : Listing) (key : ℕ) (sound : IsSound old) (after : IsSound new) (belong : Belong old.nodes) where
  old_rises : Rises (pairs old.nodes)
  old_rises = rises-pairs old.nodes sound.rising belong.keyed

  own_node : (place : ℕ) (n : NodeAt) (has : HasNode old key place) → node_of old.nodes place ≡ Some n → n ≡ has.node
  own_node place n has is = some-injective (sym is ∙ ap (node_of old.nodes) has.place_is ∙ has.its.is)

  own_key : (place : ℕ) (n : NodeAt) → HasNode old key place → node_of old.nodes place ≡ Some n → n.at.key ≡ key
  own_key place n has is = ap (λ (m : NodeAt). m.at.key) (own_node place n has is) ∙ ap (λ (at : SortKey). at.key) has.its.at

  -- If the key's node has the value `value`, the map of the pairs has this value at the key.
  pub had : (place value : ℕ) (n : NodeAt) → HasNode old key place → node_of old.nodes place ≡ Some n → n.value ≡ value → get (content old) key ≡ Some value
  had place value n has is value_is = has.value ∙ ap Some (ap (λ (m : NodeAt). m.value) (sym (own_node place n has is)) ∙ value_is)

  -- If a step marks the key's node, `MarksNode` holds.
  pub marks_node : (place value : ℕ) → HasNode old key place → Marks old new place value → MarksNode old new key
  marks_node place value has marks = record {
    node = has.node;
    its = has.its;
    writes = record { nodes = marks.becomes.nodes ∙ ap (marked_at old.nodes) has.place_is; changes = marks.becomes.changes };
  }

  -- If a step writes a value to the key's node, `WritesNode` holds.
  pub swaps_node : (place was now : ℕ) → HasNode old key place → Swaps old new place was now → WritesNode old new key now
  swaps_node place was now has swaps = record {
    node = has.node;
    its = has.its;
    writes = record { nodes = swaps.becomes.nodes ∙ ap (λ (at : ℕ). written_at old.nodes at now) has.place_is; changes = swaps.becomes.changes };
  }

  pub marks_belong : (place value : ℕ) → Marks old new place value → Belong new.nodes
  marks_belong place value marks = subst Belong (sym marks.becomes.nodes) (belong_marked old.nodes place belong)

  -- If a key's node is marked, the key has no value afterwards.
  pub marks_sets : (place value : ℕ) → HasNode old key place → Marks old new place value → Sets old new key None
  marks_sets place value has marks =
      let replaces : Replaces (pairs old.nodes) (pairs new.nodes) ((key, value) ∷ []) [] =
      subst (λ k. Replaces (pairs old.nodes) (pairs new.nodes) ((k, value) ∷ []) []) (own_key place marks.node has marks.is) marks.content in
      record {
        content_is = map_of-unlinked (pairs old.nodes) (pairs new.nodes) key old_rises (rises-pairs new.nodes after.rising (marks_belong place value marks).keyed) value replaces;
        dummies = λ b. ap (λ (nodes : List NodeAt). has_dummy nodes b) marks.becomes.nodes ∙ has_dummy-marked old.nodes place b;
        last = marks.becomes.last;
      }

  pub swaps_belong : (place was now : ℕ) → Swaps old new place was now → Belong new.nodes
  swaps_belong place was now swaps = subst Belong (sym swaps.becomes.nodes) (belong_written old.nodes place now belong)

  -- If a key's node is written, the key has the new value afterwards.
  pub swaps_sets : (place was now : ℕ) → HasNode old key place → Swaps old new place was now → Sets old new key (Some now)
  swaps_sets place was now has swaps =
      let replaces : Replaces (pairs old.nodes) (pairs new.nodes) ((key, was) ∷ []) ((key, now) ∷ []) =
      subst (λ k. Replaces (pairs old.nodes) (pairs new.nodes) ((k, was) ∷ []) ((k, now) ∷ [])) (own_key place swaps.node has swaps.is) swaps.content in
      record {
        content_is = map_of-written (pairs old.nodes) (pairs new.nodes) key old_rises (rises-pairs new.nodes after.rising (swaps_belong place was now swaps).keyed) was now replaces;
        dummies = λ b. ap (λ (nodes : List NodeAt). has_dummy nodes b) swaps.becomes.nodes ∙ has_dummy-written old.nodes place now b;
        last = swaps.becomes.last;
      }

  -- If `HasGap` holds for the place `pred`, and a step links a node right after this place,
  -- `LinksNode` holds.
  pub links_node : (pred : ℕ) (x node : NodeAt) → HasGap old key pred → x ≡ node → Links old new pred x → LinksNode old new node
  links_node pred x node room is links = record {
    before = pred;
    linked = found_linked old.nodes pred room.vacant.node room.vacant.is;
    writes = record { nodes = links.takes.nodes ∙ ap (λ (n : NodeAt). linked_after old.nodes pred n) is; changes = links.takes.changes };
  }

  module _ (x : NodeAt) (kind : x.kind ≡ Regular) (unmarked : x.marked ≡ false) (place : x.at ≡ regular_at key) where
    pub links_belong : (pred : ℕ) → Links old new pred x → Belong new.nodes
    links_belong pred links = subst Belong (sym links.takes.nodes) (belong_linked old.nodes pred x key belong kind place)

    -- If a node is linked for a key, the key has the node's value afterwards.
    pub links_sets : (pred : ℕ) → HasGap old key pred → Links old new pred x → Sets old new key (Some x.value)
    links_sets pred room links =
        let replaces : Replaces (pairs old.nodes) (pairs new.nodes) [] ((key, x.value) ∷ []) =
        subst (λ now. Replaces (pairs old.nodes) (pairs new.nodes) [] now) (pair_regular x kind unmarked ∙ ap (λ (at : SortKey). (at.key, x.value) ∷ []) place) links.content in
        record {
          content_is = map_of-linked (pairs old.nodes) (pairs new.nodes) key old_rises (rises-pairs new.nodes after.rising (links_belong pred links).keyed) x.value replaces;
          dummies = λ b. ap (λ (nodes : List NodeAt). has_dummy nodes b) links.takes.nodes ∙ has_dummy-regular old.nodes pred x b (found_linked old.nodes pred room.vacant.node room.vacant.is) kind;
          last = links.takes.last;
        }

-- If a spare is given back after the key's node was written, `WritesNode` still holds.
pub written_then_back : (old mid new : Listing) (key value : ℕ) → WritesNode old mid key value → WritesNothing mid new → WritesNode old new key value
written_then_back old mid new key value writes same = record {
  node = writes.node;
  its = writes.its;
  writes = record { nodes = same.nodes ∙ writes.writes.nodes; changes = same.changes ∙ writes.writes.changes };
}
