-- Shows what each call does to a list as contracts see it, because the slots that it writes lay out
-- the old nodes with one linked, changed or unlinked (`SlabSteps`).
use Rattle.std.proofs.Common.{◌≡◌, ℕ, ◌+◌, ◌-◌, ◌^◌, ◌<◌, ◌≤◌, List, Option, Some, None, Bool, true, false, refl, sym, ◌∙◌, ap, arith, cond}
use Rattle.slab.specs.Slab.{Slab, get, slab_len, Updates, with_value}
use Rattle.node_list.specs.declared.node.Node.{Node}
use Rattle.node_list.specs.declared.node.Kind.TheVariants.{Dummy, Regular}
use Rattle.node_list.specs.Slots.{SlotAt, Linked, Out}
use Rattle.node_list.specs.Nodes.{NodeAt, SpareAt, IsOut, filled, out_at, node_of, place_of, IsLinked, IsRegularAt, IsBeforeMarked, is_regular, is_live, is_marked, live_count, marked_count, linked_after, unlinked_after, changed_at, marked_at, written_at, one_more, GivesOut, ReturnsSpare, Becomes, UsesSpare}
use Rattle.node_list.specs.Order.{IsRising}
use Rattle.node_list.specs.Seen.{node_seen}
use Rattle.node_list.specs.Follow.{IsSameNode, Follows}
use Rattle.node_list.specs.Layout.{stored_node, nodes_in, listing_of, IsKept}
use Rattle.node_list.proofs.OrderLemmas.{some-injective}
use Rattle.node_list.proofs.NodesLemmas.{found_linked, next_linked, next_found, linked_more}
use Rattle.node_list.proofs.AfterLemmas.{now_found}
use Rattle.node_list.proofs.ChainLemmas.{spread, nodes_in_is, nodes_fit, absent_free, linked_node, node_found, next_is}
use Rattle.node_list.proofs.CountLemmas.{gain, count-linked, count-unlinked, count-changed, live-marked, live-regular, live-fresh, counts_fit}
use Rattle.node_list.proofs.KeptLemmas.{kept}
use Rattle.node_list.proofs.SpareSteps.{spare_laid_out, spare_stamps, spare_out, spare_was_free, spare_others, back_laid_out, back_stamps, back_gone, back_others}
use Rattle.node_list.proofs.SlabSteps.{link_absent, link_laid_out, link_stamps, link_gone, link_others, mid_spare, change_laid_out, change_stamps, change_out, unlink_laid_out, unlink_stamps, unlink_out}
use Rattle.node_list.proofs.FollowLemmas.{sound, gives_out_follows, takes_back_follows, links_follow, changes_follow, unlinks_follow}

-- The counts of live and of marked nodes together are at most the number of the slab's slots in
-- use.
pub counted_fit : (slab : Slab SlotAt) (head last count marked : ℕ) → IsKept slab head last count marked → count + marked ≤ slab_len slab
counted_fit slab head last count marked is =
    let fits = nodes_fit slab head (nodes_in slab head) is.laid_out in
    omega (arith, fits, counts_fit (nodes_in slab head), is.counted, is.marks)

-- If the list has a node at a place, the slab's slot there holds a linked node.
pub slot_linked : (slab : Slab SlotAt) (head last count marked place : ℕ) → IsKept slab head last count marked → IsLinked (nodes_in slab head) place → (node : Node) × (get slab place ≡ Some (Linked node))
slot_linked slab head last count marked place is linked = linked_node (get slab) (nodes_in slab head) place is.laid_out.chain linked

-- If the node right after the node at `pred` is marked, `pred` is a linked place.
pub behind_linked : (slab : Slab SlotAt) (head : ℕ) (pred : ℕ) → IsBeforeMarked (nodes_in slab head) pred → IsLinked (nodes_in slab head) pred
behind_linked slab head pred behind = (next_linked (nodes_in slab head) pred behind.node.place (ap place_of behind.next)).0

module _ (old : Slab SlotAt) (head changes last count marked : ℕ) (is : IsKept old head last count marked) where
  -- If a spare is given out, the fields keep their invariant, and the list changes as `GivesOut`
  -- says.
  pub spared : (new : Slab SlotAt) (place : ℕ) → last + 1 < 2 ^ 64 - 1 → get old place ≡ None → Updates old new place (Some (Out (last + 1))) → IsKept new head (last + 1) count marked × GivesOut (listing_of old head changes last) (listing_of new head changes (last + 1)) place (last + 1) × Follows (listing_of old head changes last) (listing_of new head changes (last + 1))
  spared new place below free updates =
      let nodes = nodes_in old head in
      let laid = spare_laid_out old new head place (last + 1) nodes free updates is.laid_out in
      let stamps = spare_stamps old new head place (last + 1) nodes free updates last refl is.stamps in
      let gives : GivesOut (listing_of old head changes last) (listing_of new head changes (last + 1)) place (last + 1) = record {
        nodes = nodes_in_is new head nodes laid;
        head = refl;
        changes = refl;
        last = refl;
        was_free = spare_was_free old new head place (last + 1) nodes free updates;
        is_out = spare_out old new head place (last + 1) nodes free updates;
        others = spare_others old new head place (last + 1) nodes free updates;
      } in
      let now = kept new head (last + 1) count marked nodes laid stamps below is.counted is.marks in (
        now,
        gives,
        gives_out_follows _ _ place (last + 1) refl (sound new head changes (last + 1) count marked now) gives,
      )

  -- If a spare is given back, the fields keep their invariant, and the list changes as
  -- `ReturnsSpare` says.
  pub taken_back : (new : Slab SlotAt) (place stamp : ℕ) → out_at (listing_of old head changes last) place ≡ Some stamp → Updates old new place None → IsKept new head last count marked × ReturnsSpare (listing_of old head changes last) (listing_of new head changes last) place × Follows (listing_of old head changes last) (listing_of new head changes last)
  taken_back new place stamp is_out freed =
      let nodes = nodes_in old head in
      let laid = back_laid_out old new head place stamp nodes is_out freed is.laid_out in
      let stamps = back_stamps old new head place stamp nodes is_out freed last is.stamps in
      let back : ReturnsSpare (listing_of old head changes last) (listing_of new head changes last) place = record {
        nodes = nodes_in_is new head nodes laid;
        head = refl;
        changes = refl;
        last = refl;
        gone = back_gone old new head place stamp nodes is_out freed;
        others = back_others old new head place stamp nodes is_out freed;
      } in
      let now = kept new head last count marked nodes laid stamps is.below is.counted is.marks in (
        now,
        back,
        takes_back_follows _ _ place (sound new head changes last count marked now) back,
      )

  -- Lemmas on a node that is changed.
  module _ (new : Slab SlotAt) (place : ℕ) (change : NodeAt → NodeAt) (node written : Node)
      (same : (n : NodeAt) → IsSameNode n (change n))
      (stores : (n : NodeAt) (next : Option ℕ) → node ≡ stored_node n next → written ≡ stored_node (change n) next)
      (stamp : written.stamp ≡ node.stamp)
      (linked : IsLinked (nodes_in old head) place)
      (is_node : get old place ≡ Some (Linked node))
      (new_is : new ≡ with_value old place (Linked written))
      (plain : (n : NodeAt) → node_of (nodes_in old head) place ≡ Some n → (n.kind ≡ Dummy → n.marked ≡ false) → (change n).kind ≡ Dummy → (change n).marked ≡ false) where
    found : node_of (nodes_in old head) place ≡ Some (node_seen place node)
    found = node_found (get old) (nodes_in old head) place node is.laid_out.chain linked is_node

    live_now : live_count (changed_at (nodes_in old head) place change) + gain is_live (node_seen place node) ≡ live_count (nodes_in old head) + gain is_live (change (node_seen place node))
    live_now = count-changed is_live (nodes_in old head) place change (node_seen place node) found

    marked_now : marked_count (changed_at (nodes_in old head) place change) + gain is_marked (node_seen place node) ≡ marked_count (nodes_in old head) + gain is_marked (change (node_seen place node))
    marked_now = count-changed is_marked (nodes_in old head) place change (node_seen place node) found

    pub changed : (live marks : ℕ) → live + gain is_live (node_seen place node) ≡ count + gain is_live (change (node_seen place node)) → marks + gain is_marked (node_seen place node) ≡ marked + gain is_marked (change (node_seen place node)) → IsKept new head last live marks × Becomes (listing_of old head changes last) (listing_of new head (one_more changes) last) (changed_at (nodes_in old head) place change) × (changes < 2 ^ 64 → Follows (listing_of old head changes last) (listing_of new head (one_more changes) last))
    changed live marks live_is marks_are =
        let nodes = nodes_in old head in
        let laid = change_laid_out old new head last place nodes change node written is.laid_out is.stamps same stores stamp is_node new_is plain in
        let stamps = change_stamps old new head last place nodes change node written is.laid_out is.stamps same stores stamp is_node new_is in
        let becomes : Becomes (listing_of old head changes last) (listing_of new head (one_more changes) last) (changed_at (nodes_in old head) place change) = record {
          nodes = nodes_in_is new head (changed_at nodes place change) laid;
          head = refl;
          changes = refl;
          last = refl;
          out = change_out old new head last place nodes change node written is.laid_out is.stamps same stores stamp is_node new_is;
        } in
        let now = kept new head last live marks (changed_at nodes place change) laid stamps is.below
        (omega (arith, live_now, is.counted)) (omega (arith, marked_now, is.marks)) in (
          now,
          becomes,
          λ fits. changes_follow _ _ place change fits same (sound new head (one_more changes) last live marks now) becomes,
        )

  -- If a value is written, the fields keep their invariant, and the nodes become `written_at`.
  pub value_written : (new : Slab SlotAt) (place value : ℕ) (node : Node) → IsLinked (nodes_in old head) place → get old place ≡ Some (Linked node) → new ≡ with_value old place (Linked (record node { value = value })) → IsKept new head last count marked × Becomes (listing_of old head changes last) (listing_of new head (one_more changes) last) (written_at (nodes_in old head) place value) × (changes < 2 ^ 64 → Follows (listing_of old head changes last) (listing_of new head (one_more changes) last))
  value_written new place value node linked is_node new_is =
      changed new place (λ n. record n { value = value }) node (record node { value = value })
      (λ n. record { place = refl; at = refl; kind = refl; stamp = refl })
      (λ n next node_is. ap (λ (v : Node). record v { value = value }) node_is)
      refl linked is_node new_is (λ n there plain. plain) count marked refl refl

  -- If the list has an unmarked regular node at a place, the node in the slot is regular and
  -- unmarked.
  regular_seen : (place : ℕ) (node : Node) → IsRegularAt (nodes_in old head) place → get old place ≡ Some (Linked node) → (node.kind ≡ Regular) × (node.marked ≡ false)
  regular_seen place node regular is_node =
      let linked = found_linked (nodes_in old head) place regular.node regular.is in
      let there = node_found (get old) (nodes_in old head) place node is.laid_out.chain linked is_node in
      let same = some-injective (sym there ∙ regular.is) in
      (ap (λ (v : NodeAt). v.kind) same ∙ regular.regular, ap (λ (v : NodeAt). v.marked) same ∙ regular.unmarked)

  -- If the list has an unmarked regular node at a place, it is the node in the slab's slot there,
  -- and the node in this slot is unmarked.
  pub regular_found : (place : ℕ) (node : Node) → IsRegularAt (nodes_in old head) place → get old place ≡ Some (Linked node) → (node_of (nodes_in old head) place ≡ Some (node_seen place node)) × (node.marked ≡ false)
  regular_found place node regular is_node =
      let linked = found_linked (nodes_in old head) place regular.node regular.is in
      (node_found (get old) (nodes_in old head) place node is.laid_out.chain linked is_node, (regular_seen place node regular is_node).1)

  -- If the list has an unmarked regular node, `count` is at least 1.
  pub counts_one : (place : ℕ) → IsRegularAt (nodes_in old head) place → 1 ≤ count
  counts_one place regular =
      let linked = found_linked (nodes_in old head) place regular.node regular.is in
      let slot = linked_node (get old) (nodes_in old head) place is.laid_out.chain linked in
      let marking = count-changed is_live (nodes_in old head) place (λ n. record n { marked = true }) regular.node regular.is in
      let one = live-regular regular.node regular.regular regular.unmarked in
      let none = live-marked (record regular.node { marked = true }) refl in
      omega (arith, marking, one, none, is.counted)

  dummy-not-regular : Dummy ≡ Regular → ⊥
  dummy-not-regular e = cc

  -- If a node is marked, the fields keep their invariant, and the nodes become `marked_at`.
  pub node_marked : (new : Slab SlotAt) (place : ℕ) (node : Node) → IsRegularAt (nodes_in old head) place → get old place ≡ Some (Linked node) → new ≡ with_value old place (Linked (record node { marked = true })) → IsKept new head last (count - 1) (marked + 1) × Becomes (listing_of old head changes last) (listing_of new head (one_more changes) last) (marked_at (nodes_in old head) place) × (changes < 2 ^ 64 → Follows (listing_of old head changes last) (listing_of new head (one_more changes) last))
  node_marked new place node regular is_node new_is =
      let linked = found_linked (nodes_in old head) place regular.node regular.is in
      let seen_is = regular_seen place node regular is_node in
      let one = live-regular (node_seen place node) seen_is.0 seen_is.1 in
      let none = live-marked (record (node_seen place node) { marked = true }) refl in
      let unmarked : gain is_marked (node_seen place node) ≡ 0 = ap (λ (b : Bool). cond {A = ℕ} b 1 0) seen_is.1 in
      let some = counts_one place regular in
      changed new place (λ n. record n { marked = true }) node (record node { marked = true })
      (λ n. record { place = refl; at = refl; kind = refl; stamp = refl })
      (λ n next node_is. ap (λ (v : Node). record v { marked = true }) node_is)
      refl linked is_node new_is
      (λ n there plain dummy.
      let n_is = some-injective (sym there ∙ regular.is) in
      absurd (dummy-not-regular (sym dummy ∙ ap (λ (v : NodeAt). v.kind) n_is ∙ regular.regular)))
      (count - 1) (marked + 1) (omega (arith, one, none, some)) (omega (arith, unmarked))

  -- The node before a marked node has the place of the marked node as its next place.
  pub behind_place : (pred : ℕ) (before : Node) (behind : IsBeforeMarked (nodes_in old head) pred) → get old pred ≡ Some (Linked before) → before.next ≡ Some behind.node.place
  behind_place pred before behind is_before =
      sym (next_is (get old) (nodes_in old head) pred before is.laid_out.chain (behind_linked old head pred behind) is_before) ∙ ap place_of behind.next

  -- If a linked node names a next place, the slot at that place holds a linked node.
  pub behind_slot : (pred place : ℕ) (before : Node) → IsLinked (nodes_in old head) pred → get old pred ≡ Some (Linked before) → before.next ≡ Some place → (node : Node) × (get old place ≡ Some (Linked node))
  behind_slot pred place before linked is_before next =
      let place_is = next_is (get old) (nodes_in old head) pred before is.laid_out.chain linked is_before ∙ next in
      linked_node (get old) (nodes_in old head) place is.laid_out.chain (linked_more _ _ (next_linked (nodes_in old head) pred place place_is).1)

  -- If the node at `place` comes right after `pred` and is marked, its sort key in the list is the
  -- one in its slot.
  pub behind_at : (pred place : ℕ) (before node : Node) (behind : IsBeforeMarked (nodes_in old head) pred) → get old pred ≡ Some (Linked before) → before.next ≡ Some place → get old place ≡ Some (Linked node) → behind.node.at ≡ node.at
  behind_at pred place before node behind is_before next is_node =
      let nodes = nodes_in old head in
      let place_is : behind.node.place ≡ place = some-injective (sym (behind_place pred before behind is_before) ∙ next) in
      let found : node_of nodes place ≡ Some behind.node = sym (ap (node_of nodes) place_is) ∙ next_found nodes pred behind.node (spread (get old) nodes is.laid_out.chain is.laid_out.rising) behind.next in
      let there = node_found (get old) nodes place node is.laid_out.chain (found_linked nodes place behind.node found) is_node in
      ap (λ (v : NodeAt). v.at) (some-injective (sym found ∙ there))

  marks_behind : (pred : ℕ) (behind : IsBeforeMarked (nodes_in old head) pred) → marked_count (unlinked_after (nodes_in old head) pred) + 1 ≡ marked_count (nodes_in old head)
  marks_behind pred behind =
      let one : gain is_marked behind.node ≡ 1 = ap (λ (b : Bool). cond {A = ℕ} b 1 0) behind.marked in
      let less = count-unlinked is_marked (nodes_in old head) pred behind.node behind.next in
      omega (arith, one, less)

  -- If the list has a marked node, `marked` is at least 1.
  pub marks_one : (pred : ℕ) → IsBeforeMarked (nodes_in old head) pred → 1 ≤ marked
  marks_one pred behind = omega (arith, marks_behind pred behind, is.marks)

  -- If a marked node is unlinked, the fields keep their invariant, and the nodes become
  -- `unlinked_after`.
  pub unlinked : (mid new : Slab SlotAt) (pred place : ℕ) (before behind : Node) → IsBeforeMarked (nodes_in old head) pred → get old pred ≡ Some (Linked before) → before.next ≡ Some place → get old place ≡ Some (Linked behind) → mid ≡ with_value old pred (Linked (record before { next = behind.next })) → Updates mid new place None → IsKept new head last count (marked - 1) × Becomes (listing_of old head changes last) (listing_of new head (one_more changes) last) (unlinked_after (nodes_in old head) pred) × (changes < 2 ^ 64 → Follows (listing_of old head changes last) (listing_of new head (one_more changes) last))
  unlinked mid new pred place before behind is_behind_marked is_before next is_behind mid_is freed =
      let nodes = nodes_in old head in
      let linked = behind_linked old head pred is_behind_marked in
      let laid = unlink_laid_out old mid new head last pred place nodes before behind is.laid_out is.stamps linked is_before next is_behind mid_is freed in
      let stamps = unlink_stamps old mid new head last pred place nodes before behind is.laid_out is.stamps linked is_before next is_behind mid_is freed in
      let becomes : Becomes (listing_of old head changes last) (listing_of new head (one_more changes) last) (unlinked_after (nodes_in old head) pred) = record {
        nodes = nodes_in_is new head (unlinked_after nodes pred) laid;
        head = refl;
        changes = refl;
        last = refl;
        out = unlink_out old mid new head last pred place nodes before behind is.laid_out is.stamps linked is_before next is_behind mid_is freed;
      } in
      let live = count-unlinked is_live nodes pred is_behind_marked.node is_behind_marked.next in
      let none = live-marked is_behind_marked.node is_behind_marked.marked in
      let now = kept new head last count (marked - 1) (unlinked_after nodes pred) laid stamps is.below
      (omega (arith, live, none, is.counted)) (omega (arith, marks_behind pred is_behind_marked, is.marks)) in
      let now_sound = sound new head (one_more changes) last count (marked - 1) now in (
        now,
        becomes,
        λ fits. unlinks_follow _ _ pred fits (spread (get old) nodes is.laid_out.chain is.laid_out.rising) is.laid_out.plain is_behind_marked now_sound becomes,
      )

  -- Lemmas on linking the node of a spare.
  module _ (mid new : Slab SlotAt) (pred : ℕ) (before : Node) (s : SpareAt) (next : Option ℕ)
      (is_before : get old pred ≡ Some (Linked before))
      (is_out : IsOut (listing_of old head changes last) s)
      (next_was : next ≡ before.next)
      (mid_is : mid ≡ with_value old pred (Linked (record before { next = Some s.place }))) where
    -- If only the next place of the node at `pred` is changed, the spare's slot still has the
    -- spare's stamp.
    pub filling_slot : get mid s.place ≡ Some (Out s.stamp)
    filling_slot = mid_spare old mid (with_value mid s.place (Linked (stored_node (filled s) before.next))) head last pred (nodes_in old head) (filled s) before is.laid_out is.stamps is_before is_out mid_is refl

    pub filled_in : (gained : ℕ) → gained ≡ cond (is_regular s.kind) 1 0 → new ≡ with_value mid s.place (Linked (stored_node (filled s) next)) → IsLinked (nodes_in old head) pred → IsRising (linked_after (nodes_in old head) pred (filled s)) → IsKept new head last (count + gained) marked × UsesSpare (listing_of old head changes last) (listing_of new head (one_more changes) last) (linked_after (nodes_in old head) pred (filled s)) s.place × (node_of (nodes_in new head) s.place ≡ Some (filled s)) × (changes < 2 ^ 64 → Follows (listing_of old head changes last) (listing_of new head (one_more changes) last))
    filled_in gained gained_is new_was linked rising =
        let nodes = nodes_in old head in
        let x : NodeAt = filled s in
        let new_is : new ≡ with_value mid s.place (Linked (stored_node (filled s) before.next)) = new_was ∙ ap (λ (k : Option ℕ). with_value mid s.place (Linked (stored_node (filled s) k))) next_was in
        let laid = link_laid_out old mid new head last pred nodes x before is.laid_out is.stamps is_before is_out mid_is new_is refl rising in
        let stamps = link_stamps old mid new head last pred nodes x before is.laid_out is.stamps is_before is_out mid_is new_is in
        let takes : UsesSpare (listing_of old head changes last) (listing_of new head (one_more changes) last) (linked_after (nodes_in old head) pred (filled s)) s.place = record {
          nodes = nodes_in_is new head (linked_after nodes pred x) laid;
          head = refl;
          changes = refl;
          last = refl;
          gone = link_gone old mid new head last pred nodes x before is.laid_out is.stamps is_before is_out mid_is new_is;
          others = link_others old mid new head last pred nodes x before is.laid_out is.stamps is_before is_out mid_is new_is;
        } in
        let live = count-linked is_live nodes pred x linked in
        let marks = count-linked is_marked nodes pred x linked in
        let absent = absent_free (get old) nodes s.place is.laid_out.chain (link_absent old mid new head last pred nodes x before is.laid_out is.stamps is_before is_out mid_is new_is) in
        let now = kept new head last (count + gained) marked (linked_after nodes pred x) laid stamps is.below
        (omega (arith, live, gained_is, live-fresh s.kind, is.counted)) (omega (arith, marks, is.marks)) in (
          now,
          takes,
          ap (λ (ns : List NodeAt). node_of ns s.place) takes.nodes ∙ now_found nodes pred x absent linked,
          λ fits. links_follow _ _ pred x fits absent is_out (sound new head (one_more changes) last (count + gained) marked now) takes,
        )
