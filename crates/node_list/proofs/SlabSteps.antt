-- Shows that a slab lays out the list with one node linked, changed or unlinked, because each write
-- changes one slot in use, and every other slot stays as it is.
use Rattle.std.proofs.Common.{◌≡◌, ◌≢◌, ℕ, inl, inr, List, Option, Some, None, false, map, refl, sym, ◌∙◌, ap, get_or}
use Rattle.std.proofs.lemmas.Bool.{cases_eq}
use Rattle.slab.specs.Slab.{Slab, get, Updates, with_value}
use Rattle.slab.proofs.SlabLemmas.{Updates-with_value}
use Rattle.node_list.specs.declared.node.Node.{Node}
use Rattle.node_list.specs.declared.node.Kind.TheVariants.{Dummy}
use Rattle.node_list.specs.Slots.{SlotAt, Linked, Out}
use Rattle.node_list.specs.Nodes.{NodeAt, IsLinked, linked_after, unlinked_after, changed_at, node_of, next_of, place_of}
use Rattle.node_list.specs.Order.{IsRising, IsSpread}
use Rattle.node_list.specs.Follow.{IsSameNode}
use Rattle.node_list.specs.Layout.{stored_node, IsLaidOut, HasStamps, out_stamp}
use Rattle.node_list.proofs.OrderLemmas.{some-none, each_linked, each_unlinked, each_changed, rising_unlinked, rising_changed}
use Rattle.node_list.proofs.AfterLemmas.{absent_unlinked, still_linked, now_linked, changed_linked, others_linked}
use Rattle.node_list.proofs.ChainLemmas.{out-not-linked, spread, next_is, chain_absent, absent_free}
use Rattle.node_list.proofs.ChainSteps.{chain_linked, chain_unlinked, chain_changed, starts_linked, starts_unlinked, starts_changed}
use Rattle.node_list.proofs.StampLemmas.{stamps_kept, stamps_freed}
use Rattle.node_list.proofs.SpareSteps.{out_in, slot_out}

-- A write to a slot in use changes this slot and no other.
write_updates : (old new : Slab SlotAt) (place : ℕ) (was slot : SlotAt) → get old place ≡ Some was → new ≡ with_value old place slot → Updates old new place (Some slot)
write_updates old new place was slot is written = rw written (Updates-with_value old place slot (rw is refl))

-- Lemmas on linking a node.
module _ (old mid new : Slab SlotAt) (head last pred : ℕ) (nodes : List NodeAt) (x : NodeAt) (before : Node)
    (laid : IsLaidOut old head nodes) (stamps : HasStamps old last)
    (is_before : get old pred ≡ Some (Linked before))
    (is_out : get_or (map out_stamp old.slots) x.place None ≡ Some x.stamp)
    (mid_is : mid ≡ with_value old pred (Linked (record before { next = Some x.place })))
    (new_is : new ≡ with_value mid x.place (Linked (stored_node x before.next))) where
  pub spare_slot : get old x.place ≡ Some (Out x.stamp)
  spare_slot = slot_out (get old x.place) x.stamp (sym (out_in old x.place) ∙ is_out)

  x_apart : x.place ≢ pred
  x_apart same = out-not-linked (sym spare_slot ∙ ap (get old) same ∙ is_before)

  joined : Updates old mid pred (Some (Linked (record before { next = Some x.place })))
  joined = write_updates old mid pred (Linked before) _ is_before mid_is

  pub mid_spare : get mid x.place ≡ Some (Out x.stamp)
  mid_spare = joined.others x.place x_apart ∙ spare_slot

  filled_in : Updates mid new x.place (Some (Linked (stored_node x before.next)))
  filled_in = write_updates mid new x.place (Out x.stamp) _ mid_spare new_is

  others_kept : (other : ℕ) → other ≢ pred → other ≢ x.place → get new other ≡ get old other
  others_kept other not_pred not_x = filled_in.others other not_x ∙ joined.others other not_pred

  new_pred : get new pred ≡ Some (Linked (record before { next = Some x.place }))
  new_pred = filled_in.others pred (λ same. x_apart (sym same)) ∙ joined.changed

  pub link_absent : (node : Node) → get old x.place ≢ Some (Linked node)
  link_absent node is = out-not-linked (sym spare_slot ∙ is)

  pub link_laid_out : x.marked ≡ false → IsRising (linked_after nodes pred x) → IsLaidOut new head (linked_after nodes pred x)
  link_laid_out unmarked rising = record {
    chain = chain_linked (get old) (get new) nodes pred x before laid.chain
        (spread (get old) nodes laid.chain laid.rising)
        (absent_free (get old) nodes x.place laid.chain link_absent)
        is_before new_pred filled_in.changed others_kept;
    starts = starts_linked nodes head pred x laid.starts;
    rising = rising;
    plain = each_linked (λ n. n.kind ≡ Dummy → n.marked ≡ false) nodes pred x (λ dummy. unmarked) laid.plain;
    all = λ place node is. elim (cases_eq place pred) [
      | inl at_pred ↦ still_linked nodes pred place x (rw at_pred (laid.all pred before is_before))
      | inr apart ↦ elim (cases_eq place x.place) [
        | inl at_x ↦ rw at_x (now_linked nodes pred x (laid.all pred before is_before))
        | inr further ↦ still_linked nodes pred place x (laid.all place node (sym (others_kept place apart further) ∙ is))
      ]
    ];
  }

  pub link_stamps : HasStamps new last
  link_stamps =
      let first_write = stamps_kept old mid last pred (Linked before) _ stamps is_before refl joined in
      stamps_kept mid new last x.place (Out x.stamp) _ first_write mid_spare refl filled_in

  pub link_gone : get_or (map out_stamp new.slots) x.place None ≡ None
  link_gone = out_in new x.place ∙ ap out_stamp filled_in.changed

  pub link_others : (other : ℕ) → other ≢ x.place → get_or (map out_stamp new.slots) other None ≡ get_or (map out_stamp old.slots) other None
  link_others other apart = out_in new other ∙ elim (cases_eq other pred) [
    | inl here ↦ rw here (ap out_stamp new_pred ∙ sym (ap out_stamp is_before)) ∙ sym (out_in old other)
    | inr more ↦ ap out_stamp (others_kept other more apart) ∙ sym (out_in old other)
  ]

-- Lemmas on a node that is changed.
module _ (old new : Slab SlotAt) (head last place : ℕ) (nodes : List NodeAt) (change : NodeAt → NodeAt) (node written : Node)
    (laid : IsLaidOut old head nodes) (stamps : HasStamps old last)
    (same : (n : NodeAt) → IsSameNode n (change n))
    (stores : (n : NodeAt) (next : Option ℕ) → node ≡ stored_node n next → written ≡ stored_node (change n) next)
    (stamp : written.stamp ≡ node.stamp)
    (is_node : get old place ≡ Some (Linked node))
    (new_is : new ≡ with_value old place (Linked written)) where
  changed_in : Updates old new place (Some (Linked written))
  changed_in = write_updates old new place (Linked node) _ is_node new_is

  pub change_laid_out : ((n : NodeAt) → node_of nodes place ≡ Some n → (n.kind ≡ Dummy → n.marked ≡ false) → (change n).kind ≡ Dummy → (change n).marked ≡ false) → IsLaidOut new head (changed_at nodes place change)
  change_laid_out plain = record {
    chain = chain_changed (get old) (get new) nodes place change node written laid.chain (spread (get old) nodes laid.chain laid.rising) same stores is_node changed_in.changed changed_in.others;
    starts = starts_changed nodes head place change same laid.starts;
    rising = rising_changed nodes place change same laid.rising;
    plain = each_changed (λ n. n.kind ≡ Dummy → n.marked ≡ false) nodes place change plain laid.plain;
    all = λ other n is. elim (cases_eq other place) [
      | inl here ↦ changed_linked nodes place other change same (rw here (laid.all place node is_node))
      | inr apart ↦ changed_linked nodes place other change same (laid.all other n (sym (changed_in.others other apart) ∙ is))
    ];
  }

  pub change_stamps : HasStamps new last
  change_stamps = stamps_kept old new last place (Linked node) _ stamps is_node stamp changed_in

  pub change_out : (other : ℕ) → get_or (map out_stamp new.slots) other None ≡ get_or (map out_stamp old.slots) other None
  change_out other = out_in new other ∙ elim (cases_eq other place) [
    | inl here ↦ rw here (ap out_stamp changed_in.changed ∙ sym (ap out_stamp is_node)) ∙ sym (out_in old other)
    | inr more ↦ ap out_stamp (changed_in.others other more) ∙ sym (out_in old other)
  ]

-- Lemmas on unlinking a node.
module _ (old mid new : Slab SlotAt) (head last pred place : ℕ) (nodes : List NodeAt) (before behind : Node)
    (laid : IsLaidOut old head nodes) (stamps : HasStamps old last)
    (linked : IsLinked nodes pred)
    (is_before : get old pred ≡ Some (Linked before))
    (next : before.next ≡ Some place)
    (is_behind : get old place ≡ Some (Linked behind))
    (mid_is : mid ≡ with_value old pred (Linked (record before { next = behind.next })))
    (freed : Updates mid new place None) where
  passed : Updates old mid pred (Some (Linked (record before { next = behind.next })))
  passed = write_updates old mid pred (Linked before) _ is_before mid_is

  place_next : place_of (next_of nodes pred) ≡ Some place
  place_next = next_is (get old) nodes pred before laid.chain linked is_before ∙ next

  apart_nodes : IsSpread nodes
  apart_nodes = spread (get old) nodes laid.chain laid.rising

  pub unlink_laid_out : IsLaidOut new head (unlinked_after nodes pred)
  unlink_laid_out = record {
    chain = chain_absent (get mid) (get new) place (unlinked_after nodes pred)
        (chain_unlinked (get old) (get mid) nodes pred place before behind laid.chain apart_nodes is_before next is_behind passed.changed passed.others)
        (absent_unlinked nodes pred place apart_nodes place_next)
        freed.others;
    starts = starts_unlinked nodes head pred laid.starts;
    rising = rising_unlinked nodes pred laid.rising;
    plain = each_unlinked (λ n. n.kind ≡ Dummy → n.marked ≡ false) nodes pred laid.plain;
    all = λ other n is. elim (cases_eq other place) [
      | inl here ↦ absurd (some-none (sym (rw here at is) ∙ freed.changed))
      | inr apart ↦ others_linked nodes pred place other place_next apart (elim (cases_eq other pred) [
        | inl at_pred ↦ rw at_pred linked
        | inr further ↦ laid.all other n (sym (passed.others other further) ∙ sym (freed.others other apart) ∙ is)
      ])
    ];
  }

  pub unlink_stamps : HasStamps new last
  unlink_stamps = stamps_freed mid new last place (stamps_kept old mid last pred (Linked before) _ stamps is_before refl passed) freed

  pub unlink_out : (other : ℕ) → get_or (map out_stamp new.slots) other None ≡ get_or (map out_stamp old.slots) other None
  unlink_out other = out_in new other ∙ elim (cases_eq other place) [
    | inl here ↦ rw here (ap out_stamp freed.changed ∙ sym (ap out_stamp is_behind)) ∙ sym (out_in old other)
    | inr more ↦ ap out_stamp (freed.others other more) ∙ elim (cases_eq other pred) [
      | inl at_pred ↦ rw at_pred (ap out_stamp passed.changed ∙ sym (ap out_stamp is_before)) ∙ sym (out_in old other)
      | inr further ↦ ap out_stamp (passed.others other further) ∙ sym (out_in old other)
    ]
  ]
