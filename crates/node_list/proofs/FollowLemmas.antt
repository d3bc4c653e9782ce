-- Shows that a list follows the list before each change (`Follows`) and is sound, because a new
-- node has a stamp that was out or is new, and only a marked node is unlinked.
use Rattle.std.proofs.Common.{◌≡◌, ◌≢◌, ℕ, ◌+◌, ◌-◌, ◌^◌, ◌<◌, inl, inr, Some, false, refl, sym, ◌∙◌, ap, arith}
use Rattle.std.proofs.lemmas.Bool.{cases_eq}
use Rattle.slab.specs.Slab.{Slab, get}
use Rattle.node_list.specs.declared.node.Node.{Node}
use Rattle.node_list.specs.declared.node.Kind.TheVariants.{Dummy}
use Rattle.node_list.specs.Slots.{SlotAt, Linked, Out}
use Rattle.node_list.specs.Nodes.{NodeAt, Listing, node_of, out_at, linked_after, unlinked_after, changed_at, GivesOut, ReturnsSpare, Becomes, UsesSpare, IsBeforeMarked}
use Rattle.node_list.specs.Order.{AbsentFrom, IsSpread}
use Rattle.node_list.specs.Follow.{IsSameNode, Follows}
use Rattle.node_list.specs.Sound.{AllPlain, IsStamped, IsSound}
use Rattle.node_list.specs.Layout.{nodes_in, listing_of, IsLaidOut, HasStamps, IsKept}
use Rattle.node_list.proofs.OrderLemmas.{some-injective, some-none, each_found}
use Rattle.node_list.proofs.NodesLemmas.{same_node, same_after, found_linked, first_found}
use Rattle.node_list.proofs.AfterLemmas.{found_linked_after, found_changed, found_unlinked, still_found_linked, still_found_changed, still_found_unlinked}
use Rattle.node_list.proofs.ChainLemmas.{true-ne-false, out-not-linked, linked_node, node_found, spread}
use Rattle.node_list.proofs.SpareSteps.{out_in, slot_out}

-- `Follows` is reflexive.
pub follows_self : (l : Listing) → Follows l l
follows_self l = record {
  sound = λ is. is;
  last = omega arith;
  changes = omega arith;
  still = λ same below. refl;
  linked = λ place n is. inl (n, is, same_node n);
  out = λ place stamp is. inl is;
  dummies = λ place n is dummy. (n, is, same_node n);
}

-- `Follows` is transitive.
pub follows_twice : (a b c : Listing) → Follows a b → Follows b c → Follows a c
follows_twice a b c first second = record {
  sound = λ is. second.sound (first.sound is);
  last = omega (arith, first.last, second.last);
  changes = omega (arith, first.changes, second.changes);
  still = λ same below.
      let at_b : b.changes ≡ a.changes = omega (arith, first.changes, second.changes) in
      let at_c : c.changes ≡ b.changes = omega arith in
      let below_b : b.changes < 2 ^ 64 - 1 = omega arith in
      second.still at_c below ∙ first.still at_b below_b;
  linked = λ place n is. elim (second.linked place n is) [
    | inl there ↦ elim (first.linked place there.0 there.1) [
      | inl before ↦ inl (before.0, before.1, same_after _ _ _ before.2 there.2)
      | inr fresh ↦ elim fresh [
        | inl was_out ↦ inr (inl (was_out ∙ ap Some there.2.stamp))
        | inr above ↦ inr (inr (omega (arith, there.2.stamp)))
      ]
    ]
    | inr fresh ↦ elim fresh [
      | inl was_out ↦ inr (first.out place n.stamp was_out)
      | inr above ↦ inr (inr (omega (arith, first.last)))
    ]
  ];
  out = λ place stamp is. elim (second.out place stamp is) [
    | inl was_out ↦ first.out place stamp was_out
    | inr above ↦ inr (omega (arith, first.last))
  ];
  dummies = λ place n is dummy.
      let in_b = first.dummies place n is dummy in
      let in_c = second.dummies place in_b.0 in_b.1 (sym in_b.2.kind ∙ dummy) in
      (in_c.0, in_c.1, same_after _ _ _ in_b.2 in_c.2);
}

-- If a list gives out a spare, `Follows` holds for the old list and the new one.
pub gives_out_follows : (old new : Listing) (place stamp : ℕ) → stamp ≡ old.last + 1 → IsSound new → GivesOut old new place stamp → Follows old new
gives_out_follows old new place stamp above now_sound given = record {
  sound = λ was. now_sound;
  last = omega (arith, given.last);
  changes = omega (arith, given.changes);
  still = λ same below. given.nodes;
  linked = λ at n is. inl (n, rw given.nodes at is, same_node n);
  out = λ at is_stamp is. elim (cases_eq at place) [
    | inl here ↦ inr (let same : stamp ≡ is_stamp = some-injective (sym given.is_out ∙ rw here at is) in omega arith)
    | inr apart ↦ inl (sym (given.others at apart) ∙ is)
  ];
  dummies = λ at n is dummy. (n, rw given.nodes is, same_node n);
}

pub takes_back_follows : (old new : Listing) (place : ℕ) → IsSound new → ReturnsSpare old new place → Follows old new
takes_back_follows old new place now_sound back = record {
  sound = λ was. now_sound;
  last = omega (arith, back.last);
  changes = omega (arith, back.changes);
  still = λ same below. back.nodes;
  linked = λ at n is. inl (n, rw back.nodes at is, same_node n);
  out = λ at stamp is. elim (cases_eq at place) [
    | inl here ↦ absurd (some-none (sym (rw here at is) ∙ back.gone))
    | inr apart ↦ inl (sym (back.others at apart) ∙ is)
  ];
  dummies = λ at n is dummy. (n, rw back.nodes is, same_node n);
}

pub links_follow : (old new : Listing) (pred : ℕ) (x : NodeAt) → old.changes < 2 ^ 64 → AbsentFrom x.place old.nodes → out_at old x.place ≡ Some x.stamp → IsSound new → UsesSpare old new (linked_after old.nodes pred x) x.place → Follows old new
links_follow old new pred x fits absent was_out now_sound takes = record {
  sound = λ was. now_sound;
  last = omega (arith, takes.last);
  changes = omega (arith, takes.changes);
  still = λ same below. absurd (omega (arith, takes.changes));
  linked = λ place n is. elim (found_linked_after old.nodes pred place x n (rw takes.nodes at is)) [
    | inl there ↦ inl (n, there, same_node n)
    | inr spare ↦ inr (inl (ap (out_at old) (sym spare.1) ∙ was_out ∙ ap (λ (v : NodeAt). Some v.stamp) spare.0))
  ];
  out = λ place stamp is. elim (cases_eq place x.place) [
    | inl here ↦ absurd (some-none (sym (rw here at is) ∙ takes.gone))
    | inr apart ↦ inl (sym (takes.others place apart) ∙ is)
  ];
  dummies = λ place n is dummy. (n, rw takes.nodes (still_found_linked old.nodes pred place x n absent is), same_node n);
}

pub changes_follow : (old new : Listing) (changed : ℕ) (change : NodeAt → NodeAt) → old.changes < 2 ^ 64 → ((n : NodeAt) → IsSameNode n (change n)) → IsSound new → Becomes old new (changed_at old.nodes changed change) → Follows old new
changes_follow old new changed change fits same now_sound now = record {
  sound = λ was. now_sound;
  last = omega (arith, now.last);
  changes = omega (arith, now.changes);
  still = λ same_changes below. absurd (omega (arith, now.changes));
  linked = λ place n is. inl (found_changed old.nodes changed place change n same (rw now.nodes at is));
  out = λ place stamp is. inl (sym (now.out place) ∙ is);
  dummies = λ place n is dummy. rw now.nodes (still_found_changed old.nodes changed place change n same is);
}

pub unlinks_follow : (old new : Listing) (pred : ℕ) → old.changes < 2 ^ 64 → IsSpread old.nodes → AllPlain old.nodes → IsBeforeMarked old.nodes pred → IsSound new → Becomes old new (unlinked_after old.nodes pred) → Follows old new
unlinks_follow old new pred fits spread plain behind now_sound now = record {
  sound = λ was. now_sound;
  last = omega (arith, now.last);
  changes = omega (arith, now.changes);
  still = λ same below. absurd (omega (arith, now.changes));
  linked = λ place n is. inl (n, found_unlinked old.nodes pred place n spread (rw now.nodes at is), same_node n);
  out = λ place stamp is. inl (sym (now.out place) ∙ is);
  dummies = λ place n is dummy.
      let unmarked = each_found (λ k. k.kind ≡ Dummy → k.marked ≡ false) old.nodes place n plain is dummy in
      let differs : n ≢ behind.node = λ same. true-ne-false (sym behind.marked ∙ sym (ap (λ (v : NodeAt). v.marked) same) ∙ unmarked) in
      (n, rw now.nodes (still_found_unlinked old.nodes pred place n behind.node spread behind.next differs is), same_node n);
}

-- No stamp of a linked node or of a spare is above the last stamp, and no two places have the same
-- stamp.
stamped : (slab : Slab SlotAt) (head changes last : ℕ) → IsLaidOut slab head (nodes_in slab head) → HasStamps slab last → IsStamped (listing_of slab head changes last)
stamped slab head changes last laid stamps =
    let slot_of : (place : ℕ) (n : NodeAt) → node_of (nodes_in slab head) place ≡ Some n → (node : Node) × (get slab place ≡ Some (Linked node)) × (node.stamp ≡ n.stamp) = λ place n is.
    let linked = found_linked _ place n is in
    let there = linked_node (get slab) (nodes_in slab head) place laid.chain linked in
    let same = some-injective (sym (node_found (get slab) (nodes_in slab head) place there.0 laid.chain linked there.1) ∙ is) in
    (there.0, there.1, ap (λ (v : NodeAt). v.stamp) same) in
    let spare_of : (place stamp : ℕ) → out_at (listing_of slab head changes last) place ≡ Some stamp → get slab place ≡ Some (Out stamp) = λ place stamp is.
    slot_out (get slab place) stamp (sym (out_in slab place) ∙ is) in
    record {
      bound = λ place n is.
          let slot = slot_of place n is in
          let low = stamps.bound place (Linked slot.0) slot.1 in
          omega (arith, slot.2);
      alone = λ p q n m is_n is_m same.
          let first = slot_of p n is_n in
          let second = slot_of q m is_m in
          stamps.one_place p q (Linked first.0) (Linked second.0) first.1 second.1 (first.2 ∙ same ∙ sym second.2);
      apart = λ place other n is is_out.
          let slot = slot_of place n is in
          let spare = spare_of other n.stamp is_out in
          let same = stamps.one_place place other (Linked slot.0) (Out n.stamp) slot.1 spare slot.2 in
          out-not-linked (sym spare ∙ ap (get slab) (sym same) ∙ slot.1);
      out_bound = λ place stamp is. stamps.bound place (Out stamp) (spare_of place stamp is);
      out_alone = λ p q stamp is_p is_q. stamps.one_place p q (Out stamp) (Out stamp) (spare_of p stamp is_p) (spare_of q stamp is_q) refl;
    }

-- If the fields of a list meet their invariant (`IsKept`), the list is sound (`IsSound`).
pub sound : (slab : Slab SlotAt) (head changes last count marked : ℕ) → IsKept slab head last count marked → IsSound (listing_of slab head changes last)
sound slab head changes last count marked kept = record {
  first = record {
    node = kept.laid_out.starts.node;
    first = kept.laid_out.starts.is;
    is = ap (node_of (nodes_in slab head)) (sym kept.laid_out.starts.place) ∙ first_found _ _ kept.laid_out.starts.is;
    at = kept.laid_out.starts.at;
    kind = kept.laid_out.starts.kind;
  };
  rising = kept.laid_out.rising;
  spread = spread (get slab) (nodes_in slab head) kept.laid_out.chain kept.laid_out.rising;
  plain = kept.laid_out.plain;
  stamped = stamped slab head changes last kept.laid_out kept.stamps;
  last = kept.below;
}
