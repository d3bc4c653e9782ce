-- Shows that a placed cursor stays placed when the list changes (`still_placed`), because no stamp
-- is used again: a node with the noted stamp is the noted node.
use Rattle.std.proofs.Common.{◌≡◌, ℕ, inl, inr, List, Option, Some, None, Bool, true, false, refl, sym, ◌∙◌, ap, subst, arith, ◌==◌, ◌&&◌, not}
use Rattle.std.proofs.lemmas.Bool.Decides.{eqb_tells}
use Rattle.split_key.specs.Sort.{IsBefore, IsNotBefore}
use Rattle.split_key.proofs.SortLemmas.{before_total, cases_before, cases_same, true-false, same_test}
use Rattle.node_list.specs.Nodes.{NodeAt, Listing, IsLinked, node_of, next_of, place_of}
use Rattle.node_list.specs.Order.{IsSpread}
use Rattle.node_list.specs.Follow.{Follows}
use Rattle.node_list.specs.Sound.{IsSound}
use Rattle.list_steps.specs.declared.cursor.Cursor.{Cursor}
use Rattle.list_steps.specs.declared.cursor.Noted.{Noted}
use Rattle.list_steps.specs.Found.{behind, fits, is_noted, is_next_noted, noted, node_there, pred_of, at_of, change_number_of, with_key, IsBeyond, IsFound, IsPlaced}
use Rattle.list_steps.specs.Seek.{IsBelow, IsNotBelow, IsPred}
use Rattle.node_list.proofs.OrderLemmas.{some-injective, some-none}
use Rattle.node_list.proofs.NodesLemmas.{found_linked, linked_found, next_found}
use Rattle.list_steps.proofs.NodeLemmas.{found_at, next_linked, next_node}

and_left : (a b : Bool) → (a && b) ≡ true → a ≡ true
and_left true b is = refl
and_left false b is = is

and_right : (a b : Bool) → (a && b) ≡ true → b ≡ true
and_right true b is = is
and_right false b is = cc

pub same_from_test : (a b : ℕ) → (a == b) ≡ true → a ≡ b
same_from_test a b is = elim (eqb_tells a b) [
  | inl same ↦ same.1
  | inr differs ↦ absurd (true-false (sym is ∙ differs.0))
]

unmarked_from_not : (b : Bool) → not b ≡ true → b ≡ false
unmarked_from_not true is = cc
unmarked_from_not false is = refl

-- If the next node is at the noted place, `is_next_noted` tests only the node's stamp and mark.
pub next_noted : (n : NodeAt) (cur : Noted) → n.place ≡ cur.place → is_next_noted (Some n) (Some cur) ≡ (n.stamp == cur.stamp && not n.marked)
next_noted n cur same = rw (same_test n.place cur.place same) refl

-- The node is the one that the cursor noted, and is unmarked.
pub record Fits (n : NodeAt) (cur : Noted) : Type 0 where
  pub place : n.place ≡ cur.place
  pub stamp : n.stamp ≡ cur.stamp
  pub unmarked : n.marked ≡ false

-- If `is_next_noted` is true, the next node is the noted one and unmarked.
next_fits : (n : NodeAt) (cur : Noted) → is_next_noted (Some n) (Some cur) ≡ true → Fits n cur
next_fits n cur is = record {
  place = same_from_test n.place cur.place (and_left _ _ is);
  stamp = same_from_test n.stamp cur.stamp (and_left _ _ (and_right (n.place == cur.place) _ is));
  unmarked = unmarked_from_not n.marked (and_right (n.stamp == cur.stamp) _ (and_right (n.place == cur.place) _ is));
}

module _ (l : Listing) (c : Cursor) where
  pub fits_then : (n : NodeAt) → node_of l.nodes (pred_of c) ≡ Some n → is_noted (Some n) c.pred.stamp ≡ true → fits l c ≡ is_next_noted (behind l c) c.cur
  unfolding fits
  fits_then n is is_unmarked =
      ap (λ o. is_noted o c.pred.stamp && is_next_noted (behind l c) c.cur) is
      ∙ ap (λ b. b && is_next_noted (behind l c) c.cur) is_unmarked

  pub fits_else : (n : NodeAt) → node_of l.nodes (pred_of c) ≡ Some n → is_noted (Some n) c.pred.stamp ≡ false → fits l c ≡ false
  unfolding fits
  fits_else n is is_marked =
      ap (λ o. is_noted o c.pred.stamp && is_next_noted (behind l c) c.cur) is
      ∙ ap (λ b. b && is_next_noted (behind l c) c.cur) is_marked

  pub fits_none : node_of l.nodes (pred_of c) ≡ None → fits l c ≡ false
  unfolding fits
  fits_none is = ap (λ o. is_noted o c.pred.stamp && is_next_noted (behind l c) c.cur) is

-- A cursor that fits.
module _ (l : Listing) (c : Cursor) (fitting : fits l c ≡ true) where
  -- If a cursor fits, its first node is linked.
  pub fits_pred : (n : NodeAt) × (node_of l.nodes (pred_of c) ≡ Some n) × (n.stamp ≡ c.pred.stamp)
  unfolding fits
  fits_pred = go (node_of l.nodes (pred_of c)) (and_left _ _ fitting)
    where
      go : (o : Option NodeAt) → is_noted o c.pred.stamp ≡ true → (n : NodeAt) × (o ≡ Some n) × (n.stamp ≡ c.pred.stamp)
      go None is = absurd (true-false (sym is))
      go (Some n) is = (n, refl, same_from_test n.stamp c.pred.stamp (and_left _ _ is))

  pub fits_linked : IsLinked l.nodes (pred_of c)
  fits_linked = found_linked l.nodes (pred_of c) fits_pred.0 fits_pred.1

  -- If a cursor fits, and there is a node after its first node, that node is the second node that
  -- the cursor noted.
  pub fits_next : (m : NodeAt) → behind l c ≡ Some m → (cur : Noted) × (c.cur ≡ Some cur) × Fits m cur
  unfolding fits
  fits_next m is = go c.cur refl
    where
      holds : is_next_noted (Some m) c.cur ≡ true
      holds = ap (λ o. is_next_noted o c.cur) (sym is) ∙ and_right (is_noted (node_of l.nodes (pred_of c)) c.pred.stamp) _ fitting

      go : (cur : Option Noted) → c.cur ≡ cur → (k : Noted) × (c.cur ≡ Some k) × Fits m k
      go None cur_is = absurd (true-false (sym (sym (ap (λ o. is_next_noted (Some m) o) cur_is) ∙ holds)))
      go (Some k) cur_is = (k, cur_is, next_fits m k (sym (ap (λ o. is_next_noted (Some m) o) cur_is) ∙ holds))

-- A cursor that was placed, and fits.
module _ (l : Listing) (c : Cursor) (sound : IsSound l) (placed : IsPlaced l c) (fitting : fits l c ≡ true) where
  pub low : (n : NodeAt) → node_of l.nodes (pred_of c) ≡ Some n → IsBelow n (at_of c)
  low n is =
      let pred = fits_pred l c fitting in
      let same : pred.0 ≡ n = some-injective (sym pred.1 ∙ is) in
      placed.below n is (sym (ap (λ (v : NodeAt). v.stamp) same) ∙ pred.2)

  -- If a placed cursor fits, the node after its first node is not below the cursor's sort key.
  pub high : (m : NodeAt) → behind l c ≡ Some m → IsNotBelow m (at_of c)
  high m is =
      let next = fits_next l c fitting m is in
      let there = next_found l.nodes (pred_of c) m sound.spread is in
      let P : ℕ → Type 0 = λ p. node_of l.nodes p ≡ Some m in
      placed.beyond m next.0 next.1 (subst P next.2.place there) next.2.stamp

  -- If a placed cursor fits, and the node after its first node does not have the cursor's sort key,
  -- that node is above the sort key.
  pub above : node_there l c ≡ None → (m : NodeAt) → behind l c ≡ Some m → IsBefore (at_of c) m.at
  above none m is = elim (cases_same m.at (at_of c)) [
    | inl same ↦ absurd (some-none (rw same.0 at (sym (ap (λ o. with_key o (at_of c)) is) ∙ none)))
    | inr differs ↦ elim (cases_before (at_of c) m.at) [
      | inl before ↦ before
      | inr not_before ↦ absurd (differs.1 (before_total m.at (at_of c) (high m is) not_before))
    ]
  ]

-- The node `n` has the cursor's sort key, is right after the cursor's first node, and is unmarked.
pub record There (l : Listing) (c : Cursor) (n : NodeAt) : Type 0 where
  pub behind_is : behind l c ≡ Some n
  pub is : node_of l.nodes n.place ≡ Some n
  pub at : n.at ≡ at_of c
  pub unmarked : n.marked ≡ false

pub there : (l : Listing) (c : Cursor) (n : NodeAt) → IsSpread l.nodes → fits l c ≡ true → node_there l c ≡ Some n → There l c n
there l c n spread fitting is = go (behind l c) refl is
  where
    go : (o : Option NodeAt) → behind l c ≡ o → with_key o (at_of c) ≡ Some n → There l c n
    go None o_is with_is = absurd (some-none (sym with_is))
    go (Some m) o_is with_is = elim (cases_same m.at (at_of c)) [
      | inl same ↦
          let node_is : m ≡ n = some-injective (rw same.0 at with_is) in
          let is_behind : behind l c ≡ Some n = o_is ∙ ap (λ (v : NodeAt). Some v) node_is in
          record {
            behind_is = is_behind;
            is = next_found l.nodes (pred_of c) n spread is_behind;
            at = sym (ap (λ (v : NodeAt). v.at) node_is) ∙ same.1;
            unmarked = (fits_next l c fitting n is_behind).2.unmarked;
          }
      | inr differs ↦ absurd (some-none (sym (rw differs.0 at with_is)))
    ]

-- A cursor that was just found by a seek.
module _ (l : Listing) (c : Cursor) (found : IsFound l c) where
  -- A cursor that was just found by a seek fits.
  pub found_fits : fits l c ≡ true
  found_fits =
      fits_then l c found.pred found.pred_is pred_noted
      ∙ go (behind l c) c.cur found.cur_noted found.beyond
    where
      pred_noted : is_noted (Some found.pred) c.pred.stamp ≡ true
      pred_noted = rw (same_test found.pred.stamp c.pred.stamp found.pred_noted, found.unmarked) refl

      go : (o : Option NodeAt) (cur : Option Noted) → noted o ≡ cur → IsBeyond o (at_of c) → is_next_noted o cur ≡ true
      go None None is beyond = refl
      go None (Some cur) is beyond = absurd (some-none (sym is))
      go (Some m) None is beyond = absurd (some-none is)
      go (Some m) (Some cur) is beyond =
          let same : record { place = m.place; stamp = m.stamp } ≡ cur = some-injective {X = Noted} is in
          let place : m.place ≡ cur.place = ap (λ (n : Noted). n.place) same in
          let stamp : m.stamp ≡ cur.stamp = ap (λ (n : Noted). n.stamp) same in
          rw (same_test m.place cur.place place, same_test m.stamp cur.stamp stamp, beyond.0) refl

  -- A cursor that was just found by a seek is placed (`IsPlaced`).
  pub found_placed : IsSound l → IsPlaced l c
  found_placed sound = record {
    pred_known = omega (arith, sound.stamped.bound (pred_of c) found.pred found.pred_is, found.pred_noted);
    pred_apart = λ place is. sound.stamped.apart (pred_of c) place found.pred found.pred_is (is ∙ ap Some (sym found.pred_noted));
    below = λ n is stamp.
        subst (λ k. IsBelow k (at_of c)) (some-injective (sym found.pred_is ∙ is)) found.below;
    cur_known = λ cur cur_is. let k = cur_node cur cur_is in omega (arith, sound.stamped.bound cur.place k.0 k.1, k.2);
    cur_apart = λ cur place cur_is is. let k = cur_node cur cur_is in sound.stamped.apart cur.place place k.0 k.1 (is ∙ ap Some (sym k.2));
    beyond = λ m cur cur_is is stamp.
        let k = cur_node cur cur_is in
        subst (λ n. IsNotBelow n (at_of c)) (some-injective (sym k.1 ∙ is)) k.3;
    changes_known = omega (arith, found.changes);
    held = λ same below. found_fits;
  }
    where
      go : (o : Option NodeAt) (cur : Noted) → behind l c ≡ o → noted o ≡ Some cur → IsBeyond o (at_of c) → (k : NodeAt) × (node_of l.nodes cur.place ≡ Some k) × (k.stamp ≡ cur.stamp) × IsNotBelow k (at_of c)
      go None cur o_is noted_is beyond = absurd (some-none (sym noted_is))
      go (Some k) cur o_is noted_is beyond =
          let place : k.place ≡ cur.place = ap (λ (n : Noted). n.place) (some-injective noted_is) in
          let stamp : k.stamp ≡ cur.stamp = ap (λ (n : Noted). n.stamp) (some-injective noted_is) in
          let P : ℕ → Type 0 = λ p. node_of l.nodes p ≡ Some k in
          (k, subst P place (next_found l.nodes (pred_of c) k sound.spread o_is), stamp, beyond.1)

      cur_node : (cur : Noted) → c.cur ≡ Some cur → (k : NodeAt) × (node_of l.nodes cur.place ≡ Some k) × (k.stamp ≡ cur.stamp) × IsNotBelow k (at_of c)
      cur_node cur cur_is = go (behind l c) cur refl (found.cur_noted ∙ cur_is) found.beyond

-- If the node after `place` has the place `next`, then `next_of` at `place` and `node_of` at `next`
-- give nodes with the same note.
pub noted_next : (nodes : List NodeAt) (place next : ℕ) (k : Noted) → IsSpread nodes → place_of (next_of nodes place) ≡ Some next → noted (node_of nodes next) ≡ Some k → noted (next_of nodes place) ≡ Some k
noted_next nodes place next k spread is note =
    let found = linked_found nodes next (next_linked nodes place next spread is) in
    ap noted (next_node nodes place next spread is found.0 found.1 ∙ sym found.1) ∙ note

-- If a cursor notes the two neighbours of the position of its sort key, `IsFound` holds.
pub noted_found : (l : Listing) (place : ℕ) (c : Cursor) → IsPred l.nodes place (at_of c) → IsBeyond (next_of l.nodes place) (at_of c) → noted (node_of l.nodes place) ≡ Some c.pred → c.cur ≡ noted (next_of l.nodes place) → change_number_of c ≡ l.changes → IsFound l c
noted_found l place c before beyond pred_is cur_is changes_are = record {
  pred = before.node;
  pred_is = subst At here before.is;
  pred_noted = ap (λ (n : Noted). n.stamp) same;
  unmarked = before.unmarked;
  below = before.below;
  cur_noted = subst Behind here (sym cur_is);
  beyond = subst Beyond here beyond;
  changes = changes_are;
}
  where
    same : record { place = before.node.place; stamp = before.node.stamp } ≡ c.pred
    same = some-injective {X = Noted} (sym (ap noted before.is) ∙ pred_is)

    here : place ≡ c.pred.place
    here = sym (found_at l.nodes place before.node before.is).here ∙ ap (λ (n : Noted). n.place) same

    At : ℕ → Type 0
    At p = node_of l.nodes p ≡ Some before.node

    Behind : ℕ → Type 0
    Behind p = noted (next_of l.nodes p) ≡ c.cur

    Beyond : ℕ → Type 0
    Beyond p = IsBeyond (next_of l.nodes p) (at_of c)

-- Whether a cursor fits depends only on the list's nodes.
pub fits_same : (old new : Listing) (c : Cursor) → new.nodes ≡ old.nodes → fits new c ≡ fits old c
unfolding fits
fits_same old new c same = ap (λ ns. is_noted (node_of ns (pred_of c)) c.pred.stamp && is_next_noted (next_of ns (pred_of c)) c.cur) same

-- If a cursor is placed, it remains placed when the list changes.
pub still_placed : (old new : Listing) (c : Cursor) → IsPlaced old c → Follows old new → IsPlaced new c
still_placed old new c placed follows = record {
  pred_known = omega (arith, placed.pred_known, follows.last);
  pred_apart = λ place is. elim (follows.out place c.pred.stamp is) [
    | inl was ↦ placed.pred_apart place was
    | inr above ↦ absurd (omega (arith, placed.pred_known))
  ];
  below = λ n is stamp. elim (follows.linked (pred_of c) n is) [
    | inl there ↦
        let low = placed.below there.0 there.1 (there.2.stamp ∙ stamp) in
        subst (λ k. IsBefore k (at_of c)) there.2.at low
    | inr fresh ↦ elim fresh [
      | inl was ↦ absurd (placed.pred_apart (pred_of c) (was ∙ ap Some stamp))
      | inr above ↦ absurd (omega (arith, placed.pred_known))
    ]
  ];
  cur_known = λ cur cur_is. omega (arith, placed.cur_known cur cur_is, follows.last);
  cur_apart = λ cur place cur_is is. elim (follows.out place cur.stamp is) [
    | inl was ↦ placed.cur_apart cur place cur_is was
    | inr above ↦ absurd (omega (arith, placed.cur_known cur cur_is))
  ];
  beyond = λ m cur cur_is is stamp. elim (follows.linked cur.place m is) [
    | inl there ↦
        let high = placed.beyond there.0 cur cur_is there.1 (there.2.stamp ∙ stamp) in
        subst (λ k. IsNotBefore k (at_of c)) there.2.at high
    | inr fresh ↦ elim fresh [
      | inl was ↦ absurd (placed.cur_apart cur cur.place cur_is (was ∙ ap Some stamp))
      | inr above ↦ absurd (omega (arith, placed.cur_known cur cur_is))
    ]
  ];
  changes_known = omega (arith, placed.changes_known, follows.changes);
  held = λ same below.
      let at_old : old.changes ≡ change_number_of c = omega (arith, placed.changes_known, follows.changes) in
      let unchanged : new.changes ≡ old.changes = omega arith in
      fits_same old new c (follows.still unchanged below) ∙ placed.held at_old (omega arith);
}
