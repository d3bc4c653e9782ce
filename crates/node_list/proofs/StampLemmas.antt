-- The stamps in a slab stay different when a slot is written or freed.
use Rattle.std.proofs.Common.{◌≡◌, ◌≢◌, ℕ, ◌≤◌, inl, inr, Some, None, sym, ◌∙◌, ap, arith}
use Rattle.std.proofs.lemmas.Bool.{cases_eq}
use Rattle.slab.specs.Slab.{Slab, get, Updates}
use Rattle.node_list.specs.Slots.{SlotAt}
use Rattle.node_list.specs.Layout.{HasStamps, slot_stamp}
use Rattle.node_list.proofs.OrderLemmas.{some-injective, some-none}

-- If a slot is written with a stamp that no other slot has, `HasStamps` still holds.
pub stamps_set : (old new : Slab SlotAt) (last more place : ℕ) (slot : SlotAt) → HasStamps old last → Updates old new place (Some slot) → last ≤ more → slot_stamp slot ≤ more → ((other : ℕ) (there : SlotAt) → other ≢ place → get old other ≡ Some there → slot_stamp there ≢ slot_stamp slot) → HasStamps new more
stamps_set old new last more place slot stamps updates rise within fresh = record {
  bound = λ p s is. elim (cases_eq p place) [
    | inl here ↦
        let same : Some slot ≡ Some s = sym updates.changed ∙ rw here at is in
        let same_stamp : slot_stamp slot ≡ slot_stamp s = ap slot_stamp (some-injective same) in
        omega arith
    | inr apart ↦
        let low = stamps.bound p s (sym (updates.others p apart) ∙ is) in
        omega arith
  ];
  one_place = λ p q s t is_s is_t same. elim (cases_eq p place) [
    | inl p_here ↦ elim (cases_eq q place) [
      | inl q_here ↦ p_here ∙ sym q_here
      | inr q_apart ↦
          let slot_is : Some slot ≡ Some s = sym updates.changed ∙ rw p_here at is_s in
          absurd (fresh q t q_apart (sym (updates.others q q_apart) ∙ is_t) (sym same ∙ sym (ap slot_stamp (some-injective slot_is))))
    ]
    | inr p_apart ↦ elim (cases_eq q place) [
      | inl q_here ↦
          let slot_is : Some slot ≡ Some t = sym updates.changed ∙ rw q_here at is_t in
          absurd (fresh p s p_apart (sym (updates.others p p_apart) ∙ is_s) (same ∙ sym (ap slot_stamp (some-injective slot_is))))
      | inr q_apart ↦ stamps.one_place p q s t (sym (updates.others p p_apart) ∙ is_s) (sym (updates.others q q_apart) ∙ is_t) same
    ]
  ];
}

-- If a slot is written with its old stamp, `HasStamps` still holds.
pub stamps_kept : (old new : Slab SlotAt) (last place : ℕ) (was slot : SlotAt) → HasStamps old last → get old place ≡ Some was → slot_stamp slot ≡ slot_stamp was → Updates old new place (Some slot) → HasStamps new last
stamps_kept old new last place was slot stamps is same updates =
    let low = stamps.bound place was is in
    stamps_set old new last last place slot stamps updates (omega arith) (omega arith)
    (λ other there apart is_there equal. apart (stamps.one_place other place there was is_there is (equal ∙ same)))

-- If a slot is freed, `HasStamps` still holds.
pub stamps_freed : (old new : Slab SlotAt) (last place : ℕ) → HasStamps old last → Updates old new place None → HasStamps new last
stamps_freed old new last place stamps updates = record {
  bound = λ p s is. stamps.bound p s (sym (updates.others p (in_use_apart p s is)) ∙ is);
  one_place = λ p q s t is_s is_t same.
      stamps.one_place p q s t (sym (updates.others p (in_use_apart p s is_s)) ∙ is_s) (sym (updates.others q (in_use_apart q t is_t)) ∙ is_t) same;
}
  where
    in_use_apart : (p : ℕ) (s : SlotAt) → get new p ≡ Some s → p ≢ place
    in_use_apart p s is here = some-none (sym (rw here at is) ∙ updates.changed)
