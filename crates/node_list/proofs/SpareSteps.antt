-- A new list, and a list after a spare is given out or given back.
use Rattle.std.proofs.Common.{◌≡◌, ◌≢◌, ℕ, ◌+◌, inl, inr, List, [], ◌∷◌, Option, Some, None, map, refl, sym, ◌∙◌, ap, arith, get_or}
use Rattle.std.proofs.Math.ListN.{get_or-map}
use Rattle.std.proofs.lemmas.Bool.{cases_eq}
use Rattle.slab.specs.Slab.{Slab, get, Updates}
use Rattle.node_list.specs.Slots.{SlotAt, Linked, Out}
use Rattle.node_list.specs.Nodes.{NodeAt, first_dummy, IsLinked}
use Rattle.node_list.specs.Order.{IsRising}
use Rattle.node_list.specs.Layout.{stored_node, IsChain, IsLaidOut, HasStamps, out_stamp}
use Rattle.node_list.proofs.OrderLemmas.{some-injective, some-none}
use Rattle.node_list.proofs.ChainLemmas.{out-not-linked, chain_absent, absent_free}
use Rattle.node_list.proofs.StampLemmas.{stamps_set, stamps_freed}

-- For each place, a list's `out` has what `out_stamp` gives for the slab's slot there.
pub out_in : (slab : Slab SlotAt) (place : ℕ) → get_or (map out_stamp slab.slots) place None ≡ out_stamp (get slab place)
out_in slab place = get_or-map out_stamp slab.slots place None

-- If `out_stamp` gives a stamp for a slot, the slot is kept for a spare with this stamp.
pub slot_out : (slot : Option SlotAt) (stamp : ℕ) → out_stamp slot ≡ Some stamp → slot ≡ Some (Out stamp)
slot_out None stamp is = absurd (some-none (sym is))
slot_out (Some (Linked n)) stamp is = absurd (some-none (sym is))
slot_out (Some (Out t)) stamp is = ap (λ n. Some (Out n)) (some-injective is)

-- Lemmas on a new list.
module _ (old new : Slab SlotAt) (head stamp : ℕ) (empty : old.slots ≡ []) (updates : Updates old new head (Some (Linked (stored_node (first_dummy head stamp) None)))) where
  nothing_at : (place : ℕ) → get old place ≡ None
  nothing_at place = ap (λ (slots : List (Option SlotAt)). get_or slots place None) empty

  pub new_laid_out : IsLaidOut new head (first_dummy head stamp ∷ [])
  unfolding IsChain IsRising IsLinked
  new_laid_out = record {
    chain = (updates.changed, tt);
    starts = record { node = first_dummy head stamp; is = refl; place = refl; at = refl; kind = refl };
    rising = (tt, tt);
    plain = (λ dummy. refl, tt);
    all = λ place node is. elim (cases_eq place head) [
      | inl here ↦ inl (sym here)
      | inr apart ↦ absurd (some-none (sym is ∙ updates.others place apart ∙ nothing_at place))
    ];
  }

  pub new_stamps : HasStamps new stamp
  new_stamps =
      let none : HasStamps old stamp = record { bound = λ p s is. absurd (some-none (sym is ∙ nothing_at p)); one_place = λ p q s t is_s is_t same. absurd (some-none (sym is_s ∙ nothing_at p)) } in
      stamps_set old new stamp stamp head _ none updates (omega arith) (omega arith) (λ other there apart is. absurd (some-none (sym is ∙ nothing_at other)))

  pub new_out : (place : ℕ) → get_or (map out_stamp new.slots) place None ≡ None
  new_out place = out_in new place ∙ elim (cases_eq place head) [
    | inl here ↦ rw here (ap out_stamp updates.changed)
    | inr apart ↦ ap out_stamp (updates.others place apart ∙ nothing_at place)
  ]

-- Lemmas on a spare that is given out.
module _ (old new : Slab SlotAt) (head place stamp : ℕ) (nodes : List NodeAt) (free : get old place ≡ None) (updates : Updates old new place (Some (Out stamp))) where
  pub spare_laid_out : IsLaidOut old head nodes → IsLaidOut new head nodes
  spare_laid_out laid =
      let absent = absent_free (get old) nodes place laid.chain (λ node is. some-none (sym is ∙ free)) in
      record {
        chain = chain_absent (get old) (get new) place nodes laid.chain absent updates.others;
        starts = laid.starts;
        rising = laid.rising;
        plain = laid.plain;
        all = λ other node is. elim (cases_eq other place) [
          | inl here ↦ absurd (out-not-linked (sym updates.changed ∙ rw here at is))
          | inr apart ↦ laid.all other node (sym (updates.others other apart) ∙ is)
        ];
      }

  pub spare_stamps : (last : ℕ) → stamp ≡ last + 1 → HasStamps old last → HasStamps new stamp
  spare_stamps last above stamps =
      stamps_set old new last stamp place (Out stamp) stamps updates (omega arith) (omega arith)
      (λ other there apart is same. let low = stamps.bound other there is in absurd (omega arith))

  pub spare_out : get_or (map out_stamp new.slots) place None ≡ Some stamp
  spare_out = out_in new place ∙ ap out_stamp updates.changed

  pub spare_was_free : get_or (map out_stamp old.slots) place None ≡ None
  spare_was_free = out_in old place ∙ ap out_stamp free

  pub spare_others : (other : ℕ) → other ≢ place → get_or (map out_stamp new.slots) other None ≡ get_or (map out_stamp old.slots) other None
  spare_others other apart = out_in new other ∙ ap out_stamp (updates.others other apart) ∙ sym (out_in old other)

-- Lemmas on a spare that is given back.
module _ (old new : Slab SlotAt) (head place stamp : ℕ) (nodes : List NodeAt)
    (is_out : get_or (map out_stamp old.slots) place None ≡ Some stamp)
    (freed : Updates old new place None) where
  back_slot : get old place ≡ Some (Out stamp)
  back_slot = slot_out (get old place) stamp (sym (out_in old place) ∙ is_out)

  pub back_laid_out : IsLaidOut old head nodes → IsLaidOut new head nodes
  back_laid_out laid =
      let absent = absent_free (get old) nodes place laid.chain (λ node is. out-not-linked (sym back_slot ∙ is)) in
      record {
        chain = chain_absent (get old) (get new) place nodes laid.chain absent freed.others;
        starts = laid.starts;
        rising = laid.rising;
        plain = laid.plain;
        all = λ other node is. elim (cases_eq other place) [
          | inl here ↦ absurd (some-none (sym (rw here at is) ∙ freed.changed))
          | inr apart ↦ laid.all other node (sym (freed.others other apart) ∙ is)
        ];
      }

  pub back_stamps : (last : ℕ) → HasStamps old last → HasStamps new last
  back_stamps last stamps = stamps_freed old new last place stamps freed

  pub back_gone : get_or (map out_stamp new.slots) place None ≡ None
  back_gone = out_in new place ∙ ap out_stamp freed.changed

  pub back_others : (other : ℕ) → other ≢ place → get_or (map out_stamp new.slots) other None ≡ get_or (map out_stamp old.slots) other None
  back_others other apart = out_in new other ∙ ap out_stamp (freed.others other apart) ∙ sym (out_in old other)
