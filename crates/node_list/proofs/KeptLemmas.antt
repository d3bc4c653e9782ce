-- Conditions under which the fields of a list keep their invariant (`IsKept`).
use Rattle.std.proofs.Common.{◌≡◌, ℕ, ◌-◌, ◌^◌, ◌<◌, List, Some, None, Result, Ok, Err, refl, sym, ap}
use Rattle.std.specs.Result.{result_ok}
use Rattle.slab.specs.Slab.{Slab}
use Rattle.node_list.specs.Slots.{SlotAt}
use Rattle.node_list.specs.Nodes.{NodeAt, live_count, marked_count}
use Rattle.node_list.specs.Layout.{nodes_in, listing_of, IsLaidOut, HasStamps, IsKept}
use Rattle.node_list.proofs.OrderLemmas.{some-injective, some-none}
use Rattle.node_list.proofs.ChainLemmas.{nodes_in_is}

-- If these nodes are laid out in the slab, and the stamps and the counts are right, the fields keep
-- their invariant.
pub kept : (slab : Slab SlotAt) (head last count marked : ℕ) (nodes : List NodeAt) → IsLaidOut slab head nodes → HasStamps slab last → last < 2 ^ 64 - 1 → count ≡ live_count nodes → marked ≡ marked_count nodes → IsKept slab head last count marked
kept slab head last count marked nodes laid stamps below counted marks =
    let same = nodes_in_is slab head nodes laid in
    record {
      laid_out = rw same laid;
      stamps = stamps;
      below = below;
      counted = rw same counted;
      marks = rw same marks;
    }

-- If a slab only gets more room, the nodes in it stay the same.
pub grown : (slab : Slab SlotAt) (room head : ℕ) → nodes_in (record slab { capacity = room }) head ≡ nodes_in slab head
unfolding nodes_in
grown slab room head = refl

pub kept_grown : (slab : Slab SlotAt) (room head last count marked : ℕ) → IsKept slab head last count marked → IsKept (record slab { capacity = room }) head last count marked
kept_grown slab room head last count marked is =
    let laid : IsLaidOut (record slab { capacity = room }) head (nodes_in slab head) = record {
      chain = is.laid_out.chain;
      starts = is.laid_out.starts;
      rising = is.laid_out.rising;
      plain = is.laid_out.plain;
      all = is.laid_out.all;
    } in
    kept _ head last count marked (nodes_in slab head) laid (record { bound = is.stamps.bound; one_place = is.stamps.one_place }) is.below is.counted is.marks

pub listing_grown : (slab : Slab SlotAt) (room head changes last : ℕ) → listing_of (record slab { capacity = room }) head changes last ≡ listing_of slab head changes last
listing_grown slab room head changes last = rw (grown slab room head) refl

-- If `result_ok` gives a value, the result is `Ok` with this value.
pub ok_some : {T E : Type 0} (r : Result T E) (x : T) → result_ok r ≡ Some x → r ≡ Ok x
ok_some (Ok y) x is = ap Ok (some-injective is)
ok_some (Err e) x is = absurd (some-none (sym is))

pub ok_none : {T E : Type 0} (r : Result T E) → result_ok r ≡ None → (e : E) × (r ≡ Err e)
ok_none (Ok y) is = absurd (some-none is)
ok_none (Err e) is = (e, refl)
