use Rattle.std.specs.Prelude.{◌≡◌, ℕ, ◌+◌, ◌-◌, List, Option, take, drop, length}
use Rattle.txn_words.specs.Map.{Map}
use Rattle.txn_trace.specs.Now.{now}
use Rattle.txn_trace.specs.Log.{rolled_back}
use Rattle.striped_map.specs.Additions.{due}
use Rattle.striped_map.specs.Seats.{HasRoom, IsOf, known, stripes_of}
use Rattle.striped_map.specs.Sound.{AreHeld, AreLogged, held_shards}
use Rattle.striped_map.proofs.hand.take_back.Given as goal

abbrev pub invariant-loop-order : goal.invariant-loop-order
invariant-loop-order l = let v = known l.initial.seat in let n = stripes_of l.map in
    let held = held_shards l.seat l.held.items in let all = length l.initial.order.items - l.mark in (m : Map)
    × (jobs : List (ℕ × Option ℕ)) × (left : ℕ) × (length l.order.items ≡ l.mark + left)
    × AreHeld n v held m × AreLogged n held l.order.items jobs
    × (rolled_back m (take left jobs) ≡ rolled_back (now v.seen) (take all (due v)))
    × (drop left jobs ≡ drop all (due v)) × (IsOf l.seat l.map) × (known l.seat ≡ v)
    × (HasRoom l.initial.seat → HasRoom l.seat)

abbrev pub decreases-loop-order : goal.decreases-loop-order
decreases-loop-order l = length l.order.items
