-- Orders of a history, by the places of its transactions among the commits.
use Rattle.std.proofs.Common.{ℕ, ◌<◌, Bool, List, length, get_or, map, subst}
use Rattle.txn_words.specs.declared.entry.Entry.{Entry}
use Rattle.txn_words.specs.Shape.{IsShaped}
use Rattle.txn_trace.specs.History.{of, commits}
use Rattle.order_check.specs.Lists.{AreApart, place}
use Rattle.order_check.specs.Footprints.{Footprint}
use Rattle.order_check.specs.Footprints.{HasFootprint}
use Rattle.order_check.specs.Serializable.{IsCommitted, IsSerialOrder}
use Rattle.order_check.specs.Orders.{IsOrderOf, HasNoOrder}
use Rattle.order_check.specs.RealTime.{IsSerialOrderIf, IsSerializableIf}
use Rattle.order_check.specs.Timing.{IsSince, IsTiming, since_in}
use Rattle.order_check.proofs.Alike.{order_of_history, order_of_footprints}
use Rattle.order_check.proofs.ByCommits.{commits_run}
use Rattle.order_check.proofs.Numbers.{name_at, no_time, place_below, order_named, order_placed}
use Rattle.order_check.proofs.RealTimes.{order_if, ordered_if, time_named, time_placed}

module _ (h : List Entry) (shape : IsShaped h) (footprints : ℕ → Footprint) (have : (i : ℕ) → i < length (commits h) → HasFootprint (of (get_or (commits h) i 0) h) (footprints i)) where
  apart : AreApart (commits h)
  apart = (commits_run h shape).apart

  have_named : (t : ℕ) → IsCommitted h t → HasFootprint (of t h) (footprints (place t (commits h)))
  have_named t is_in = subst (λ u. HasFootprint (of u h) (footprints (place t (commits h)))) (name_at (commits h) t is_in) (have (place t (commits h)) (place_below (commits h) t is_in))

  serial_by_places : (since : ℕ → ℕ) (ts : List ℕ) → IsOrderOf (λ i. i < length (commits h)) footprints since ts → IsSerialOrder h (map (λ i. get_or (commits h) i 0) ts)
  serial_by_places since ts order = order_of_history h (λ t. footprints (place t (commits h))) have_named (map (λ i. get_or (commits h) i 0) ts) (order_named (commits h) apart footprints since ts order)

  pub order_from_history : (ts : List ℕ) → IsSerialOrder h ts → IsOrderOf (λ i. i < length (commits h)) footprints no_time (map (λ t. place t (commits h)) ts)
  order_from_history ts order = order_placed (commits h) apart footprints ts (order_of_footprints h (λ t. footprints (place t (commits h))) have_named ts order)

  -- With or without real time.
  module _ (b : Bool) (since : List ℕ) (timing : IsTiming (length (commits h)) since) (sinces : (i : ℕ) → i < length (commits h) → IsSince b h (get_or (commits h) i 0) (since_in since i)) where
    pub order_by_places : (ts : List ℕ) → IsOrderOf (λ i. i < length (commits h)) footprints (since_in since) ts → IsSerialOrderIf b h (map (λ i. get_or (commits h) i 0) ts)
    order_by_places ts order =
        order_if b h (map (λ i. get_or (commits h) i 0) ts) (serial_by_places (since_in since) ts order) (time_named b h apart since timing sinces ts order.each order.in_time)

    pub none_by_places : HasNoOrder (λ i. i < length (commits h)) footprints (since_in since) → IsSerializableIf b h → ⊥
    none_by_places none serializable =
        let found = ordered_if b h serializable in
        let placed = order_from_history found.order found.in_order in
        none (map (λ t. place t (commits h)) found.order) (record {
          each = placed.each;
          runs = placed.runs;
          in_time = time_placed b h apart since timing sinces found.order found.in_order.each found.in_time;
        })
