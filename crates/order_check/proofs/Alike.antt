-- Runs of transactions alone and runs of their footprints are the same.
use Rattle.std.proofs.Common.{◌≡◌, ℕ, List, [], ◌∷◌, None, IsSome, refl, ap, sym, ◌∙◌, subst, arith}
use mathlib.Core.Logic.{inl, inr}
use Rattle.txn_words.specs.declared.entry.Entry.{Entry}
use Rattle.txn_words.specs.Map.{Map, empty, get}
use Rattle.txn_trace.specs.History.{of}
use Rattle.txn_trace.specs.Alone.{alone, map_after, last_map}
use Rattle.txn_trace.proofs.StanceRuns.{the_some}
use Rattle.order_check.specs.Lists.{IsIn}
use Rattle.order_check.specs.Footprints.{Footprint, no_values, leaves, RunsFrom}
use Rattle.order_check.specs.Orders.{IsOrderOf}
use Rattle.order_check.specs.Serializable.{RunAlone, IsCommitted, IsSerialOrder}
use Rattle.order_check.specs.Footprints.{HasFootprint}
use Rattle.order_check.proofs.Numbers.{no_time}

-- The map after a run has the values that the footprint leaves.
after_is : (es : List Entry) (footprint : Footprint) (m : Map) → HasFootprint es footprint → IsSome (alone m es) → get (map_after m es) ≡ leaves footprint (get m)
after_is es footprint m has some =
    let run = the_some (alone m es) some in
    λ i k. (ap (λ o. get (last_map m o) k) run.1 ∙ has.sees m run.0 run.1 k) i

module _ (h : List Entry) (footprints : ℕ → Footprint) where
  -- Each of the transactions has its footprint.
  abbrev pub HaveFeet : List ℕ → Type 0
  HaveFeet ts = (t : ℕ) → IsIn t ts → HasFootprint (of t h) (footprints t)

  pub feet_run : (ts : List ℕ) (m : Map) → HaveFeet ts → RunAlone h m ts → RunsFrom footprints (get m) ts
  feet_run [] m have runs = tt
  feet_run (t ∷ ts) m have runs =
      let has = have t (inl refl) in
      let run = the_some (alone m (of t h)) runs.0 in
      (has.needs m run.0 run.1, subst (λ vs. RunsFrom footprints vs ts) (after_is (of t h) (footprints t) m has runs.0) (feet_run ts (map_after m (of t h)) (λ u is_in. have u (inr is_in)) runs.1))

  pub alone_run : (ts : List ℕ) (m : Map) → HaveFeet ts → RunsFrom footprints (get m) ts → RunAlone h m ts
  alone_run [] m have runs = tt
  alone_run (t ∷ ts) m have runs =
      let has = have t (inl refl) in
      let some = has.runs m runs.0 in
      (some, alone_run ts (map_after m (of t h)) (λ u is_in. have u (inr is_in)) (subst (λ vs. RunsFrom footprints vs ts) (sym (after_is (of t h) (footprints t) m has some)) runs.1))

  nothing_there : get empty ≡ no_values
  nothing_there = refl

  -- If each committed transaction has its footprint, an order of the footprints is one of the history.
  module _ (have : (t : ℕ) → IsCommitted h t → HasFootprint (of t h) (footprints t)) where
    pub order_of_footprints : (ts : List ℕ) → IsSerialOrder h ts → IsOrderOf (IsCommitted h) footprints no_time ts
    order_of_footprints ts order = record { each = order.each; runs = feet_run ts empty (λ t is_in. have t (order.each.only t is_in)) order.replies; in_time = λ t u less. absurd (omega arith) }

    pub order_of_history : (ts : List ℕ) → IsOrderOf (IsCommitted h) footprints no_time ts → IsSerialOrder h ts
    order_of_history ts order = record { each = order.each; replies = alone_run ts empty (λ t is_in. have t (order.each.only t is_in)) order.runs }

-- A transaction of an order runs alone on some map.
pub runs_there : (h : List Entry) (ts : List ℕ) (m : Map) (t : ℕ) → RunAlone h m ts → IsIn t ts → (n : Map) × IsSome (alone n (of t h))
runs_there h [] m t runs is_in = absurd is_in
runs_there h (x ∷ xs) m t runs is_in = elim is_in [
  | inl same ↦ (m, subst (λ u. IsSome (alone m (of u h))) same runs.0)
  | inr rest ↦ runs_there h xs (map_after m (of x h)) t runs.1 rest
]

-- If a committed transaction runs alone on no map, there is no order.
pub torn_no_order : (h : List Entry) (t : ℕ) → IsCommitted h t → ((m : Map) → alone m (of t h) ≡ None) → (ts : List ℕ) → IsSerialOrder h ts → ⊥
torn_no_order h t committed torn ts order =
    let there = runs_there h ts empty t order.replies (order.each.all t committed) in
    let run = the_some (alone there.0 (of t h)) there.1 in
    cc (run.1, torn there.0)
