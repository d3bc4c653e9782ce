-- Shows that the outcome on accesses holds of the history's transactions, because the accesses are
-- the footprints of the committed transactions, in the order of their commits.
use Rattle.std.proofs.Common.{◌≡◌, ◌≢◌, ℕ, ◌<◌, Bool, List, [], ◌∷◌, length, map, Option, Some, None, refl, ap, sym, ◌∙◌, subst}
use Rattle.std.specs.Option.{IfSome}
use mathlib.Core.Logic.{inl, inr}
use Rattle.txn_words.specs.declared.entry.Entry.{Entry}
use Rattle.txn_words.specs.Map.{get}
use Rattle.txn_words.specs.Shape.{IsShaped}
use Rattle.txn_trace.specs.History.{commits}
use Rattle.order_check.specs.declared.access.Access.{Access}
use Rattle.order_check.specs.declared.edge.Edge.{Edge}
use Rattle.order_check.specs.declared.edge.Kind.{Kind}
use Rattle.order_check.specs.declared.edge.Kind.TheVariants.{Read, Replaced, Began}
use Rattle.order_check.specs.Choices.{IsUnwritten as IsLacking}
use Rattle.order_check.specs.Dependencies.{Needs, Writes, Replaces, ComesOnce as OnceIn}
use Rattle.order_check.specs.Footprints.{Cell, Footprint, RunsFrom, no_values, value_seen}
use Rattle.order_check.specs.Forces.{dependency_of, Forces}
use Rattle.order_check.specs.Graphs.{IsWay, IsCycle}
use Rattle.order_check.specs.Joined.{NeedsAt}
use Rattle.order_check.specs.Kept.{HaveAccesses}
use Rattle.order_check.specs.Named.{name_at, named_edge}
use Rattle.order_check.specs.Lists.{place}
use Rattle.std.specs.List.{range_with_len}
use Rattle.serial_check.specs.Serializable.{IsSerializableByCommits}
use Rattle.order_check.specs.declared.outcome.Outcome.{Outcome}
use Rattle.order_check.specs.InTurn.{RunInTurn}
use Rattle.order_check.specs.Outcomes.{cell_of, footprints_of, ArePlain, IsOutcome, IsRepeated as RepeatedIn}
use Rattle.order_check.specs.Reasons.{RunOf, NeedsValue, WritesValue, ReplacesValue, MayWrite, IsUnwritten, ComesOnce, IsForced, IsRepeated}
use Rattle.order_check.specs.Serializable.{IsCommitted}
use Rattle.order_check.specs.Tables.{DoesWrite, IsAmong}
use Rattle.order_check.specs.Timing.{IsSince, IsTiming, since_in}
use Rattle.order_check.proofs.ByCommits.{commits_run, serializable_in_order}
use Rattle.order_check.proofs.Histories.{order_from_history}
use Rattle.order_check.proofs.AccessOrder.{runs_in_turn, places_all}
use Rattle.order_check.proofs.Meanings.{comes_from, foot_there}
use Rattle.order_check.proofs.RealTimes.{earlier_named}
use Rattle.order_check.proofs.Numbers.{name_at as name_of, place_below, in_names, place_at}

module _ (h : List Entry) (accesses : List Access) (plain : ArePlain (length (commits h)) accesses) (have : HaveAccesses h None accesses) where
  abbrev name : ℕ → ℕ
  name i = name_at (commits h) i

  abbrev footprints : ℕ → Footprint
  footprints = footprints_of accesses

  -- The values before and after a run.
  first_is : (i k : ℕ) (cell : Cell) → i < length (commits h) → footprints i k ≡ Some cell → (run : RunOf h (name i)) → get run.first k ≡ cell.need
  first_is i k cell below there run = subst (λ o. IfSome o (λ (c : Cell). get run.first k ≡ c.need)) there ((have i below).needs run.first run.last run.is k)

  last_is : (i k : ℕ) (cell : Cell) → i < length (commits h) → footprints i k ≡ Some cell → (run : RunOf h (name i)) → get run.last.last k ≡ cell.now
  last_is i k cell below there run = (have i below).sees run.first run.last run.is k ∙ ap (value_seen (get run.first k)) there

  needs_value : (i k : ℕ) (v : Option ℕ) → i < length (commits h) → Needs (footprints i) k v → NeedsValue h (name i) k v
  needs_value i k v below needs run = first_is i k needs.cell below needs.there run ∙ needs.need_is

  writes_value : (i k : ℕ) (v : Option ℕ) → i < length (commits h) → Writes (footprints i) k v → WritesValue h (name i) k v
  writes_value i k v below writes run = (λ same. writes.changed (sym (first_is i k writes.cell below writes.there run) ∙ same), last_is i k writes.cell below writes.there run ∙ writes.now_is)

  replaces_value : (i k : ℕ) (v : Option ℕ) → i < length (commits h) → Replaces (footprints i) k v → ReplacesValue h (name i) k v
  replaces_value i k v below replaces run = (first_is i k replaces.cell below replaces.there run ∙ replaces.need_is, λ same. replaces.changed (sym (last_is i k replaces.cell below replaces.there run) ∙ same))

  writes_from : (i k : ℕ) (v : Option ℕ) → i < length (commits h) → MayWrite h (name i) k v → Writes (footprints i) k v
  writes_from i k v below may = at (footprints i k) refl
    where
      at : (o : Option Cell) → footprints i k ≡ o → Writes (footprints i) k v
      at None is = absurd (may.1 (sym ((have i below).sees may.0.first may.0.last may.0.is k ∙ ap (value_seen (get may.0.first k)) is) ∙ may.2))
      at (Some cell) is = record {
        cell = cell;
        there = is;
        now_is = sym (last_is i k cell below is may.0) ∙ may.2;
        changed = λ same. may.1 (first_is i k cell below is may.0 ∙ same);
      }

  -- The place of a committed transaction.
  record Placed (t : ℕ) : Type 0 where
    at : ℕ
    below : at < length (commits h)
    is : name at ≡ t

  placed : (t : ℕ) → IsCommitted h t → Placed t
  placed t is_in = record { at = place t (commits h); below = place_below (commits h) t is_in; is = name_of (commits h) t is_in }

  committed_at : (i : ℕ) → i < length (commits h) → IsCommitted h (name i)
  committed_at i below = in_names (commits h) i below

  may_at : (t k : ℕ) (v : Option ℕ) (p : Placed t) → MayWrite h t k v → Writes (footprints p.at) k v
  may_at t k v p may = writes_from p.at k v p.below (subst (λ u. MayWrite h u k v) (sym p.is) may)

  -- Only these have cells.
  below_of : (t k : ℕ) (cell : Cell) → footprints t k ≡ Some cell → t < length (commits h)
  below_of t k cell there = let f = comes_from accesses t k cell there in subst (λ i. i < length (commits h)) f.txn_is (plain.below f.by f.is_among)

  once_is : (k : ℕ) (v : Option ℕ) → OnceIn footprints k v → ComesOnce h k v
  once_is k v once = record {
    one = λ t u in_t in_u may_t may_u.
        let p = placed t in_t in
        let q = placed u in_u in
        let same : p.at ≡ q.at = once.one p.at q.at (may_at t k v p may_t) (may_at u k v q may_u) in
        sym p.is ∙ ap name same ∙ q.is;
    fresh = λ absent t in_t may. let p = placed t in_t in once.fresh absent p.at (may_at t k v p may);
  }

  module _ (shape : IsShaped h) where
    apart_at : (i j : ℕ) → i < length (commits h) → j < length (commits h) → (i ≡ j → ⊥) → name i ≡ name j → ⊥
    apart_at i j below_i below_j apart same =
        let places = (commits_run h shape).apart in
        apart (sym (place_at (commits h) i places below_i) ∙ ap (λ t. place t (commits h)) same ∙ place_at (commits h) j places below_j)

    -- With or without real time.
    module _ (b : Bool) (since : List ℕ) (timing : IsTiming (length (commits h)) since) (sinces : (i : ℕ) → i < length (commits h) → IsSince b h (name i) (since_in since i)) where
      forced_of : (kind : Kind) (t u k : ℕ) (v : Option ℕ) → dependency_of kind footprints (since_in since) t u k v → IsForced b h (record { from = name t; kind = kind; key = k; value = v }) (name u)
      forced_of Began t u k v edge =
          let parts = earlier_named b h (commits_run h shape).apart since timing sinces t u edge in
          record { first = committed_at t parts.0; second = committed_at u parts.1; why = parts.2 }
      forced_of Read t u k v edge =
          let below_t = below_of t k edge.writes.cell edge.writes.there in
          let below_u = below_of u k edge.needs.cell edge.needs.there in
          record { first = committed_at t below_t; second = committed_at u below_u; why = (once_is k v edge.once, writes_value t k v below_t edge.writes, needs_value u k v below_u edge.needs) }
      forced_of Replaced t u k v edge =
          let below_t = below_of t k edge.needs.cell edge.needs.there in
          let below_u = below_of u k edge.replaces.cell edge.replaces.there in
          record { first = committed_at t below_t; second = committed_at u below_u; why = (once_is k v edge.once, apart_at t u below_t below_u edge.apart, needs_value t k v below_t edge.needs, replaces_value u k v below_u edge.replaces) }

      forced : (l : Edge) (u : ℕ) → Forces footprints (since_in since) l u → IsForced b h (named_edge (commits h) l) (name u)
      forced l u edge = forced_of l.kind l.from u l.key l.value edge

      way : (l : Edge) (ls : List Edge) (end : ℕ) → IsWay (Forces footprints (since_in since)) l ls end → IsWay (IsForced b h) (named_edge (commits h) l) (map (named_edge (commits h)) ls) (name end)
      way l [] end is = forced l end is
      way l (m ∷ ms) end is = (forced l m.from is.0, way m ms end is.1)

      pub cycle_is : (ls : List Edge) → IsCycle (Forces footprints (since_in since)) ls → IsCycle (IsForced b h) (map (named_edge (commits h)) ls)
      cycle_is [] is = is
      cycle_is (l ∷ ls) is = way l ls l.from is

  needs_at : (a : Access) → IsAmong a accesses → Needs (footprints a.txn) a.key a.need
  needs_at a is_in = record { cell = cell_of a; there = foot_there accesses a plain.distinct is_in; need_is = refl }

  writes_at : (a : Access) → IsAmong a accesses → a.need ≢ a.left → Writes (footprints a.txn) a.key a.left
  writes_at a is_in changed = record { cell = cell_of a; there = foot_there accesses a plain.distinct is_in; now_is = refl; changed = changed }

  pub needed_is : (a : Access) → NeedsAt accesses a.txn (a.key, a.need) → IsCommitted h (name a.txn) × NeedsValue h (name a.txn) a.key a.need
  needed_is a needs =
      let b = needs.by in
      let below : a.txn < length (commits h) = subst (λ i. i < length (commits h)) needs.txn_is (plain.below b needs.is_among) in (
        committed_at a.txn below,
        needs_value a.txn a.key a.need below (subst (λ i. Needs (footprints i) a.key a.need) needs.txn_is (subst (λ k. Needs (footprints b.txn) k a.need) needs.key_is (subst (Needs (footprints b.txn) b.key) needs.need_is (needs_at b needs.is_among)))),
      )

  pub unwritten_is : (a : Access) → IsLacking accesses a → IsCommitted h (name a.txn) × NeedsValue h (name a.txn) a.key a.need × IsUnwritten h a.key a.need
  unwritten_is a is =
      let needed = needed_is a is.needs in (
        needed.0,
        needed.1,
        λ t in_t may.
            let p = placed t in_t in
            let w = may_at t a.key a.need p may in
            let f = comes_from accesses p.at a.key w.cell w.there in
            let left_is : f.by.left ≡ a.need = ap (λ (c : Cell). c.now) f.cell_is ∙ w.now_is in
            is.none f.by f.is_among (f.key_is, left_is, λ same. w.changed (sym (ap (λ (c : Cell). c.need) f.cell_is) ∙ same ∙ left_is)),
      )

  does_is : (t k : ℕ) (v : Option ℕ) (a : Access) → IsAmong a accesses → a.txn ≡ t → DoesWrite (k, v) a → (t < length (commits h)) × WritesValue h (name t) k v
  does_is t k v a is_in txn_is does =
      let below : t < length (commits h) = subst (λ i. i < length (commits h)) txn_is (plain.below a is_in) in
      (below, writes_value t k v below (subst (λ i. Writes (footprints i) k v) txn_is (subst (λ q. Writes (footprints a.txn) q v) does.0 (subst (Writes (footprints a.txn) a.key) does.1 (writes_at a is_in does.2)))))

  -- A transaction that writes a value, by its access and by its runs.
  pub writer_is : (k : ℕ) (v : Option ℕ) (t : ℕ) (a : Access) → IsAmong a accesses → DoesWrite (k, v) a → name a.txn ≡ t → IsCommitted h t × WritesValue h t k v
  writer_is k v t a is_among does name_is =
      let writes = does_is a.txn k v a is_among refl does in
      subst (λ u. IsCommitted h u × WritesValue h u k v) name_is (committed_at a.txn writes.0, writes.1)

  pub writer_from : (k : ℕ) (v : Option ℕ) (t : ℕ) → IsCommitted h t → MayWrite h t k v → (a : Access) × IsAmong a accesses × DoesWrite (k, v) a × (name a.txn ≡ t)
  writer_from k v t committed may =
      let p = placed t committed in
      let w = may_at t k v p may in
      let f = comes_from accesses p.at k w.cell w.there in
      let left_is : f.by.left ≡ v = ap (λ (c : Cell). c.now) f.cell_is ∙ w.now_is in
      (f.by, f.is_among, (f.key_is, left_is, λ same. w.changed (sym (ap (λ (c : Cell). c.need) f.cell_is) ∙ same ∙ left_is)), ap name f.txn_is ∙ p.is)

  pub repeated_is : IsShaped h → (k : ℕ) (v : Option ℕ) → RepeatedIn accesses (k, v) → IsRepeated h k v
  repeated_is shape k v is =
      let first = does_is is.0 k v is.1.by is.1.is_among is.1.txn_is is.1.does_it in
      record {
        txn = name is.0;
        committed = committed_at is.0 first.0;
        writes = first.1;
        again = elim is.2 [
          | inl absent ↦ inl absent
          | inr second ↦
              let other = does_is second.by.txn k v second.by second.is_among refl second.does_it in
              inr (name second.by.txn, committed_at second.by.txn other.0, apart_at shape second.by.txn is.0 other.0 first.0 second.differs, other.1)
        ];
      }

-- The outcome, as the code has it.
pub outcome_on : (n m : ℕ) (s r : List ℕ) (xs ys : List Access) (o p : Outcome) → n ≡ m → s ≡ r → xs ≡ ys → o ≡ p → IsOutcome n (since_in s) xs o → IsOutcome m (since_in r) ys p
outcome_on n m s r xs ys o p count times same is outcome =
    subst (IsOutcome m (since_in r) ys) is (subst (λ zs. IsOutcome m (since_in r) zs o) same (subst (λ k. IsOutcome k (since_in r) xs o) count (subst (λ q. IsOutcome n (since_in q) xs o) times outcome)))

-- If the order of the commits is a serial order, the accesses run in turn.
pub by_commits_in_turn : (h : List Entry) (n : ℕ) (xs : List Access) → n ≡ length (commits h) → ArePlain n xs → HaveAccesses h None xs → IsSerializableByCommits h → RunInTurn no_values xs
by_commits_in_turn h n xs n_is plain have is =
    let order = order_from_history h is.shape (footprints_of xs) have (commits h) (serializable_in_order h is) in
    let all : map (λ t. place t (commits h)) (commits h) ≡ range_with_len 0 (length (commits h)) = places_all (commits h) (commits_run h is.shape).apart in
    runs_in_turn n xs plain (subst (λ m. RunsFrom (footprints_of xs) no_values (range_with_len 0 m)) (sym n_is) (subst (RunsFrom (footprints_of xs) no_values) all order.runs))
