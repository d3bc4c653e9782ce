-- Shows that cycles, orders and repeated values found on accesses are those of the footprints,
-- because each cell comes from exactly one access.
use Rattle.std.specs.Prelude.{slice_get}
use Rattle.std.proofs.Common.{◌≡◌, ◌≢◌, ◌==◌, ℕ, zero, suc, ◌<◌, Bool, true, false, cond, ◌&&◌, Option, Some, None, is_some, List, [], ◌∷◌, length, map, refl, ap, sym, ◌∙◌, subst, arith}
use Rattle.std.specs.HashMap.{HashMap, get as told_at}
use Rattle.std.specs.List.{All}
use Rattle.std.proofs.lemmas.Bool.{false≢true, and_parts, and_cases, and_from, eqb-true, eq-eqb, cases_eq}
use Rattle.std.proofs.lemmas.List.Elements.{All-head, All-tail}
use mathlib.Core.Logic.{inl, inr}
use Rattle.order_check.specs.declared.access.Access.{Access}
use Rattle.order_check.specs.declared.edge.Kind.{Kind}
use Rattle.order_check.specs.declared.edge.Kind.TheVariants.{Read, Replaced, Began}
use Rattle.order_check.specs.declared.edge.Edge.{Edge}
use Rattle.order_check.specs.declared.link.Link.{Link}
use Rattle.order_check.specs.declared.replacers.Replacers.{Replacers}
use Rattle.order_check.specs.declared.table.Doer.{Doer}
use Rattle.order_check.specs.Lists.{IsIn, place, HasEachOnce}
use Rattle.order_check.specs.Footprints.{Cell}
use Rattle.order_check.specs.Dependencies.{Needs, Writes, Replaces, ComesOnce}
use Rattle.order_check.specs.Forces.{dependency_of, Forces, OnlyThese}
use Rattle.order_check.specs.Graphs.{Graph, HasEdge, AreInRange, KeepsEdges, IsWay, IsCycle, IsRoute, IsRing}
use Rattle.order_check.specs.Timing.{Leads}
use Rattle.order_check.specs.Orders.{KeepsTime, IsOrderOf, HasNoOrder}
use Rattle.order_check.specs.Tables.{Version, version_eq, DoesWrite, DoesReplace, ReplacesValue, IsAmong, IsFrom, Knows, Told, AreWriters, AreBelow, replacer_in}
use Rattle.order_check.specs.Joined.{NeedsAt, DoesAt, SourceIs, AreDistinct, AreReplacers, meaning_of, AreMeant, IsEdge, IsJoined, edge_of, source_in, txn_of, version_of}
use Rattle.order_check.specs.Outcomes.{cell_of, footprints_of, indices_of, sources_of, AreAccesses, IsTxn, comes_once, holds_always, is_once, IsOnce, IsRepeated}
use Rattle.order_check.proofs.AccessEdges.{among_there, source_writes}
use Rattle.order_check.specs.Sources.{Gives}
use Rattle.order_check.proofs.Versions.{runs_by_sources}
use Rattle.order_check.proofs.Cycles.{cycle_no_order}

-- The access that a cell comes from.
pub record ComesFrom (accesses : List Access) (t k : ℕ) (cell : Cell) : Type 0 where
  pub by : Access
  pub is_among : IsAmong by accesses
  pub txn_is : by.txn ≡ t
  pub key_is : by.key ≡ k
  pub cell_is : cell_of by ≡ cell

pub comes_from : (accesses : List Access) (t k : ℕ) (cell : Cell) → footprints_of accesses t k ≡ Some cell → ComesFrom accesses t k cell
comes_from [] t k cell there = absurd (cc there)
comes_from (a ∷ rest) t k cell there = at ((a.txn == t) && (a.key == k)) refl (λ is. comes_from rest t k cell is) there
  where
    at : (b : Bool) → ((a.txn == t) && (a.key == k)) ≡ b → (footprints_of rest t k ≡ Some cell → ComesFrom rest t k cell) → cond b (Some (cell_of a)) (footprints_of rest t k) ≡ Some cell → ComesFrom (a ∷ rest) t k cell
    at true is later found =
        let parts = and_parts (a.txn == t) (a.key == k) is in
        record { by = a; is_among = inl refl; txn_is = eqb-true a.txn t parts.0; key_is = eqb-true a.key k parts.1; cell_is = cc found }
    at false is later found =
        let f = later found in
        record { by = f.by; is_among = inr f.is_among; txn_is = f.txn_is; key_is = f.key_is; cell_is = f.cell_is }

pub foot_there : (accesses : List Access) (a : Access) → AreDistinct accesses → IsAmong a accesses → footprints_of accesses a.txn a.key ≡ Some (cell_of a)
foot_there [] a distinct is_in = absurd is_in
foot_there (x ∷ xs) a distinct is_in = elim is_in [
  | inl same ↦
      ap (λ b. cond b (Some (cell_of x)) (footprints_of xs a.txn a.key)) (and_from (x.txn == a.txn) (x.key == a.key) (eq-eqb x.txn a.txn (ap (λ (y : Access). y.txn) same)) (eq-eqb x.key a.key (ap (λ (y : Access). y.key) same)))
      ∙ ap (λ y. Some (cell_of y)) same
  | inr rest ↦ at ((x.txn == a.txn) && (x.key == a.key)) refl rest (foot_there xs a distinct.1 rest)
]
  where
    at : (b : Bool) → ((x.txn == a.txn) && (x.key == a.key)) ≡ b → IsAmong a xs → footprints_of xs a.txn a.key ≡ Some (cell_of a) → cond b (Some (cell_of x)) (footprints_of xs a.txn a.key) ≡ Some (cell_of a)
    at true is rest later =
        let parts = and_parts (x.txn == a.txn) (x.key == a.key) is in
        absurd (distinct.0 a rest (eqb-true x.txn a.txn parts.0) (eqb-true x.key a.key parts.1))
    at false is rest later = later

-- The source that is found for an access is its own.
pub source_there : (accesses : List Access) (a : Access) → AreDistinct accesses → IsAmong a accesses → indices_of accesses a.txn a.key ≡ a.source
source_there [] a distinct is_in = absurd is_in
source_there (x ∷ xs) a distinct is_in = elim is_in [
  | inl same ↦
      ap (λ b. cond b x.source (indices_of xs a.txn a.key)) (and_from (x.txn == a.txn) (x.key == a.key) (eq-eqb x.txn a.txn (ap (λ (y : Access). y.txn) same)) (eq-eqb x.key a.key (ap (λ (y : Access). y.key) same)))
      ∙ ap (λ (y : Access). y.source) same
  | inr rest ↦ at ((x.txn == a.txn) && (x.key == a.key)) refl rest (source_there xs a distinct.1 rest)
]
  where
    at : (b : Bool) → ((x.txn == a.txn) && (x.key == a.key)) ≡ b → IsAmong a xs → indices_of xs a.txn a.key ≡ a.source → cond b x.source (indices_of xs a.txn a.key) ≡ a.source
    at true is rest later =
        let parts = and_parts (x.txn == a.txn) (x.key == a.key) is in
        absurd (distinct.0 a rest (eqb-true x.txn a.txn parts.0) (eqb-true x.key a.key parts.1))
    at false is rest later = later

-- Two accesses of one transaction at one key are one.
same_index : (accesses : List Access) (i j : ℕ) (x y : Access) → AreDistinct accesses → slice_get accesses i ≡ Some x → slice_get accesses j ≡ Some y → x.txn ≡ y.txn → x.key ≡ y.key → i ≡ j
same_index [] i j x y distinct there_x there_y txn key = absurd (cc there_x)
same_index (z ∷ zs) zero zero x y distinct there_x there_y txn key = refl
same_index (z ∷ zs) zero (suc j) x y distinct there_x there_y txn key =
    let is : z ≡ x = cc there_x in
    absurd (distinct.0 y (among_there zs j y there_y) (ap (λ (a : Access). a.txn) is ∙ txn) (ap (λ (a : Access). a.key) is ∙ key))
same_index (z ∷ zs) (suc i) zero x y distinct there_x there_y txn key =
    let is : z ≡ y = cc there_y in
    absurd (distinct.0 x (among_there zs i x there_x) (ap (λ (a : Access). a.txn) is ∙ sym txn) (ap (λ (a : Access). a.key) is ∙ sym key))
same_index (z ∷ zs) (suc i) (suc j) x y distinct there_x there_y txn key = ap (λ n. suc n) (same_index zs i j x y distinct.1 there_x there_y txn key)

module _ (count : ℕ) (accesses : List Access) (are : AreAccesses count accesses) where
  foot_at : (a : Access) (t k : ℕ) → IsAmong a accesses → a.txn ≡ t → a.key ≡ k → footprints_of accesses t k ≡ Some (cell_of a)
  foot_at a t k is_in txn_is key_is = (λ i. footprints_of accesses (sym txn_is i) (sym key_is i)) ∙ foot_there accesses a are.distinct is_in

  needs_of : (t : ℕ) (q : Version) → NeedsAt accesses t q → Needs (footprints_of accesses t) q.0 q.1
  needs_of t q n = record { cell = cell_of n.by; there = foot_at n.by t q.0 n.is_among n.txn_is n.key_is; need_is = n.need_is }

  writes_of : (t : ℕ) (q : Version) → DoesAt (DoesWrite q) accesses t → Writes (footprints_of accesses t) q.0 q.1
  writes_of t q w = record {
    cell = cell_of w.by;
    there = foot_at w.by t q.0 w.is_among w.txn_is w.does_it.0;
    now_is = w.does_it.1;
    changed = λ same. w.does_it.2 (same ∙ sym w.does_it.1);
  }

  replaces_of : (t : ℕ) (q : Version) → DoesAt (ReplacesValue q) accesses t → Replaces (footprints_of accesses t) q.0 q.1
  replaces_of t q r = record {
    cell = cell_of r.by;
    there = foot_at r.by t q.0 r.is_among r.txn_is r.does_it.0;
    need_is = r.does_it.1;
    changed = λ same. r.does_it.2 (r.does_it.1 ∙ sym same);
  }

  -- The way back.
  needs_back : (t k : ℕ) (v : Option ℕ) → Needs (footprints_of accesses t) k v → NeedsAt accesses t (k, v)
  needs_back t k v n =
      let f = comes_from accesses t k n.cell n.there in
      record { by = f.by; is_among = f.is_among; txn_is = f.txn_is; key_is = f.key_is; need_is = ap (λ (c : Cell). c.need) f.cell_is ∙ n.need_is }

  writes_back : (t k : ℕ) (v : Option ℕ) → Writes (footprints_of accesses t) k v → DoesAt (DoesWrite (k, v)) accesses t
  writes_back t k v w =
      let f = comes_from accesses t k w.cell w.there in
      let left_is : f.by.left ≡ v = ap (λ (c : Cell). c.now) f.cell_is ∙ w.now_is in
      record { by = f.by; is_among = f.is_among; does_it = (f.key_is, left_is, λ same. w.changed (sym (ap (λ (c : Cell). c.need) f.cell_is) ∙ same ∙ left_is)); txn_is = f.txn_is }

  only_these : OnlyThese (IsTxn count) (footprints_of accesses)
  only_these t k cell there =
      let f = comes_from accesses t k cell there in
      subst (IsTxn count) f.txn_is (are.below f.by f.is_among)

  module _ (since : ℕ → ℕ) (graph : Graph) (meant : AreMeant accesses since graph) (early : (t u : ℕ) → t < since u → t < count) where
    from_below : (kind : Kind) (t : ℕ) (q : Version) (u : ℕ) → meaning_of accesses since kind t q u → t < count
    from_below Read t q u means = subst (IsTxn count) means.0.txn_is (are.below means.0.by means.0.is_among)
    from_below Replaced t q u means = subst (IsTxn count) means.0.txn_is (are.below means.0.by means.0.is_among)
    from_below Began t q u means = early t u means

    pub in_range : length graph ≡ count → AreInRange graph
    in_range len u l has = subst (λ n. l.from < n) (sym len) (from_below l.kind l.from (version_of accesses l) u (meant u l has))

  module _ (since : ℕ → ℕ) {S : Type 0} (writers : HashMap Version Doer S) (written : AreWriters accesses writers) where
    -- A value that comes only once by the tables does so by the footprints.
    once_of : (k : ℕ) (v : Option ℕ) (o : Option Doer) → Told (DoesWrite (k, v)) accesses o → comes_once o v ≡ true → ComesOnce (footprints_of accesses) k v
    once_of k v None none once = record {
      one = λ x y wx wy. let w = writes_back x k v wx in absurd (none w.by w.is_among w.does_it);
      fresh = λ is x wx. let w = writes_back x k v wx in none w.by w.is_among w.does_it;
    }
    once_of k v (Some d) known once =
        let parts = and_parts (is_some v) d.is_only once in
        record {
          one = λ x y wx wy.
              let w = writes_back x k v wx in
              let z = writes_back y k v wy in
              sym w.txn_is ∙ known.only parts.1 w.by w.is_among w.does_it ∙ sym (known.only parts.1 z.by z.is_among z.does_it) ∙ z.txn_is;
          fresh = λ is x wx. absurd (false≢true (sym (ap is_some is) ∙ parts.0));
        }

    once_at : (k : ℕ) (v : Option ℕ) → comes_once (told_at version_eq writers (k, v)) v ≡ true → ComesOnce (footprints_of accesses) k v
    once_at k v once = once_of k v (told_at version_eq writers (k, v)) (written (k, v)) once

    forces_of : (kind : Kind) (t k : ℕ) (v : Option ℕ) (u : ℕ) → meaning_of accesses since kind t (k, v) u → holds_always kind (told_at version_eq writers (k, v)) v ≡ true → dependency_of kind (footprints_of accesses) since t u k v
    forces_of Read t k v u means once = record { once = once_at k v once; writes = writes_of t (k, v) means.0; needs = needs_of u (k, v) means.1 }
    forces_of Replaced t k v u means once = record { once = once_at k v once; apart = means.2; needs = needs_of t (k, v) means.0; replaces = replaces_of u (k, v) means.1 }
    forces_of Began t k v u means once = means

    module _ (graph : Graph) (meant : AreMeant accesses since graph) where
      abbrev edges : List Link → List Edge
      edges ls = map (edge_of accesses) ls

      edge_forces : (l : Link) (u : ℕ) → HasEdge graph l u → IsOnce accesses writers l → Forces (footprints_of accesses) since (edge_of accesses l) u
      edge_forces l u has once = forces_of l.kind l.from (version_of accesses l).0 (version_of accesses l).1 u (meant u l has) once

      leads_forces : (l : Link) (u : ℕ) → Leads since graph l u → (HasEdge graph l u → IsOnce accesses writers l) → Forces (footprints_of accesses) since (edge_of accesses l) u
      leads_forces l u leads once = elim leads [
        | inl has ↦ edge_forces l u has (once has)
        | inr timed ↦ subst (λ kind. dependency_of kind (footprints_of accesses) since l.from u (version_of accesses l).0 (version_of accesses l).1) (sym timed.0) timed.1
      ]

      way_forces : (l : Link) (ls : List Link) (end : ℕ) → IsRoute (Leads since graph) l ls end → All (IsOnce accesses writers) (l ∷ ls) → IsWay (Forces (footprints_of accesses) since) (edge_of accesses l) (edges ls) end
      way_forces l [] end way all = leads_forces l end way (λ has. All-head (IsOnce accesses writers) l [] all)
      way_forces l (m ∷ ms) end way all = (leads_forces l m.from way.0 (λ has. All-head (IsOnce accesses writers) l (m ∷ ms) all), way_forces m ms end way.1 (All-tail (IsOnce accesses writers) l (m ∷ ms) all))

      cycle_forces : (ls : List Link) → IsRing (Leads since graph) ls → All (IsOnce accesses writers) ls → IsCycle (Forces (footprints_of accesses) since) (edges ls)
      cycle_forces [] cycle all = cycle
      cycle_forces (l ∷ ls) cycle all = way_forces l ls l.from cycle all

      pub cycle_found : (ls : List Link) → IsRing (Leads since graph) ls → All (IsOnce accesses writers) ls → IsCycle (Forces (footprints_of accesses) since) (edges ls) × HasNoOrder (IsTxn count) (footprints_of accesses) since
      cycle_found ls cycle all =
          let forced = cycle_forces ls cycle all in
          (forced, cycle_no_order (IsTxn count) (footprints_of accesses) since only_these (edges ls) forced)

      certain_way : ((u : ℕ) (l : Link) → HasEdge graph l u → IsOnce accesses writers l) → (l : Link) (ls : List Link) (end : ℕ) → IsRoute (Leads since graph) l ls end → IsWay (Forces (footprints_of accesses) since) (edge_of accesses l) (edges ls) end
      certain_way once l [] end way = leads_forces l end way (once end l)
      certain_way once l (m ∷ ms) end way = (leads_forces l m.from way.0 (once m.from l), certain_way once m ms end way.1)

      certain_cycle : ((u : ℕ) (l : Link) → HasEdge graph l u → IsOnce accesses writers l) → (ls : List Link) → IsRing (Leads since graph) ls → IsCycle (Forces (footprints_of accesses) since) (edges ls)
      certain_cycle once [] cycle = cycle
      certain_cycle once (l ∷ ls) cycle = certain_way once l ls l.from cycle

      pub certain_found : ((u : ℕ) (l : Link) → HasEdge graph l u → IsOnce accesses writers l) → (ls : List Link) → IsRing (Leads since graph) ls → IsCycle (Forces (footprints_of accesses) since) (edges ls) × HasNoOrder (IsTxn count) (footprints_of accesses) since
      certain_found once ls cycle =
          let forced = certain_cycle once ls cycle in
          (forced, cycle_no_order (IsTxn count) (footprints_of accesses) since only_these (edges ls) forced)

    -- A value that comes more than once by the tables does so.
    pub repeated_of : (k : ℕ) (v : Option ℕ) (o : Option Doer) → Told (DoesWrite (k, v)) accesses o → comes_once o v ≡ false → IsRepeated accesses (k, v)
    repeated_of k v None none often = absurd (false≢true (sym often))
    repeated_of k v (Some d) known often = (
      d.txn,
      record { by = known.by; is_among = known.is_among; does_it = known.does_it; txn_is = known.txn_is },
      elim (and_cases (is_some v) d.is_only often) [
        | inl absent ↦ inl (absent_is v absent)
        | inr second ↦ inr (known.second second)
      ],
    )
      where
        absent_is : (v : Option ℕ) → is_some v ≡ false → v ≡ None
        absent_is None is = refl
        absent_is (Some n) is = absurd (false≢true (sym is))

    often_of : (kind : Kind) (o : Option Doer) (v : Option ℕ) → holds_always kind o v ≡ false → comes_once o v ≡ false
    often_of Read o v often = often
    often_of Replaced o v often = often
    often_of Began o v often = absurd (false≢true (sym often))

    pub repeated : (l : Link) → is_once accesses writers l ≡ false → IsRepeated accesses (version_of accesses l)
    repeated l often =
        let q = version_of accesses l in
        repeated_of q.0 q.1 (told_at version_eq writers q) (written q) (often_of l.kind (told_at version_eq writers q) q.1 often)

  module _ (replacers : Replacers) (replaced : AreReplacers accesses replacers) where
    pub tables_below : (n : ℕ) → n ≡ count → AreBelow replacers n
    tables_below n same k source t is =
        let known : DoesAt (DoesReplace k source) accesses t = subst (Knows (DoesAt (DoesReplace k source) accesses) (DoesReplace k source) accesses) is (replaced k source) in
        subst (λ m. t < m) (sym same) (subst (λ u. u < count) known.txn_is (are.below known.by known.is_among))

    -- If all accesses have their edges, an order that keeps the edges is one of the footprints.
    module _ (since : ℕ → ℕ) (graph : Graph) (joined : (a : Access) → IsAmong a accesses → IsJoined accesses replacers graph a) (ts : List ℕ) (keeps : KeepsEdges graph ts) where
      before : (t u : ℕ) → IsEdge graph t u → place t ts < place u ts
      before t u l = subst (λ x. place x ts < place u ts) l.from_is (keeps u l.edge l.there)

      index_at : (u k : ℕ) (cell : Cell) (f : ComesFrom accesses u k cell) → indices_of accesses u k ≡ f.by.source
      index_at u k cell f = (λ i. indices_of accesses (sym f.txn_is i) (sym f.key_is i)) ∙ source_there accesses f.by are.distinct f.is_among

      source_at : (u k : ℕ) (cell : Cell) (f : ComesFrom accesses u k cell) → sources_of accesses u k ≡ source_in accesses f.by.source
      source_at u k cell f = ap (source_in accesses) (index_at u k cell f)

      gives_at : (a : Access) (k : ℕ) (s : Option ℕ) → a.key ≡ k → SourceIs accesses a s → Gives (footprints_of accesses) k a.need (source_in accesses s)
      gives_at a k None key_is is = is
      gives_at a k (Some i) key_is is =
          let t_is : source_in accesses (Some i) ≡ Some is.by.txn = ap txn_of is.there in
          subst (Gives (footprints_of accesses) k a.need) (sym t_is)
          (subst (λ q. Writes (footprints_of accesses is.by.txn) q a.need) key_is (writes_of is.by.txn (a.key, a.need) (source_writes accesses a (Some i) is.by.txn is t_is)))

      -- Sources of one transaction at one key are one access.
      one_source : (a b : Access) (s r : Option ℕ) → a.key ≡ b.key → SourceIs accesses a s → SourceIs accesses b r → source_in accesses s ≡ source_in accesses r → s ≡ r
      one_source a b None None key of_a of_b same = refl
      one_source a b None (Some j) key of_a of_b same = absurd (cc (same ∙ ap txn_of of_b.there))
      one_source a b (Some i) None key of_a of_b same = absurd (cc (sym same ∙ ap txn_of of_a.there))
      one_source a b (Some i) (Some j) key of_a of_b same =
          let txn : of_a.by.txn ≡ of_b.by.txn = cc (sym (ap txn_of of_a.there) ∙ same ∙ ap txn_of of_b.there) in
          ap Some (same_index accesses i j of_a.by of_b.by are.distinct of_a.there of_b.there txn (of_a.does_it.0 ∙ key ∙ sym of_b.does_it.0))

      kept_gives : (u k : ℕ) (cell : Cell) → IsIn u ts → footprints_of accesses u k ≡ Some cell → Gives (footprints_of accesses) k cell.need (sources_of accesses u k)
      kept_gives u k cell is_in there =
          let f = comes_from accesses u k cell there in
          subst (Gives (footprints_of accesses) k cell.need) (sym (source_at u k cell f))
          (subst (λ (c : Cell). Gives (footprints_of accesses) k c.need (source_in accesses f.by.source)) f.cell_is (gives_at f.by k f.by.source f.key_is (are.sourced f.by f.is_among)))

      kept_reads : (u k t : ℕ) (cell : Cell) → IsIn u ts → footprints_of accesses u k ≡ Some cell → sources_of accesses u k ≡ Some t → place t ts < place u ts
      kept_reads u k t cell is_in there source_is =
          let f = comes_from accesses u k cell there in
          subst (λ x. place t ts < place x ts) f.txn_is (before t f.by.txn ((joined f.by f.is_among).reads t (sym (source_at u k cell f) ∙ source_is)))

      kept_replaces : (t u k : ℕ) (one other : Cell) → t ≢ u → IsIn t ts → IsIn u ts → footprints_of accesses t k ≡ Some one → footprints_of accesses u k ≡ Some other → sources_of accesses t k ≡ sources_of accesses u k → other.need ≢ other.now → place t ts < place u ts
      kept_replaces t u k one other differ in_t in_u there_t there_u same changed = at (replacer_in replacers a.by.key a.by.source) refl (replaced a.by.key a.by.source)
        where
          a : ComesFrom accesses t k one
          a = comes_from accesses t k one there_t

          b : ComesFrom accesses u k other
          b = comes_from accesses u k other there_u

          key_same : b.by.key ≡ a.by.key
          key_same = b.key_is ∙ sym a.key_is

          b_source : b.by.source ≡ a.by.source
          b_source = one_source b.by a.by b.by.source a.by.source key_same (are.sourced b.by b.is_among) (are.sourced a.by a.is_among) (sym (source_at u k other b) ∙ sym same ∙ source_at t k one a)

          b_from : (s : Option ℕ) → b.by.source ≡ s → IsFrom a.by.key s b.by
          b_from None is = (key_same, is)
          b_from (Some i) is = is

          b_changes : b.by.need ≢ b.by.left
          b_changes = λ equal. changed (sym (ap (λ (c : Cell). c.need) b.cell_is) ∙ equal ∙ ap (λ (c : Cell). c.now) b.cell_is)

          first_other : (f : ℕ) → replacer_in replacers a.by.key a.by.source ≡ Some f → (f ≡ u → ⊥) → ⊥
          first_other f is apart_u =
              let at_b : replacer_in replacers b.by.key b.by.source ≡ Some f = (λ i. replacer_in replacers (key_same i) (b_source i)) ∙ is in
              let apart : b.by.txn ≢ f = λ equal. apart_u (sym equal ∙ b.txn_is) in
              let forth = before b.by.txn f ((joined b.by b.is_among).replaces f at_b apart) in
              let back = before f b.by.txn ((joined b.by b.is_among).twice f at_b apart b_changes) in
              omega arith

          at : (o : Option ℕ) → replacer_in replacers a.by.key a.by.source ≡ o → Knows (DoesAt (DoesReplace a.by.key a.by.source) accesses) (DoesReplace a.by.key a.by.source) accesses o → place t ts < place u ts
          at None is none = absurd (none b.by b.is_among (b_from a.by.source b_source, b_changes))
          at (Some f) is known = elim (cases_eq f u) [
            | inl here ↦
                let l = (joined a.by a.is_among).replaces f is (λ equal. differ (sym a.txn_is ∙ equal ∙ here)) in
                subst (λ x. place x ts < place u ts) a.txn_is (subst (λ x. place a.by.txn ts < place x ts) here (before a.by.txn f l))
            | inr apart_u ↦ absurd (first_other f is apart_u)
          ]

      pub order_found : KeepsTime since ts → (n : ℕ) → n ≡ count → HasEachOnce (λ t. t < n) ts → IsOrderOf (IsTxn count) (footprints_of accesses) since ts
      order_found in_time n same each =
          let there : HasEachOnce (IsTxn count) ts = subst (λ m. HasEachOnce (λ t. t < m) ts) same each in
          record { each = there; runs = runs_by_sources (footprints_of accesses) (sources_of accesses) ts there.apart (record { gives = kept_gives; reads = kept_reads; replaces = kept_replaces }); in_time = in_time }
