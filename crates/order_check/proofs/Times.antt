-- Shows that an order that keeps the edges of real time keeps real time, because each edge that was
-- left out follows from two others.
use Rattle.std.proofs.Common.{max, ◌≡◌, ℕ, zero, suc, ◌+◌, ◌<◌, ◌≤◌, List, [], ◌∷◌, ◌++◌, length, get_or, refl, ap, sym, ◌∙◌, subst, arith}
use Rattle.std.proofs.Math.Nat.{max-eq_left, max-eq_right}
use Rattle.std.proofs.lemmas.Bool.{cases_eq, cases_lt}
use Rattle.std.proofs.lemmas.List.{length_push}
use mathlib.Core.Logic.{◌⊎◌, inl, inr}
use Rattle.order_check.specs.declared.access.Access.{Access}
use Rattle.order_check.specs.declared.link.Link.{Link}
use Rattle.order_check.specs.declared.edge.Kind.TheVariants.{Began}
use Rattle.order_check.specs.Graphs.{Graph, HasEdge, KeepsEdges}
use Rattle.order_check.specs.Growth.{Adds}
use Rattle.order_check.specs.Joined.{AreMeant, IsEdge, Keeps, meaning_of, version_of}
use Rattle.order_check.specs.Lists.{place}
use Rattle.order_check.specs.Orders.{KeepsTime}
use Rattle.order_check.specs.Timing.{AddsTimes, AreTimed, IsTimed, since_in, time_edge}
use Rattle.order_check.proofs.AccessEdges.{more_edge}
use Rattle.order_check.proofs.EntrySteps.{get_last, get_left}
use Rattle.order_check.proofs.RealTimes.{past_zero}

module _ (since : ℕ → ℕ) (early : (t u : ℕ) → t < since u → t < u) (graph : Graph) (timed : (t u : ℕ) → t < since u → IsTimed since graph t u) (ts : List ℕ) (keeps : KeepsEdges graph ts) where
  -- `m` is at least as much as `t` is below `since u`.
  one_kept : (u : ℕ) → ((v t : ℕ) → v < u → t < since v → place t ts < place v ts) → (m t : ℕ) → since u ≤ t + m → t < since u → place t ts < place u ts
  one_kept u before zero t enough less = absurd (omega arith)
  one_kept u before (suc m) t enough less = elim (timed t u less) [
    | inl edge ↦ subst (λ x. place x ts < place u ts) edge.from_is (keeps u edge.edge edge.there)
    | inr between ↦
        let v = between.0 in
        let v_first : v < u = early v u between.1 in
        let t_first : t < v = early t v between.2 in
        let low = before v t v_first between.2 in
        let high = one_kept u before m v (omega arith) between.1 in
        omega arith
  ]

  all_kept : (n u t : ℕ) → u < n → t < since u → place t ts < place u ts
  all_kept zero u t below less = absurd (omega arith)
  all_kept (suc n) u t below less = one_kept u (λ v s first less_s. all_kept n v s (omega arith) less_s) (since u) t (omega arith) less

  pub keeps_time : KeepsTime since ts
  keeps_time t u less = all_kept (u + 1) u t (omega arith) less

-- The edges of real time have their meaning.
pub meant_timed : (accesses : List Access) (since : ℕ → ℕ) (old new : Graph) → AreTimed since old new → AreMeant accesses since old → AreMeant accesses since new
meant_timed accesses since old new timed were u l has = elim (timed.only u l has) [
  | inl before ↦ were u l before
  | inr added ↦ subst (λ kind. meaning_of accesses since kind l.from (version_of accesses l) u) (sym added.0) added.1
]

-- The turns of the loop that adds the edges from `start` on, up to `end`.
pub record AddsSome (start now end to : ℕ) (old new : Graph) : Type 0 where
  pub len : length new ≡ length old
  pub keeps : Keeps old new
  pub there : (t : ℕ) → start ≤ t → t < now → IsEdge new t to
  pub only : (u : ℕ) (l : Link) → HasEdge new l u → HasEdge old l u ⊎ ((u ≡ to) × (l.kind ≡ Began) × (l.from < end))

pub adds_none : (start end to : ℕ) (graph : Graph) → AddsSome start start end to graph graph
adds_none start end to graph = record { len = refl; keeps = λ u l has. has; there = λ t low high. absurd (omega arith); only = λ u l has. inl has }

pub adds_more : (start now end to : ℕ) (old mid new : Graph) (edge : Link) → now < end → edge ≡ time_edge now → Adds edge to mid new → AddsSome start now end to old mid → AddsSome start (now + 1) end to old new
adds_more start now end to old mid new edge below edge_is adds was = record {
  len = adds.len ∙ was.len;
  keeps = λ u l has. adds.stays u l (was.keeps u l has);
  there = λ t low high. elim (cases_eq now t) [
    | inl same ↦ record { edge = edge; there = adds.there; from_is = ap (λ (e : Link). e.from) edge_is ∙ same }
    | inr other ↦ more_edge mid new t to adds.stays (was.there t low (earlier t other high))
  ];
  only = λ u l has. elim (adds.only u l has) [
    | inl before ↦ was.only u l before
    | inr last ↦
        let is : l ≡ time_edge now = last.1 ∙ edge_is in
        let from_is : l.from ≡ now = ap (λ (e : Link). e.from) is in
        inr (last.0, ap (λ (e : Link). e.kind) is, omega arith)
  ];
}
  where
    earlier : (t : ℕ) → (now ≡ t → ⊥) → t < now + 1 → t < now
    earlier t other high = elim (cases_lt t now) [
      | inl less ↦ less
      | inr not_less ↦ let same : now ≡ t = omega arith in absurd (other same)
    ]

pub adds_all : (start now end to : ℕ) (old new : Graph) → end ≤ now → AddsSome start now end to old new → AddsTimes start end to old new
adds_all start now end to old new past was = record { len = was.len; keeps = was.keeps; there = λ t low high. was.there t low (omega arith); only = was.only }

-- The turns of the loop over all transactions. If `t` is below the number that is kept for `b`, it
-- had committed when one of the first `b` began.
pub record TimesSome (since : List ℕ) (txn : ℕ) (covered : List ℕ) (old new : Graph) : Type 0 where
  pub size : length covered ≡ txn + 1
  pub covers : (b t : ℕ) → b ≤ txn → t < get_or covered b 0 → (v : ℕ) × (v < b) × (t < since_in since v)
  pub len : length new ≡ length old
  pub keeps : Keeps old new
  pub timed : (t u : ℕ) → u < txn → t < since_in since u → IsTimed (since_in since) new t u
  pub only : (u : ℕ) (l : Link) → HasEdge new l u → HasEdge old l u ⊎ ((l.kind ≡ Began) × (l.from < since_in since u))

pub times_none : (since covered : List ℕ) (graph : Graph) → covered ≡ 0 ∷ [] → TimesSome since 0 covered graph graph
times_none since covered graph is = record {
  size = ap length is;
  covers = λ b t low less. let none = zeros b in let kept = ap (λ xs. get_or xs b 0) is in absurd (omega arith);
  len = refl;
  keeps = λ u l has. has;
  timed = λ t u never less. absurd (omega arith);
  only = λ u l has. inl has;
}
  where
    zeros : (b : ℕ) → ◌≡◌ {A = ℕ} (get_or (0 ∷ []) b 0) 0
    zeros zero = refl
    zeros (suc b) = refl

pub below_max : (a b t : ℕ) → t < max a b → (t < a) ⊎ (t < b)
below_max a b t less = elim (cases_lt a b) [
  | inl right ↦ let is : max a b ≡ b = max-eq_right (omega arith) in inr (omega arith)
  | inr left ↦ let is : max a b ≡ a = max-eq_left (omega arith) in inl (omega arith)
]

module _ (since : List ℕ) (txn : ℕ) (covered : List ℕ) (old mid new : Graph) (early : since_in since txn ≤ txn) (was : TimesSome since txn covered old mid) where
  abbrev end : ℕ
  end = since_in since txn

  pub times_more : (most : ℕ) → ((t : ℕ) → t < most → (t < get_or covered txn 0) ⊎ (t < end)) → AddsTimes (get_or covered end 0) end txn mid new → TimesSome since (txn + 1) (covered ++ most ∷ []) old new
  times_more most split adds = record {
    size = length_push covered most ∙ ap (λ n. n + 1) was.size;
    covers = λ b t low less. elim (cases_lt b (length covered)) [
      | inl front ↦
          let size = was.size in
          let kept = get_left covered most b front in
          was.covers b t (omega arith) (omega arith)
      | inr past ↦
          let size = was.size in
          let last : b ≡ length covered = omega arith in
          let kept = get_last covered most b last in
          elim (split t (omega arith)) [
            | inl before ↦ let v = was.covers txn t (omega arith) before in (v.0, (let first = v.1 in omega arith), v.2)
            | inr now ↦ (txn, omega arith, now)
          ]
    ];
    len = adds.len ∙ was.len;
    keeps = λ u l has. adds.keeps u l (was.keeps u l has);
    timed = λ t u low less. elim (cases_eq u txn) [
      | inl same ↦ subst (λ x. IsTimed (since_in since) new t x) (sym same) (now_timed t (subst (λ x. t < since_in since x) same less))
      | inr other ↦ elim (was.timed t u (earlier u other low) less) [
        | inl edge ↦ inl (more_edge mid new t u adds.keeps edge)
        | inr between ↦ inr between
      ]
    ];
    only = λ u l has. elim (adds.only u l has) [
      | inl before ↦ was.only u l before
      | inr added ↦ inr (added.1, subst (λ x. l.from < since_in since x) (sym added.0) added.2)
    ];
  }
    where
      now_timed : (t : ℕ) → t < end → IsTimed (since_in since) new t txn
      now_timed t less = elim (cases_lt t (get_or covered end 0)) [
        | inl low ↦ inr (was.covers end t early low)
        | inr high ↦ inl (adds.there t (omega arith) less)
      ]

      earlier : (u : ℕ) → (u ≡ txn → ⊥) → u < txn + 1 → u < txn
      earlier u other low = elim (cases_lt u txn) [
        | inl less ↦ less
        | inr not_less ↦ let same : u ≡ txn = omega arith in absurd (other same)
      ]

pub times_all : (since : List ℕ) (txn : ℕ) (covered : List ℕ) (old new : Graph) → length since ≤ txn → TimesSome since txn covered old new → AreTimed (since_in since) old new
times_all since txn covered old new end was = record {
  len = was.len;
  keeps = was.keeps;
  timed = λ t u less. elim (cases_lt u txn) [
    | inl below ↦ was.timed t u below less
    | inr past ↦ let none = past_zero since u (omega arith) in absurd (omega arith)
  ];
  only = was.only;
}
