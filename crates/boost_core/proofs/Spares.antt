-- Shows that the callers keep exactly the spares that the table has given out (`IsCovered`),
-- because a spare that is given, spent or given up is counted once on both sides.
use Rattle.std.proofs.Common.{◌≡◌, ◌≢◌, ℕ, ◌+◌, ◌≤◌, ◌==◌, ◌&&◌, Bool, true, false, cond, Option, Some, None, refl, sym, ap, ◌∙◌, arith, nat_eq, eq-eqb, ne_eqb, inl, inr, ◌-◌, ◌^◌, ◌||◌, is_some, not, ◌⊎◌, ◌<◌, List, [], ◌∷◌, ◌++◌, length, length-append, option_to_list, append-nil}
use Rattle.boost_core.proofs.Vocabulary.{and_right, option_eq, cases_eq, and_from, same_option, same_is, TableAt, SpareAt, KeepsSpares, spare_out, Spends, GivesSpare, OwnsIf, times_of, times_out, IsCovered, IsCoveredWith, StaysCovered, last_of, GivesFor, sum_by_push, cases_lt, false≢true, MapJob, Follows, spare_of_job, GivesBack, times_in, Rests, cases_Bool, Op, Put, Take, Get, PutIf, get, Map, Unput, Restore, Relink, unput, relink, job_of, SpendsFor, KeepsBuckets, KeepsNodes}
use Rattle.boost_core.proofs.Numbers.{no_more}

-- A table gives a spare out at most once.
pub times_out_most : (t : TableAt) (place stamp : ℕ) → times_out t place stamp ≤ 1
times_out_most t place stamp = elim (option_eq nat_eq (spare_out t place) (Some stamp)) as (λ b. cond b 1 0 ≤ 1) [ true ↦ omega arith | false ↦ omega arith ]

at_least_once : (b : Bool) → 1 ≤ cond b 1 0 → b ≡ true
at_least_once true is = refl
at_least_once false is = absurd (omega arith)

-- A spare that is kept belongs to the table.
pub kept_owned : (kept : ℕ → ℕ → ℕ) (t : TableAt) (place stamp : ℕ) → IsCovered kept t → 1 ≤ kept place stamp → spare_out t place ≡ Some stamp
kept_owned kept t place stamp covered once =
    same_option (spare_out t place) (Some stamp) (at_least_once (option_eq nat_eq (spare_out t place) (Some stamp)) (omega (arith, covered place stamp)))

times_same : (t t' : TableAt) (place stamp : ℕ) → spare_out t' place ≡ spare_out t place → times_out t' place stamp ≡ times_out t place stamp
times_same t t' place stamp same = ap (λ o. cond (option_eq nat_eq o (Some stamp)) 1 0) same

times_none : (t : TableAt) (place stamp : ℕ) → spare_out t place ≡ None → times_out t place stamp ≡ 0
times_none t place stamp none = ap (λ o. cond (option_eq nat_eq o (Some stamp)) 1 0) none

times_other : (t : TableAt) (place stamp other : ℕ) → spare_out t place ≡ Some other → other ≢ stamp → times_out t place stamp ≡ 0
times_other t place stamp other is differs = ap (λ o. cond (option_eq nat_eq o (Some stamp)) 1 0) is ∙ ap (λ b. cond b 1 0) (ne_eqb other stamp differs)

times_one : (t : TableAt) (place stamp : ℕ) → spare_out t place ≡ Some stamp → times_out t place stamp ≡ 1
times_one t place stamp is = ap (λ b. cond b 1 0) (same_is (spare_out t place) (Some stamp) is)

pub times_here : (spare : SpareAt) → times_of (Some spare) spare.place spare.stamp ≡ 1
times_here spare = ap (λ b. cond b 1 0) (and_from (spare.place == spare.place) (spare.stamp == spare.stamp) (eq-eqb spare.place spare.place refl) (eq-eqb spare.stamp spare.stamp refl))

times_away : (spare : SpareAt) (place stamp : ℕ) → spare.place ≢ place → times_of (Some spare) place stamp ≡ 0
times_away spare place stamp away = ap (λ b. cond (b && spare.stamp == stamp) 1 0) (ne_eqb spare.place place away)

times_unlike : (spare : SpareAt) (place stamp : ℕ) → spare.stamp ≢ stamp → times_of (Some spare) place stamp ≡ 0
times_unlike spare place stamp unlike = ap (λ b. cond b 1 0) (and_right (spare.place == place) (spare.stamp == stamp) (ne_eqb spare.stamp stamp unlike))

times_is : (spare : SpareAt) (place stamp : ℕ) → place ≡ spare.place → stamp ≡ spare.stamp → times_of (Some spare) place stamp ≡ 1
times_is spare place stamp at is = ap (λ (p : ℕ). times_of (Some spare) p stamp) at ∙ ap (λ (s : ℕ). times_of (Some spare) spare.place s) is ∙ times_here spare

-- If `IsCovered` holds and a kept spare is given up, `IsCovered` holds for the other kept spares.
pub spent : (t t' : TableAt) (spare : Option SpareAt) (others : ℕ → ℕ → ℕ) → Spends t t' spare → IsCoveredWith others (times_of spare) t → IsCovered others t'
spent t t' None others is covered place stamp = omega (arith, times_same t t' place stamp (is place), covered place stamp)
spent t t' (Some spare) others is covered place stamp = elim (cases_eq place spare.place) [
  | inr other ↦ omega (arith, times_same t t' place stamp (is.1 place other), covered place stamp, times_away spare place stamp (λ e. other (sym e)))
  | inl here ↦
      let owned = kept_owned (λ p s. others p s + times_of (Some spare) p s) t spare.place spare.stamp covered (omega (arith, times_here spare)) in
      let gone = times_none t' place stamp (ap (spare_out t') here ∙ is.0) in
      elim (cases_eq stamp spare.stamp) [
        | inl same ↦ omega (arith, gone, covered place stamp, times_is spare place stamp here same, times_out_most t place stamp)
        | inr differs ↦ omega (arith, gone, covered place stamp, times_other t place stamp spare.stamp (ap (spare_out t) here ∙ owned) (λ e. differs (sym e)))
      ]
]

-- If `IsCovered` holds and the table gives out a new spare, `IsCovered` holds for the kept spares
-- together with the new one.
pub given : (t t' : TableAt) (spare : SpareAt) (others : ℕ → ℕ → ℕ) → GivesSpare t t' spare → IsCovered others t → IsCoveredWith others (times_of (Some spare)) t'
given t t' spare others gives covered place stamp = elim (cases_eq place spare.place) [
  | inr other ↦ omega (arith, times_same t t' place stamp (gives.others place other), covered place stamp, times_away spare place stamp (λ e. other (sym e)))
  | inl here ↦
      let none = times_none t place stamp (ap (spare_out t) here ∙ gives.fresh) in
      let owned = ap (spare_out t') here ∙ gives.owned in
      elim (cases_eq stamp spare.stamp) [
        | inl same ↦ omega (arith, none, covered place stamp, times_one t' place stamp (owned ∙ ap Some (sym same)), times_is spare place stamp here same)
        | inr differs ↦
            let other : spare.stamp ≢ stamp = λ e. differs (sym e) in
            omega (arith, none, covered place stamp, times_unlike spare place stamp other, times_other t' place stamp spare.stamp owned other)
      ]
]

-- If a step changes neither the spares that are given out nor those that are kept, `IsCovered`
-- still holds.
pub still_covered : (t t' : TableAt) (kept : ℕ → ℕ → ℕ) → KeepsSpares t t' → IsCovered kept t → IsCovered kept t'
still_covered t t' kept same covered place stamp = covered place stamp ∙ sym (times_same t t' place stamp (same place))

-- If the table has given out no spare and the callers keep none, `IsCovered` holds.
pub none_covered : (t : TableAt) (kept : ℕ → ℕ → ℕ) → ((place : ℕ) → spare_out t place ≡ None) → ((place stamp : ℕ) → kept place stamp ≡ 0) → IsCovered kept t
none_covered t kept none_out none_kept place stamp = none_kept place stamp ∙ sym (times_none t place stamp (none_out place))

-- A spare that is kept, if there is one, belongs to the table.
pub owns_if : (t : TableAt) (spare : Option SpareAt) (kept : ℕ → ℕ → ℕ) → ((place stamp : ℕ) → times_of spare place stamp ≤ kept place stamp) → IsCovered kept t → OwnsIf t spare
owns_if t None kept few covered = tt
owns_if t (Some spare) kept few covered = kept_owned kept t spare.place spare.stamp covered (omega (arith, times_here spare, few spare.place spare.stamp))

-- A prepared operation is given a spare exactly if it takes a node. The spare has a new stamp, and
-- is kept in addition to the other kept spares.
pub record Given (t t' : TableAt) (takes : Bool) (spare : Option SpareAt) : Type 0 where
  pub has : is_some spare ≡ takes
  pub stamped : (not takes || not (last_of t == 2 ^ 64 - 2)) ≡ true
  pub last : last_of t' ≡ cond takes (last_of t + 1) (last_of t)
  pub rises : last_of t ≤ last_of t'
  pub most : last_of t' ≤ last_of t + 1
  pub covered : (others : ℕ → ℕ → ℕ) → IsCovered others t → IsCoveredWith others (times_of spare) t'

-- `GivesFor` implies `Given`, both with a spare and without one.
pub given_for : (t t' : TableAt) (takes : Bool) (spare : Option SpareAt) → GivesFor t t' takes spare → Given t t' takes spare
given_for t t' true (Some spare) gives = record {
  has = refl;
  stamped = ap not (ne_eqb (last_of t) (2 ^ 64 - 2) (λ last. omega (arith, last, gives.room)));
  last = gives.last;
  rises = omega (arith, gives.last);
  most = omega (arith, gives.last);
  covered = λ others covered. given t t' spare others gives covered;
}
given_for t t' false None gives = rw gives (record { has = refl; stamped = refl; last = refl; rises = omega arith; most = omega arith; covered = λ others covered place stamp. omega (arith, covered place stamp) })
given_for t t' _ _ gives = absurd gives

pub open_to : (o : Option ℕ) (c : ℕ) → (o ≡ None) ⊎ (o ≡ Some c) → (elim o as (λ _. Bool) [ None ↦ true | Some d ↦ d == c ]) ≡ true
open_to o c (inl free) = rw free refl
open_to o c (inr mine) = rw mine (eq-eqb c c refl)

-- A table that does not change keeps its buckets. If each of two steps keeps the nodes and the
-- buckets, both steps together keep them.
pub buckets_same : (t : TableAt) → KeepsBuckets t t
buckets_same t = record { all = refl; size = refl; largest = refl; stored = refl; helps = refl }

pub nodes_then : (t0 t t' : TableAt) → KeepsNodes t0 t → KeepsNodes t t' → KeepsNodes t0 t'
nodes_then t0 t t' was is = record {
  all = is.all ∙ was.all;
  regular = is.regular ∙ was.regular;
  buckets = record {
    all = is.buckets.all ∙ was.buckets.all;
    size = is.buckets.size ∙ was.buckets.size;
    largest = is.buckets.largest ∙ was.buckets.largest;
    stored = is.buckets.stored ∙ was.buckets.stored;
    helps = is.buckets.helps ∙ was.buckets.helps;
  };
  linked = is.linked ∙ was.linked;
  changes = is.changes ∙ was.changes;
}

pub rests_more : (t0 t t' : TableAt) (spare : Option SpareAt) → Rests t0 t → GivesBack t t' spare → Follows t t' → Rests t0 t'
rests_more t0 t t' spare rests back follows = record {
  nodes = nodes_then t0 t t' rests.nodes back.nodes;
  last = back.last ∙ rests.last;
  placed = record { placed = λ cursor key is. follows.placed cursor key (rests.placed.placed cursor key is); sound = λ sound. follows.list.sound (rests.placed.sound sound) };
}

-- If a job is added to a list, the list owns the job's spare once more than before, and each other
-- spare as often as before.
pub times_more : (jobs : List MapJob) (job : MapJob) (place stamp : ℕ) → times_in (jobs ++ job ∷ []) place stamp ≡ times_in jobs place stamp + times_of (spare_of_job job) place stamp
times_more jobs job place stamp = sum_by_push (λ (j : MapJob). times_of (spare_of_job j) place stamp) jobs job

-- If `jobs` is `jobs'` with `job` added at the end, `jobs` owns the spare of `job` once more than
-- `jobs'` does, and each other spare as often.
pub times_pushed : (jobs jobs' : List MapJob) (job : MapJob) (place stamp : ℕ) → jobs ≡ jobs' ++ job ∷ [] → times_in jobs place stamp ≡ times_in jobs' place stamp + times_of (spare_of_job job) place stamp
times_pushed jobs jobs' job place stamp is = ap (λ js. times_in js place stamp) is ∙ times_more jobs' job place stamp

-- The spare of the newest job belongs to the table.
pub newest_owned : (t : TableAt) (jobs jobs' : List MapJob) (job : MapJob) → jobs ≡ jobs' ++ job ∷ [] → (others : ℕ → ℕ → ℕ) → IsCoveredWith others (times_in jobs) t → OwnsIf t (spare_of_job job)
newest_owned t jobs jobs' job is others covered =
    owns_if t (spare_of_job job) (λ place stamp. others place stamp + times_in jobs place stamp) (λ place stamp. omega (arith, times_pushed jobs jobs' job place stamp is)) covered

-- If the newest job is removed and its spare is given back, `IsCovered` still holds, whatever
-- spares the others keep.
pub popped_covered : (t t' : TableAt) (jobs jobs' : List MapJob) (job : MapJob) → jobs ≡ jobs' ++ job ∷ [] → GivesBack t t' (spare_of_job job)
    → StaysCovered t (times_in jobs) t' (times_in jobs')
popped_covered t t' jobs jobs' job is back others covered =
    spent t t' (spare_of_job job) (λ place stamp. others place stamp + times_in jobs' place stamp) back.spares
    (λ place stamp. omega (arith, times_pushed jobs jobs' job place stamp is, covered place stamp))

pub no_jobs : (jobs : List MapJob) → length jobs ≤ 0 → jobs ≡ []
no_jobs [] none = refl
no_jobs (job ∷ jobs) none = absurd (omega arith)

pub none_left : {A : Type 0} (o : Option A) (n : ℕ) → o ≡ None → (0 < n → is_some o ≡ true) → n ≤ 0
none_left o n none some = elim (cases_lt 0 n) [
  | inl more ↦ absurd (false≢true (sym (ap is_some none) ∙ some more))
  | inr few ↦ few
]

pub front_none : (jobs front rest : List MapJob) → jobs ≡ front ++ rest → length jobs ≤ 0 → front ≡ []
front_none jobs front rest is none = no_jobs front (omega (arith, ap length is ∙ length-append front rest))

relinked_put : (k : ℕ) (o : Option ℕ) (j v : ℕ) (kept : SpareAt) (spare : Option SpareAt) → Some (Relink j v kept) ≡ unput k o → spare ≡ Some kept
relinked_put k None j v kept spare is = absurd (cc is)
relinked_put k o j v kept spare is = absurd (cc is)

relinked_take : (k : ℕ) (o : Option ℕ) (j v : ℕ) (kept : SpareAt) (spare : Option SpareAt) → Some (Relink j v kept) ≡ relink k o spare → spare ≡ Some kept
relinked_take k (Some old) j v kept (Some given) is = cc is
relinked_take k _ j v kept _ is = absurd (cc (is))

-- A job that links a node again has the spare of its operation.
relinked : (m : Map) (op : Op) (j v : ℕ) (kept : SpareAt) (spare : Option SpareAt) → Some (Relink j v kept) ≡ job_of m op spare → spare ≡ Some kept
relinked m (Put k w) j v kept spare is = relinked_put k (get m k) j v kept spare is
relinked m (Take k) j v kept spare is = relinked_take k (get m k) j v kept spare is
relinked m (Get k) j v kept spare is = absurd (cc (is))
relinked m (PutIf k expected w) j v kept spare is = elim (cases_Bool (option_eq nat_eq (get m k) expected)) [
  | inl made ↦ relinked_put k (get m k) j v kept spare (rw made at is)
  | inr same ↦ absurd (cc (rw same at is))
]

spent_covered : (t t' : TableAt) (spare : Option SpareAt) (jobs jobs' : List MapJob) → ((place stamp : ℕ) → times_in jobs' place stamp ≡ times_in jobs place stamp + 0) → Spends t t' spare
    → StaysCovered t (λ place stamp. times_of spare place stamp + times_in jobs place stamp) t' (λ place stamp. 0 + times_in jobs' place stamp)
spent_covered t t' spare jobs jobs' same spends others covered place stamp =
    omega (arith, same place stamp, spent t t' spare (λ p s. others p s + times_in jobs p s) spends (λ p s. omega (arith, covered p s)) place stamp)

pub times_unchanged : (jobs : List MapJob) (place stamp : ℕ) → times_in (jobs ++ []) place stamp ≡ times_in jobs place stamp + 0
times_unchanged jobs place stamp = ap (λ (js : List MapJob). times_in js place stamp) (append-nil jobs) ∙ no_more (times_in jobs place stamp)

relinked_covered : (t t' : TableAt) (spare : Option SpareAt) (kept : SpareAt) (k old : ℕ) (jobs : List MapJob) → spare ≡ Some kept → KeepsSpares t t'
    → StaysCovered t (λ place stamp. times_of spare place stamp + times_in jobs place stamp) t' (λ place stamp. 0 + times_in (jobs ++ Relink k old kept ∷ []) place stamp)
relinked_covered t t' spare kept k old jobs is spends others covered place stamp =
    let exact = still_covered t t' (λ p s. others p s + (times_of spare p s + times_in jobs p s)) spends covered place stamp in
    omega (arith, rw is at exact, times_more jobs (Relink k old kept) place stamp)

pub done_covered : (t t' : TableAt) (spare : Option SpareAt) (job : Option MapJob) (jobs : List MapJob) (m : Map) (op : Op) → job ≡ job_of m op spare → SpendsFor t t' spare job
    → StaysCovered t (λ place stamp. times_of spare place stamp + times_in jobs place stamp) t' (λ place stamp. 0 + times_in (jobs ++ option_to_list job) place stamp)
done_covered t t' spare None jobs m op is spends others covered = spent_covered t t' spare jobs (jobs ++ []) (times_unchanged jobs) spends others covered
done_covered t t' spare (Some (Unput k)) jobs m op is spends others covered = spent_covered t t' spare jobs (jobs ++ Unput k ∷ []) (times_more jobs (Unput k)) spends others covered
done_covered t t' spare (Some (Restore k old)) jobs m op is spends others covered = spent_covered t t' spare jobs (jobs ++ Restore k old ∷ []) (times_more jobs (Restore k old)) spends others covered
done_covered t t' spare (Some (Relink k old kept)) jobs m op is spends others covered =
    relinked_covered t t' spare kept k old jobs (relinked m op k old kept spare is) spends others covered
