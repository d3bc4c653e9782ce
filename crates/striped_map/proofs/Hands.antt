-- Shows how each step changes the shards that a caller holds, because they have the values of the
-- map that it has seen (`AreHeld`) and owe exactly its changes (`AreLogged`).
use Rattle.std.proofs.Common.{◌≡◌, ◌≢◌, ℕ, zero, suc, ◌+◌, ◌*◌, ◌/◌, ◌%◌, ◌<◌, ◌⊎◌, Bool, true, false, cond, List, [], ◌∷◌, ◌++◌, length, get_or, set, map, reverse, take, drop, Option, Some, slice_get, sym, refl, ◌∙◌, ap, subst, inl, inr, ⊎_elim, arith, eq-eqb, ne_eqb, append-nil, append_assoc}
use mathlib.Core.Logic.{dite}
use native.Mathlib.Decide.{ℕ_discrete}
use Rattle.std.specs.Option.{option_eq}
use Rattle.std.specs.Prelude.{nat_eq}
use Rattle.std.proofs.Math.Nat.{div-add-mod}
use Rattle.std.proofs.lemmas.Bool.{false≢true}
use Rattle.std.proofs.lemmas.List.{reverse-append}
use Rattle.std.proofs.lemmas.Option.{none-some, same_Some, slice_get_within}
use Rattle.txn_words.specs.declared.entry.Entry.{Entry}
use Rattle.txn_words.specs.declared.holder.Holder.TheVariants.{Begun}
use Rattle.txn_words.specs.declared.op.Op.{Op}
use Rattle.txn_words.specs.declared.op.Op.TheVariants.{Put, Take, Get, PutIf}
use Rattle.txn_words.specs.Held.{times, removed}
use Rattle.txn_words.specs.Map.{Map, get, insert, after, key_of, set_at}
use Rattle.txn_trace.specs.Now.{now}
use Rattle.txn_trace.specs.Locks.{asks_in, stripe_of}
use Rattle.txn_trace.specs.Legal.{IsLegal}
use Rattle.txn_words.specs.Shape.{changes, own}
use Rattle.txn_words.proofs.Effects.{get-after_other}
use Rattle.txn_words.proofs.Holding.{times_reverse, times_at, at_times, removed_same}
use Rattle.txn_words.proofs.Maps.{get-insert-here, get-remove-here, get-set_at}
use Rattle.stripe_shard.specs.ShardAt.{ShardAt}
use Rattle.stripe_shard.specs.Calls.{Does, TakesBack}
use Rattle.txn_trace.specs.Log.{rolled_back}
use Rattle.striped_map.specs.declared.view.View.{View}
use Rattle.striped_map.specs.declared.seat.MapSeat.{MapSeat}
use Rattle.striped_map.specs.Rule.{Holds, IsShardOf}
use Rattle.striped_map.specs.Seats.{HoldsAll, LeavesOthers, shard_in}
use Rattle.striped_map.specs.Steps.{Extends, GainsStripe, lost}
use Rattle.striped_map.specs.Handling.{under}
use Rattle.striped_map.specs.Sound.{HeldShard, held_shards, stripes_in, with_shard, owed_on, at_place, of_job, Change, Spot, AreHeld, AreLogged}
use Rattle.striped_map.proofs.AdditionLemmas.{asks_none, own-append, own-none}

abbrev pub Job : Type 0
Job = ℕ × Option ℕ

-- If an element is appended to a list, each element of the new list is an old element or the
-- appended one.
pub push_at : {A : Type 0} (xs : List A) (x a : A) (i : ℕ) → slice_get (xs ++ x ∷ []) i ≡ Some a → (slice_get xs i ≡ Some a) ⊎ ((i ≡ length xs) × (x ≡ a))
push_at [] x a zero e = inr (refl, same_Some x a e)
push_at [] x a (suc i) e = absurd (none-some a e)
push_at (y ∷ xs) x a zero e = inl e
push_at {A} (y ∷ xs) x a (suc i) e = ⊎_elim (λ (t : slice_get xs i ≡ Some a). inl t) (λ (t : (i ≡ length xs) × (x ≡ a)). inr (omega arith, t.1)) (push_at xs x a i e)

pub push_old : {A : Type 0} (xs : List A) (x a : A) (i : ℕ) → slice_get xs i ≡ Some a → slice_get (xs ++ x ∷ []) i ≡ Some a
push_old [] x a i e = absurd (none-some a e)
push_old (y ∷ xs) x a zero e = e
push_old (y ∷ xs) x a (suc i) e = push_old xs x a i e

pub push_last : {A : Type 0} (xs : List A) (x : A) → slice_get (xs ++ x ∷ []) (length xs) ≡ Some x
push_last [] x = refl
push_last (y ∷ xs) x = push_last xs x

set_place : {A : Type 0} (xs : List A) (j i : ℕ) (y a : A) → slice_get (set xs j y) i ≡ Some a → ((i ≡ j) × (y ≡ a)) ⊎ ((i ≢ j) × (slice_get xs i ≡ Some a))
set_place [] j i y a e = absurd (none-some a e)
set_place (x ∷ xs) zero zero y a e = inl (refl, same_Some y a e)
set_place (x ∷ xs) zero (suc i) y a e = inr ((λ z. omega arith), e)
set_place (x ∷ xs) (suc j) zero y a e = inr ((λ z. omega arith), e)
set_place {A} (x ∷ xs) (suc j) (suc i) y a e = ⊎_elim (λ (t : (i ≡ j) × (y ≡ a)). inl (omega arith, t.1)) (λ (t : (i ≢ j) × (slice_get xs i ≡ Some a)). inr ((λ z. t.0 (omega arith)), t.1)) (set_place xs j i y a e)

pub read_at : (xs : List ℕ) (k h : ℕ) → k < length xs → h ≡ get_or xs k h → slice_get xs k ≡ Some h
read_at [] k h lt e = absurd (omega arith)
read_at (x ∷ xs) zero h lt e = ap (λ (y : ℕ). Some y) (sym e)
read_at (x ∷ xs) (suc k) h lt e = read_at xs k h (omega arith) e

-- If a shard is appended to a list of shards, its stripe is appended to the list of their stripes.
pub stripes_push : (held : List HeldShard) (h : HeldShard) → stripes_in (held ++ h ∷ []) ≡ stripes_in held ++ h.stripe ∷ []
stripes_push [] h = refl
stripes_push (x ∷ held) h = ap (λ (l : List ℕ). x.stripe ∷ l) (stripes_push held h)

pub stripe_at : (held : List HeldShard) (i : ℕ) (h : HeldShard) → slice_get held i ≡ Some h → slice_get (stripes_in held) i ≡ Some h.stripe
stripe_at [] i h e = absurd (none-some h e)
stripe_at (x ∷ held) zero h e = ap (λ (y : HeldShard). Some y.stripe) (same_Some x h e)
stripe_at (x ∷ held) (suc i) h e = stripe_at held i h e

pub stripes_set : (held : List HeldShard) (j : ℕ) (h new : HeldShard) → slice_get held j ≡ Some h → new.stripe ≡ h.stripe → stripes_in (set held j new) ≡ stripes_in held
stripes_set [] j h new at same = refl
stripes_set (x ∷ held) zero h new at same = ap (λ (k : ℕ). k ∷ stripes_in held) (same ∙ ap (λ (y : HeldShard). y.stripe) (sym (same_Some x h at)))
stripes_set (x ∷ held) (suc j) h new at same = ap (λ (l : List ℕ). x.stripe ∷ l) (stripes_set held j h new at same)

-- If each stripe of a list is paired with its shard, the stripes of the pairs form the same list.
pub stripes_with : (f : ℕ → ShardAt) (ks : List ℕ) → stripes_in (map (with_shard f) ks) ≡ ks
stripes_with f [] = refl
stripes_with f (k ∷ ks) = ap (λ (l : List ℕ). k ∷ l) (stripes_with f ks)

pub with_at : (f : ℕ → ShardAt) (ks : List ℕ) (i k : ℕ) → slice_get ks i ≡ Some k → slice_get (map (with_shard f) ks) i ≡ Some (with_shard f k)
with_at f [] i k e = absurd (none-some k e)
with_at f (x ∷ ks) zero k e = ap (λ (y : ℕ). Some (with_shard f y)) (same_Some x k e)
with_at f (x ∷ ks) (suc i) k e = with_at f ks i k e

pub with_push : (f : ℕ → ShardAt) (ks : List ℕ) (k : ℕ) → map (with_shard f) (ks ++ k ∷ []) ≡ map (with_shard f) ks ++ with_shard f k ∷ []
with_push f [] k = refl
with_push f (x ∷ ks) k = ap (λ (l : List HeldShard). with_shard f x ∷ l) (with_push f ks k)

-- If `f` and `g` give each stripe of `ks` the same shard, the lists of these stripes with their
-- shards are equal.
pub with_same : (f g : ℕ → ShardAt) (ks : List ℕ) → ((i k : ℕ) → slice_get ks i ≡ Some k → g k ≡ f k) → map (with_shard g) ks ≡ map (with_shard f) ks
with_same f g [] same = refl
with_same f g (x ∷ ks) same = ap (λ (p : ShardAt). (record { stripe = x; shard = p }) ∷ map (with_shard g) ks) (same 0 x refl) ∙ ap (λ (l : List HeldShard). with_shard f x ∷ l) (with_same f g ks (λ i k at. same (suc i) k at))

pub with_set : (f g : ℕ → ShardAt) (ks : List ℕ) (j k : ℕ) → slice_get ks j ≡ Some k → ((i : ℕ) → slice_get ks i ≡ Some k → i ≡ j) → ((other : ℕ) → other ≢ k → g other ≡ f other) → map (with_shard g) ks ≡ set (map (with_shard f) ks) j (with_shard g k)
with_set f g [] j k at apart same = absurd (none-some k at)
with_set f g (x ∷ ks) zero k at apart same = ap (λ (y : ℕ). with_shard g y ∷ map (with_shard g) ks) (same_Some x k at)
    ∙ ap (λ (l : List HeldShard). with_shard g k ∷ l) (with_same f g ks (λ i other there. same other (λ e. absurd (let z = apart (suc i) (there ∙ ap (λ (y : ℕ). Some y) e) in omega arith))))
with_set f g (x ∷ ks) (suc j) k at apart same = ap (λ (p : ShardAt). (record { stripe = x; shard = p }) ∷ map (with_shard g) ks) (same x (λ e. absurd (let z = apart 0 (ap (λ (y : ℕ). Some y) e) in omega arith)))
    ∙ ap (λ (l : List HeldShard). with_shard f x ∷ l) (with_set f g ks j k at (λ i there. let z = apart (suc i) there in omega arith) same)

-- If `AreHeld` holds for a list of shards, the seat holds the stripe of each shard.
pub holds_at : (n : ℕ) (v : View) (held : List HeldShard) (m : Map) → AreHeld n v held m → (i k : ℕ) → slice_get (stripes_in held) i ≡ Some k → Holds v k
holds_at n v held m s i k at = subst (λ (ks : List ℕ). 0 < times k ks) (sym s.kept) (let t : 0 < times k (stripes_in held) = times_at (stripes_in held) i k at in omega (arith, times_reverse k (stripes_in held)))

-- If `AreHeld` holds for a list of shards, the seat holds only stripes of these shards.
pub not_held : (n : ℕ) (v : View) (held : List HeldShard) (m : Map) → AreHeld n v held m → (k : ℕ) → ((i : ℕ) → slice_get (stripes_in held) i ≢ Some k) → Holds v k → ⊥
not_held n v held m s k none hold = let h : 0 < times k (reverse (stripes_in held)) = subst (λ (ks : List ℕ). 0 < times k ks) s.kept hold in
    let at = at_times (stripes_in held) k (omega (arith, times_reverse k (stripes_in held))) in none at.0 at.1

-- If shards fit a map, they also fit each map that has the same values in the held stripes.
pub shards_on : (n : ℕ) (v w : View) (held : List HeldShard) (m k : Map) → AreHeld n v held m → w.held ≡ v.held → ((key : ℕ) → Holds v (stripe_of n key) → get k key ≡ get m key) → AreHeld n w held k
shards_on n v w held m k s same have = record {
  kept = same ∙ s.kept;
  apart = s.apart;
  fits = λ i h at q in_k. s.fits i h at q in_k ∙ sym (have q (subst (Holds v) (sym in_k) (holds_at n v held m s i h.stripe (stripe_at held i h at))));
}

-- If a seat takes a stripe and the stripe's shard is added to the held shards, `AreHeld` still holds.
pub shards_taken : (n k : ℕ) (v w : View) (held : List HeldShard) (shard : ShardAt) → AreHeld n v held (now v.seen) → ((i : ℕ) → slice_get (stripes_in held) i ≢ Some k) → GainsStripe n k v shard w → AreHeld n w (held ++ (record { stripe = k; shard = shard }) ∷ []) (now w.seen)
shards_taken n k v w held shard s none t = let new : HeldShard = record { stripe = k; shard = shard } in let ks : List ℕ = stripes_in held in
    let is : stripes_in (held ++ new ∷ []) ≡ ks ++ k ∷ [] = stripes_push held new in
    record {
      kept = ap (λ (x : View). x.held) t.view_is ∙ ap (λ (l : List ℕ). k ∷ l) s.kept ∙ sym (reverse-append ks (k ∷ [])) ∙ ap reverse (sym is);
      apart = λ i j stripe a b. ⊎_elim
          (λ (x : slice_get ks i ≡ Some stripe). ⊎_elim (λ (y : slice_get ks j ≡ Some stripe). s.apart i j stripe x y)
          (λ (y : (j ≡ length ks) × (k ≡ stripe)). absurd (none i (x ∙ ap (λ (z : ℕ). Some z) (sym y.1)))) (push_at ks k stripe j (ap (λ (l : List ℕ). slice_get l j) (sym is) ∙ b)))
          (λ (x : (i ≡ length ks) × (k ≡ stripe)). ⊎_elim (λ (y : slice_get ks j ≡ Some stripe). absurd (none j (y ∙ ap (λ (z : ℕ). Some z) (sym x.1))))
          (λ (y : (j ≡ length ks) × (k ≡ stripe)). x.0 ∙ sym y.0) (push_at ks k stripe j (ap (λ (l : List ℕ). slice_get l j) (sym is) ∙ b)))
          (push_at ks k stripe i (ap (λ (l : List ℕ). slice_get l i) (sym is) ∙ a));
      fits = λ i h at. ⊎_elim
          (λ (x : slice_get held i ≡ Some h). λ q in_k. s.fits i h x q in_k ∙ sym (t.still q (subst (Holds v) (sym in_k) (holds_at n v held (now v.seen) s i h.stripe (stripe_at held i h x)))))
          (λ (x : (i ≡ length held) × (new ≡ h)). subst (λ (y : HeldShard). IsShardOf n y.stripe y.shard (now w.seen)) x.1 t.shard_is.fits) (push_at held new h i at);
    }

-- The shard at a place of `held_shards` belongs to the stripe at the same place in the list of
-- stripes.
pub stripe_in : (seat : MapSeat) (ks : List ℕ) (i k : ℕ) → slice_get ks i ≡ Some k → slice_get (stripes_in (held_shards seat ks)) i ≡ Some k
stripe_in seat ks i k at = ap (λ (l : List ℕ). slice_get l i) (stripes_with (shard_in seat) ks) ∙ at

pub none_in : (seat : MapSeat) (ks : List ℕ) (k : ℕ) → ((i : ℕ) → slice_get ks i ≢ Some k) → (i : ℕ) → slice_get (stripes_in (held_shards seat ks)) i ≢ Some k
none_in seat ks k none i at = none i (ap (λ (l : List ℕ). slice_get l i) (sym (stripes_with (shard_in seat) ks)) ∙ at)

pub apart_in : (n : ℕ) (v : View) (seat : MapSeat) (ks : List ℕ) (m : Map) → AreHeld n v (held_shards seat ks) m → (i j k : ℕ) → slice_get ks i ≡ Some k → slice_get ks j ≡ Some k → i ≡ j
apart_in n v seat ks m s i j k x y = s.apart i j k (stripe_in seat ks i k x) (stripe_in seat ks j k y)

pub holds_in : (n : ℕ) (v : View) (seat : MapSeat) (ks : List ℕ) (m : Map) → AreHeld n v (held_shards seat ks) m → HoldsAll v ks
holds_in n v seat ks m s i k at = holds_at n v (held_shards seat ks) m s i k (stripe_in seat ks i k at)

-- If a seat takes a stripe and its other shards are unchanged, the stripe's shard is appended to the
-- list of held shards.
pub shards_pushed : (a b : MapSeat) (ks : List ℕ) (k : ℕ) → ((i : ℕ) → slice_get ks i ≢ Some k) → LeavesOthers k a b → held_shards b (ks ++ k ∷ []) ≡ held_shards a ks ++ with_shard (shard_in b) k ∷ []
shards_pushed a b ks k none others = with_push (shard_in b) ks k ∙ ap (λ (l : List HeldShard). l ++ with_shard (shard_in b) k ∷ [])
    (with_same (shard_in a) (shard_in b) ks (λ i other at. others other (λ e. none i (at ∙ ap (λ (x : ℕ). Some x) e))))

pub shards_worked : (n : ℕ) (v : View) (a b : MapSeat) (ks : List ℕ) (m : Map) → AreHeld n v (held_shards a ks) m → (j k : ℕ) → slice_get ks j ≡ Some k → LeavesOthers k a b → held_shards b ks ≡ set (held_shards a ks) j (with_shard (shard_in b) k)
shards_worked n v a b ks m s j k at others = with_set (shard_in a) (shard_in b) ks j k at (λ i there. apart_in n v a ks m s i j k there at) others

pub shards_less : (n : ℕ) (v : View) (a b : MapSeat) (ks : List ℕ) (k : ℕ) (m : Map) → AreHeld n v (held_shards a (ks ++ k ∷ [])) m → LeavesOthers k a b → held_shards b ks ≡ held_shards a ks
shards_less n v a b ks k m s others = with_same (shard_in a) (shard_in b) ks (λ i other at. others other (λ e.
    let last : i ≡ length ks = apart_in n v a (ks ++ k ∷ []) m s i (length ks) k (push_old ks k k i (at ∙ ap (λ (x : ℕ). Some x) e)) (push_last ks k) in
    let lt : i < length ks = slice_get_within ks i other at in omega arith))

owed_mine : (n k : ℕ) (job : Job) (jobs : List Job) → stripe_of n job.0 ≡ k → owed_on n k (job ∷ jobs) ≡ owed_on n k jobs + 1
owed_mine n k job jobs is = ap (λ b. cond b (owed_on n k jobs + 1) (owed_on n k jobs)) (eq-eqb (stripe_of n job.0) k is)

owed_other : (n k : ℕ) (job : Job) (jobs : List Job) → stripe_of n job.0 ≢ k → owed_on n k (job ∷ jobs) ≡ owed_on n k jobs
owed_other n k job jobs ne = ap (λ b. cond b (owed_on n k jobs + 1) (owed_on n k jobs)) (ne_eqb (stripe_of n job.0) k ne)

head_same : (a b : Spot) (xs ys : List Spot) → a ∷ xs ≡ b ∷ ys → a ≡ b
head_same a b xs ys e = cc (e)

tail_same : (a b : Spot) (xs ys : List Spot) → a ∷ xs ≡ b ∷ ys → xs ≡ ys
tail_same a b xs ys e = cc (e)

nil_cons : (a : Spot) (xs : List Spot) → [] ≡ a ∷ xs → ⊥
nil_cons a xs e = cc (e)

spot_same : (a b : Option ℕ) (x y : Job) → a ≡ b → x ≡ y → ◌≡◌ {A = Spot} (a, x) (b, y)
spot_same a b x y e f i = (e i, f i)

-- `change` is the newest change of `jobs`, in the form that a hand keeps: with the place of its
-- shard, and with its sub-key.
pub record Newest (n : ℕ) (change : Change) (ks : List ℕ) (changes : List Change) (jobs : List Job) : Type 0 where
  pub job : Job
  pub older : List Job
  pub jobs_are : jobs ≡ job ∷ older
  pub place_is : slice_get ks change.0 ≡ Some (stripe_of n job.0)
  pub what_is : ◌≡◌ {A = Job} (change.1, change.2) (job.0 / n, job.1)
  pub ordered : map (at_place ks) changes ≡ map (of_job n) older

newest_of : (n : ℕ) (change : Change) (ks : List ℕ) (changes : List Change) (jobs : List Job) → map (at_place ks) (change ∷ changes) ≡ map (of_job n) jobs → Newest n change ks changes jobs
newest_of n change ks changes [] e = absurd (nil_cons (at_place ks change) (map (at_place ks) changes) (sym e))
newest_of n change ks changes (job ∷ jobs) e = let head = head_same (at_place ks change) (of_job n job) (map (at_place ks) changes) (map (of_job n) jobs) e in record {
  job = job;
  older = jobs;
  jobs_are = refl;
  place_is = ap (λ (s : Spot). s.0) head;
  what_is = ap (λ (s : Spot). s.1) head;
  ordered = tail_same (at_place ks change) (of_job n job) (map (at_place ks) changes) (map (of_job n) jobs) e;
}

owed_none : (n k : ℕ) (ks : List ℕ) (changes : List Change) (jobs : List Job) → map (at_place ks) changes ≡ map (of_job n) jobs → ((i : ℕ) → slice_get ks i ≢ Some k) → owed_on n k jobs ≡ 0
owed_none n k ks changes [] e none = refl
owed_none n k ks [] (job ∷ jobs) e none = absurd (nil_cons (of_job n job) (map (of_job n) jobs) e)
owed_none n k ks (change ∷ changes) (job ∷ jobs) e none =
    let head = head_same (at_place ks change) (of_job n job) (map (at_place ks) changes) (map (of_job n) jobs) e in
    let here : slice_get ks change.0 ≡ Some (stripe_of n job.0) = ap (λ (s : Spot). s.0) head in
    owed_other n k job jobs (λ is. none change.0 (here ∙ ap (λ (x : ℕ). Some x) is)) ∙ owed_none n k ks changes jobs (tail_same (at_place ks change) (of_job n job) (map (at_place ks) changes) (map (of_job n) jobs) e) none

ordered_push : (n k : ℕ) (ks : List ℕ) (changes : List Change) (jobs : List Job) → map (at_place ks) changes ≡ map (of_job n) jobs → map (at_place (ks ++ k ∷ [])) changes ≡ map (of_job n) jobs
ordered_push n k ks [] jobs e = e
ordered_push n k ks (change ∷ changes) [] e = absurd (nil_cons (at_place ks change) (map (at_place ks) changes) (sym e))
ordered_push n k ks (change ∷ changes) (job ∷ jobs) e =
    let head = head_same (at_place ks change) (of_job n job) (map (at_place ks) changes) (map (of_job n) jobs) e in
    let here : slice_get ks change.0 ≡ Some (stripe_of n job.0) = ap (λ (s : Spot). s.0) head in
    let what : ◌≡◌ {A = Job} (change.1, change.2) (job.0 / n, job.1) = ap (λ (s : Spot). s.1) head in
    let more = ordered_push n k ks changes jobs (tail_same (at_place ks change) (of_job n job) (map (at_place ks) changes) (map (of_job n) jobs) e) in
    ap (λ (s : Spot). s ∷ map (at_place (ks ++ k ∷ [])) changes) (spot_same _ _ _ _ (push_old ks k (stripe_of n job.0) change.0 here) what) ∙ ap (λ (l : List Spot). of_job n job ∷ l) more

pub logged_taken : (n k : ℕ) (held : List HeldShard) (order : List Change) (jobs : List Job) (shard : ShardAt) → AreLogged n held order jobs → ((i : ℕ) → slice_get (stripes_in held) i ≢ Some k) → shard.owed ≡ 0 → AreLogged n (held ++ (record { stripe = k; shard = shard }) ∷ []) order jobs
logged_taken n k held order jobs shard s none empty = let new : HeldShard = record { stripe = k; shard = shard } in let ks : List ℕ = stripes_in held in record {
  owed = λ i h at. ⊎_elim (λ (x : slice_get held i ≡ Some h). s.owed i h x)
      (λ (x : (i ≡ length held) × (new ≡ h)). subst (λ (y : HeldShard). y.shard.owed ≡ owed_on n y.stripe jobs) x.1 (empty ∙ sym (owed_none n k ks (reverse order) jobs s.ordered none))) (push_at held new h i at);
  ordered = ap (λ (l : List ℕ). map (at_place l) (reverse order)) (stripes_push held new) ∙ ordered_push n k ks (reverse order) jobs s.ordered;
}

-- If the shard at the place `j` of the list `held` is replaced, and the map changes only at keys of
-- this shard's stripe, the shards of the new list fit the new map.
pub shards_changed : (n : ℕ) (v : View) (held : List HeldShard) (m k : Map) → AreHeld n v held m → (j : ℕ) (h new : HeldShard) → slice_get held j ≡ Some h → new.stripe ≡ h.stripe
    → IsShardOf n h.stripe new.shard k → ((q : ℕ) → stripe_of n q ≢ h.stripe → get k q ≡ get m q) → AreHeld n v (set held j new) k
shards_changed n v held m k s j h new at same fits still = let is = stripes_set held j h new at same in record {
  kept = s.kept ∙ ap reverse (sym is);
  apart = λ a b stripe x y. s.apart a b stripe (ap (λ (l : List ℕ). slice_get l a) (sym is) ∙ x) (ap (λ (l : List ℕ). slice_get l b) (sym is) ∙ y);
  fits = λ i other there. ⊎_elim
      (λ (t : (i ≡ j) × (new ≡ other)). subst (λ (y : HeldShard). IsShardOf n y.stripe y.shard k) t.1 (subst (λ (stripe : ℕ). IsShardOf n stripe new.shard k) (sym same) fits))
      (λ (t : (i ≢ j) × (slice_get held i ≡ Some other)). λ q in_k. s.fits i other t.1 q in_k
      ∙ sym (still q (λ in_h. t.0 (s.apart i j h.stripe (stripe_at held i other t.1 ∙ ap (λ (x : ℕ). Some x) (sym in_k ∙ in_h)) (stripe_at held j h at))))) (set_place held j i new other there);
}

pub logged_changed : (n : ℕ) (v : View) (held : List HeldShard) (m : Map) (order later : List Change) (jobs more : List Job) → AreHeld n v held m → AreLogged n held order jobs → (j : ℕ) (h new : HeldShard) → slice_get held j ≡ Some h → new.stripe ≡ h.stripe
    → new.shard.owed ≡ owed_on n h.stripe more → ((k : ℕ) → k ≢ h.stripe → owed_on n k more ≡ owed_on n k jobs)
    → map (at_place (stripes_in held)) (reverse later) ≡ map (of_job n) more → AreLogged n (set held j new) later more
logged_changed n v held m order later jobs more p s j h new at same owed still ordered = record {
  owed = λ i other there. ⊎_elim
      (λ (t : (i ≡ j) × (new ≡ other)). subst (λ (y : HeldShard). y.shard.owed ≡ owed_on n y.stripe more) t.1 (owed ∙ ap (λ (k : ℕ). owed_on n k more) (sym same)))
      (λ (t : (i ≢ j) × (slice_get held i ≡ Some other)). s.owed i other t.1
      ∙ sym (still other.stripe (λ in_h. t.0 (p.apart i j h.stripe (stripe_at held i other t.1 ∙ ap (λ (x : ℕ). Some x) in_h) (stripe_at held j h at))))) (set_place held j i new other there);
  ordered = ap (λ (l : List ℕ). map (at_place l) (reverse later)) (stripes_set held j h new at same) ∙ ordered;
}

-- Two different keys of one stripe have different sub-keys.
sub_apart : (n q key : ℕ) → stripe_of n q ≡ stripe_of n key → q ≢ key → q / n ≢ key / n
sub_apart n q key same ne e = ne (sym (div-add-mod q n) ∙ ap (λ (x : ℕ). n * x + q % n) e ∙ ap (λ (x : ℕ). n * (key / n) + x) same ∙ div-add-mod key n)

under_key : (op : Op) (s : ℕ) → key_of (under op s) ≡ s
under_key (Put k value) s = refl
under_key (Take k) s = refl
under_key (Get k) s = refl
under_key (PutIf k expected value) s = refl

under_changes : (op : Op) (s : ℕ) (reply : Option ℕ) → changes (under op s) reply ≡ changes op reply
under_changes (Put k value) s reply = refl
under_changes (Take k) s reply = refl
under_changes (Get k) s reply = refl
under_changes (PutIf k expected value) s reply = refl

put_if_same : (c m : Map) (s k value : ℕ) (a b : Bool) → a ≡ b → get c s ≡ get m k → get (cond a (insert c s value) c) s ≡ get (cond b (insert m k value) m) k
put_if_same c m s k value true true e same = get-insert-here c s value ∙ sym (get-insert-here m k value)
put_if_same c m s k value false false e same = same
put_if_same c m s k value true false e same = absurd (false≢true (sym e))
put_if_same c m s k value false true e same = absurd (false≢true e)

after_here : (c m : Map) (op : Op) (s : ℕ) → get c s ≡ get m (key_of op) → get (after c (under op s)) s ≡ get (after m op) (key_of op)
after_here c m (Put k value) s same = get-insert-here c s value ∙ sym (get-insert-here m k value)
after_here c m (Take k) s same = get-remove-here c s ∙ sym (get-remove-here m k)
after_here c m (Get k) s same = same
after_here c m (PutIf k expected value) s same = put_if_same c m s k value _ _ (ap (λ (o : Option ℕ). option_eq nat_eq o expected) same) same

-- If a shard and the map have the same values at the keys of the shard's stripe, they still have
-- after an operation on both.
sub_after : (n : ℕ) (c m : Map) (op : Op) (q : ℕ) → stripe_of n q ≡ stripe_of n (key_of op) → get c (q / n) ≡ get m q → get c (key_of op / n) ≡ get m (key_of op)
    → get (after c (under op (key_of op / n))) (q / n) ≡ get (after m op) q
sub_after n c m op q same at_q at_key = let s : ℕ = key_of op / n in dite (ℕ_discrete q (key_of op))
    (λ (e : q ≡ key_of op). subst (λ (x : ℕ). get (after c (under op s)) (x / n) ≡ get (after m op) x) (sym e) (after_here c m op s at_key))
    (λ ne. get-after_other c (under op s) (q / n) (λ e. sub_apart n q (key_of op) same ne (e ∙ under_key op s)) ∙ at_q ∙ sym (get-after_other m op q ne))

pub shards_noted : (n : ℕ) (v : View) (held : List HeldShard) (m : Map) → AreHeld n v held m → (j : ℕ) (h : HeldShard) (shard : ShardAt) (op : Op) (reply : Option ℕ) → slice_get held j ≡ Some h → h.stripe ≡ stripe_of n (key_of op)
    → Does h.shard shard (under op (key_of op / n)) reply → AreHeld n v (set held j (record { stripe = h.stripe; shard = shard })) (after m op)
shards_noted n v held m s j h shard op reply at in_k does = shards_changed n v held m (after m op) s j h (record { stripe = h.stripe; shard = shard }) at refl
    (λ q in_h. ap (λ (c : Map). get c (q / n)) does.content_is ∙ sub_after n h.shard.content m op q (in_h ∙ in_k) (s.fits j h at q in_h) (s.fits j h at (key_of op) (sym in_k)))
    (λ q out. get-after_other m op q (λ e. out (ap (stripe_of n) e ∙ sym in_k)))

-- The reply of an operation on a shard is the value of the map at the operation's key.
pub reply_right : (n : ℕ) (v : View) (held : List HeldShard) (m : Map) → AreHeld n v held m → (j : ℕ) (h : HeldShard) (shard : ShardAt) (op : Op) (reply : Option ℕ) → slice_get held j ≡ Some h → h.stripe ≡ stripe_of n (key_of op)
    → Does h.shard shard (under op (key_of op / n)) reply → reply ≡ get m (key_of op)
reply_right n v held m s j h shard op reply at in_k does = does.reply_is ∙ ap (get h.shard.content) (under_key op (key_of op / n)) ∙ s.fits j h at (key_of op) (sym in_k)

owed_split : (b : Bool) (n k : ℕ) (job : Job) (jobs : List Job) → stripe_of n job.0 ≢ k → owed_on n k (cond b (job ∷ jobs) jobs) ≡ owed_on n k jobs
owed_split true n k job jobs ne = owed_other n k job jobs ne
owed_split false n k job jobs ne = refl

owed_grows : (b : Bool) (n k : ℕ) (job : Job) (jobs : List Job) → stripe_of n job.0 ≡ k → cond b (owed_on n k jobs + 1) (owed_on n k jobs) ≡ owed_on n k (cond b (job ∷ jobs) jobs)
owed_grows true n k job jobs is = sym (owed_mine n k job jobs is)
owed_grows false n k job jobs is = refl

order_grows : (b : Bool) (n j : ℕ) (ks : List ℕ) (order : List Change) (job : Job) (jobs : List Job) → slice_get ks j ≡ Some (stripe_of n job.0) → map (at_place ks) (reverse order) ≡ map (of_job n) jobs
    → map (at_place ks) (reverse (cond b (order ++ (j, job.0 / n, job.1) ∷ []) order)) ≡ map (of_job n) (cond b (job ∷ jobs) jobs)
order_grows true n j ks order job jobs at e = ap (map (at_place ks)) (reverse-append order ((j, job.0 / n, job.1) ∷ []))
    ∙ ap (λ (s : Spot). s ∷ map (at_place ks) (reverse order)) (spot_same _ _ _ _ at refl) ∙ ap (λ (l : List Spot). of_job n job ∷ l) e
order_grows false n j ks order job jobs at e = e

pub logged_noted : (n : ℕ) (v : View) (held : List HeldShard) (m : Map) (order : List Change) (jobs : List Job) → AreHeld n v held m → AreLogged n held order jobs → (j : ℕ) (h : HeldShard) (shard : ShardAt) (op : Op) (reply : Option ℕ) → slice_get held j ≡ Some h
    → h.stripe ≡ stripe_of n (key_of op) → Does h.shard shard (under op (key_of op / n)) reply
    → AreLogged n (set held j (record { stripe = h.stripe; shard = shard })) (cond (changes op reply) (order ++ (j, key_of op / n, reply) ∷ []) order) (cond (changes op reply) ((key_of op, reply) ∷ jobs) jobs)
logged_noted n v held m order jobs p s j h shard op reply at in_k does = let b : Bool = changes op reply in let job : Job = (key_of op, reply) in let sub : ℕ = key_of op / n in
    logged_changed n v held m order (cond b (order ++ (j, sub, reply) ∷ []) order) jobs (cond b (job ∷ jobs) jobs) p s j h (record { stripe = h.stripe; shard = shard }) at refl
    (does.owed_is ∙ ap (λ (c : Bool). cond c (h.shard.owed + 1) h.shard.owed) (under_changes op sub reply)
    ∙ ap (λ (x : ℕ). cond b (x + 1) x) (s.owed j h at) ∙ owed_grows b n h.stripe job jobs (sym in_k))
    (λ k ne. owed_split b n k job jobs (λ e. ne (sym e ∙ sym in_k)))
    (order_grows b n j (stripes_in held) order job jobs (stripe_at held j h at ∙ ap (λ (x : ℕ). Some x) in_k) s.ordered)

-- If `AreLogged` holds, the change at the end of `order` is the newest change of `jobs`.
pub newest : (n : ℕ) (held : List HeldShard) (order : List Change) (change : Change) (jobs : List Job) → AreLogged n held (order ++ change ∷ []) jobs → Newest n change (stripes_in held) (reverse order) jobs
newest n held order change jobs s = newest_of n change (stripes_in held) (reverse order) jobs (ap (map (at_place (stripes_in held))) (sym (reverse-append order (change ∷ []))) ∙ s.ordered)

-- If the newest change was made in the shard `h`, the number of changes that this shard can take back
-- is one more than the number of older changes in its stripe.
pub newest_owed : (n : ℕ) (held : List HeldShard) (order : List Change) (change : Change) (jobs : List Job) (s : AreLogged n held (order ++ change ∷ []) jobs) (h : HeldShard) → slice_get held change.0 ≡ Some h
    → let new = newest n held order change jobs s in h.shard.owed ≡ owed_on n h.stripe new.older + 1
newest_owed n held order change jobs s h at = let new = newest n held order change jobs s in
    let in_k : stripe_of n new.job.0 ≡ h.stripe = same_Some _ _ (sym new.place_is ∙ stripe_at held change.0 h at) in
    s.owed change.0 h at ∙ ap (owed_on n h.stripe) new.jobs_are ∙ owed_mine n h.stripe new.job new.older in_k

-- If a change is taken back in the shard of a held stripe, and also in the map, the shards still fit
-- the map.
pub shards_back : (n : ℕ) (v : View) (held : List HeldShard) (m : Map) → AreHeld n v held m → (j : ℕ) (h : HeldShard) (shard : ShardAt) (job : Job) → slice_get held j ≡ Some h → h.stripe ≡ stripe_of n job.0
    → TakesBack h.shard shard (job.0 / n) job.1 → AreHeld n v (set held j (record { stripe = h.stripe; shard = shard })) (set_at m job.0 job.1)
shards_back n v held m s j h shard job at in_k back = shards_changed n v held m (set_at m job.0 job.1) s j h (record { stripe = h.stripe; shard = shard }) at refl
    (λ q in_h. ap (λ (c : Map). get c (q / n)) back.content_is ∙ get-set_at h.shard.content (job.0 / n) job.1 (q / n) ∙ dite (ℕ_discrete q job.0)
    (λ (e : q ≡ job.0). ap (λ b. cond b job.1 (get h.shard.content (q / n))) (eq-eqb (q / n) (job.0 / n) (ap (λ (x : ℕ). x / n) e)) ∙ sym (get-set_at m job.0 job.1 q ∙ ap (λ b. cond b job.1 (get m q)) (eq-eqb q job.0 e)))
    (λ ne. ap (λ b. cond b job.1 (get h.shard.content (q / n))) (ne_eqb (q / n) (job.0 / n) (sub_apart n q job.0 (in_h ∙ in_k) ne)) ∙ s.fits j h at q in_h ∙ sym (get-set_at m job.0 job.1 q ∙ ap (λ b. cond b job.1 (get m q)) (ne_eqb q job.0 ne))))
    (λ q out. get-set_at m job.0 job.1 q ∙ ap (λ b. cond b job.1 (get m q)) (ne_eqb q job.0 (λ e. out (ap (stripe_of n) e ∙ sym in_k))))

pub logged_back : (n : ℕ) (v : View) (held : List HeldShard) (m : Map) (order : List Change) (jobs : List Job) → AreHeld n v held m → (change : Change) (s : AreLogged n held (order ++ change ∷ []) jobs) (h : HeldShard) (shard : ShardAt) → slice_get held change.0 ≡ Some h
    → let new = newest n held order change jobs s in shard.owed ≡ owed_on n h.stripe new.older → AreLogged n (set held change.0 (record { stripe = h.stripe; shard = shard })) order new.older
logged_back n v held m order jobs p change s h shard at owed = let new = newest n held order change jobs s in
    let in_k : stripe_of n new.job.0 ≡ h.stripe = same_Some _ _ (sym new.place_is ∙ stripe_at held change.0 h at) in
    logged_changed n v held m (order ++ change ∷ []) order jobs new.older p s change.0 h (record { stripe = h.stripe; shard = shard }) at refl owed
    (λ k ne. sym (ap (owed_on n k) new.jobs_are ∙ owed_other n k new.job new.older (λ e. ne (sym e ∙ in_k)))) new.ordered

-- If `AreHeld` holds for a list of shards, the seat holds the stripe of the last shard.
pub newest_stripe : (n : ℕ) (v : View) (held : List HeldShard) (m : Map) (h : HeldShard) → AreHeld n v (held ++ h ∷ []) m → Holds v h.stripe
newest_stripe n v held m h s = holds_at n v (held ++ h ∷ []) m s (length held) h.stripe (stripe_at (held ++ h ∷ []) (length held) h (push_last held h))

pub newest_fits : (n : ℕ) (v : View) (held : List HeldShard) (m : Map) (h : HeldShard) → AreHeld n v (held ++ h ∷ []) m
    → IsShardOf n h.stripe h.shard m
newest_fits n v held m h s = s.fits (length held) h (push_last held h)

pub shards_given : (n : ℕ) (v : View) (held : List HeldShard) (m : Map) (h : HeldShard) → AreHeld n v (held ++ h ∷ []) m → AreHeld n (lost v h.stripe) held m
shards_given n v held m h s = let ks : List ℕ = stripes_in held in let is = stripes_push held h in record {
  kept = ap (removed h.stripe) (s.kept ∙ ap reverse is ∙ reverse-append ks (h.stripe ∷ [])) ∙ removed_same h.stripe (reverse ks);
  apart = λ i j stripe a b. s.apart i j stripe (ap (λ (l : List ℕ). slice_get l i) is ∙ push_old ks h.stripe stripe i a) (ap (λ (l : List ℕ). slice_get l j) is ∙ push_old ks h.stripe stripe j b);
  fits = λ i other at. s.fits i other (push_old held h other i at);
}

-- If a seat holds no stripe, `AreHeld` holds for the empty list of shards.
pub shards_none : (n : ℕ) (v : View) (m : Map) → v.held ≡ [] → AreHeld n v [] m
shards_none n v m is = record { kept = is; apart = λ i j k a b. absurd (none-some k a); fits = λ i h at. absurd (none-some h at) }

pub logged_none : (n : ℕ) (held : List HeldShard) → ((i : ℕ) (h : HeldShard) → slice_get held i ≡ Some h → ⊥) → AreLogged n held [] []
logged_none n held none = record { owed = λ i h at. absurd (none i h at); ordered = refl }

-- If the history `log` extends `seen` by the entries `es` (`Extends`), and all of these entries are
-- the caller's, its own entries in `log` are its own entries in `seen`, followed by `es`.
pub own_extends : (n c : ℕ) (held : List ℕ) (seen es log : List Entry) → Extends n c held seen es log → own c es ≡ es → own c log ≡ own c seen ++ es
own_extends n c held seen es log x whole =
    ap (own c) x.goes ∙ own-append c (seen ++ x.between) es ∙ ap (λ (l : List Entry). l ++ own c es) (own-append c seen x.between ∙ ap (λ (l : List Entry). own c seen ++ l) x.others ∙ append-nil (own c seen))
    ∙ ap (λ (l : List Entry). own c seen ++ l) whole

pub own_same : (n c : ℕ) (held : List ℕ) (seen log : List Entry) → Extends n c held seen [] log → own c log ≡ own c seen
own_same n c held seen log x = own_extends n c held seen [] log x refl ∙ append-nil (own c seen)

-- If `mid` extends `seen` by no entries of the caller, and `log` extends `mid` by the entries `es`,
-- then `log` extends `seen` by `es` (`Extends`).
pub extends_then : (n c : ℕ) (held more : List ℕ) (seen mid es log : List Entry) → ((stripe : ℕ) → 0 < times stripe held → 0 < times stripe more)
    → Extends n c held seen [] mid → Extends n c more mid es log → Extends n c held seen es log
extends_then n c held more seen mid es log keeps a b = record {
  between = a.between ++ b.between;
  goes = b.goes ∙ ap (λ (l : List Entry). (l ++ b.between) ++ es) (a.goes ∙ append-nil (seen ++ a.between)) ∙ ap (λ (l : List Entry). l ++ es) (append_assoc seen a.between b.between);
  others = own-none c a.between b.between a.others b.others;
  spared = λ stripe hold. asks_none (asks_in n stripe) a.between b.between (a.spared stripe hold) (b.spared stripe (keeps stripe hold));
  legal = b.legal;
}

pub extends_none : (n c : ℕ) (held : List ℕ) (seen : List Entry) → IsLegal Begun n seen → Extends n c held seen [] seen
extends_none n c held seen legal = record { between = []; goes = sym (append-nil (seen ++ []) ∙ append-nil seen); others = refl; spared = λ stripe hold. refl; legal = legal }

pub back_step : (m : Map) (left less : ℕ) (jobs older : List Job) (job : Job) → left ≡ suc less → jobs ≡ job ∷ older
    → (rolled_back (set_at m job.0 job.1) (take less older) ≡ rolled_back m (take left jobs)) × (drop less older ≡ drop left jobs)
back_step m left less jobs older job e f = subst (λ (l : ℕ). (rolled_back (set_at m job.0 job.1) (take less older) ≡ rolled_back m (take l jobs)) × (drop less older ≡ drop l jobs)) (sym e)
    (subst (λ (js : List Job). (rolled_back (set_at m job.0 job.1) (take less older) ≡ rolled_back m (take (suc less) js)) × (drop less older ≡ drop (suc less) js)) (sym f) (refl, refl))

pub back_done : (m : Map) (left : ℕ) (jobs : List Job) → left ≡ 0 → (rolled_back m (take left jobs) ≡ m) × (drop left jobs ≡ jobs)
back_done m left jobs e = subst (λ (l : ℕ). (rolled_back m (take l jobs) ≡ m) × (drop l jobs ≡ jobs)) (sym e) (refl, refl)
