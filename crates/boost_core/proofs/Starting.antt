-- A core whose history is empty.
use Rattle.std.proofs.Common.{◌≡◌, ℕ, ◌+◌, ◌<◌, ◌≤◌, ◌==◌, ◌∷◌, Bool, true, List, [], length, map, replicate, Option, Some, None, zero, suc, refl, sym, ap, ◌∙◌, arith, slice_get, sum_by, eq-eqb, eqb-true, inl, inr, All, option_map, ◌*◌, ◌/◌, ◌%◌, ◌^◌, pow-suc, count_ones}
use Rattle.boost_core.proofs.Vocabulary.{and_parts, cases_Bool, cases_lt, slice_get_within, get_or_from_slice_get, caller_of, is_power_of_two, length-replicate, get_or-replicate, get_or_past, All-nil, sum_by-cons, held_by, Sizes, are_limits, owed_in, NodeAt, first, first_dummy, node_of, IsRising, IsSpread, IsSound, TableAt, IsNew, Nothing, cursor_changes, nodes_of, Session, start, Side, side_of, IsIdle, owed_of, times_kept, World, Tells, HasStance, state_of, session_changes, node_at, gap_if, gap_by, all_times, cases_eq, zero_from_ones, ones_le_self}
use Rattle.txn_trace.proofs.BadEntries.{legal_none}
use Rattle.boost_core.proofs.Gaps.{idle_cursors}
use Rattle.boost_core.proofs.NodeLists.{node_here, node_later, none_of_none}
use Rattle.boost_core.proofs.Spares.{none_covered}
use Rattle.std.specs.Int.Count.{ones_step}

-- The number is a power of two.
abbrev pub IsPower : ℕ → Type 0
IsPower n = (exponent : ℕ) × (n ≡ 2 ^ exponent)

doubled : (n half exponent : ℕ) → n ≡ half * 2 → half ≡ 2 ^ exponent → IsPower n
doubled n half exponent twice is = (suc exponent, twice ∙ ap (λ (k : ℕ). k * 2) is ∙ sym (pow-suc 2 exponent))

-- If exactly one bit of a number is 1, the number is a power of two.
power_below : (d n : ℕ) → n ≤ d → count_ones n ≡ 1 → IsPower n
power_below zero n most one = absurd (omega (arith, ones_le_self n))
power_below (suc d) n most one =
    let step = ones_step n in
    elim (cases_eq (n % 2) 1) [
      | inl odd ↦ (0, omega (arith, zero_from_ones (n / 2) (omega arith)))
      | inr other ↦
          let half = power_below d (n / 2) (omega arith) (omega arith) in
          doubled n (n / 2) half.0 (omega arith) half.1
    ]

pub power_from_test : (n : ℕ) → is_power_of_two n ≡ true → IsPower n
power_from_test n is = power_below n n (omega arith) (eqb-true (count_ones n) 1 is)

-- If `are_limits` accepts the numbers of callers, stripes and buckets, the number of buckets is a
-- power of two.
pub buckets_power : (callers stripes buckets : ℕ) → are_limits callers stripes buckets ≡ true → IsPower buckets
buckets_power callers stripes buckets are = power_from_test buckets (and_parts _ (is_power_of_two buckets) are).1

-- If `are_limits` accepts the numbers of callers, stripes and buckets, there are at most 64 callers
-- and at least one stripe.
pub few_callers : (callers stripes buckets : ℕ) → are_limits callers stripes buckets ≡ true → callers ≤ 64
few_callers callers stripes buckets are = grind arith

pub some_stripe : (callers stripes buckets : ℕ) → are_limits callers stripes buckets ≡ true → 0 < stripes
some_stripe callers stripes buckets are = grind arith

-- If `f` maps every element of a list to `b`, the mapped list has only copies of `b`.
image_is : {A B : Type 0} (f : A → B) (b : B) (xs : List A) → ((x : A) (k : ℕ) → slice_get xs k ≡ Some x → f x ≡ b) → map f xs ≡ replicate (length xs) b
image_is f b [] all = refl
image_is f b (x ∷ xs) all = λ i. all x 0 refl i ∷ image_is f b xs (λ y k at. all y (suc k) at) i

sum_none : {A : Type 0} (f : A → ℕ) (xs : List A) → ((x : A) (k : ℕ) → slice_get xs k ≡ Some x → f x ≡ 0) → sum_by f xs ≡ 0
sum_none f [] all = refl
sum_none f (x ∷ xs) all = sum_by-cons f x xs ∙ (λ i. all x 0 refl i + sum_none f xs (λ y k at. all y (suc k) at) i)

none_fit : (t : TableAt) (n : ℕ) → map (gap_if t) (replicate n None) ≡ replicate n None
none_fit t zero = refl
none_fit t (suc n) = ap (λ rest. None ∷ rest) (none_fit t n)

none_held : (stripes s : ℕ) → held_by (replicate stripes None) s ≡ None
none_held stripes s = elim (cases_lt s stripes) [
  | inl within ↦ get_or-replicate stripes s None None within
  | inr past ↦ get_or_past (replicate stripes None) s None (omega (arith, length-replicate {A = Option ℕ} stripes None))
]

module _ (limits : Sizes) (t : TableAt) (new : IsNew t limits.buckets limits.callers) (sessions : List Session) (count : length sessions ≡ limits.callers) (idle : All IsIdle sessions) (words : Bool) where
  is_idle : (s : Session) (c : ℕ) → slice_get sessions c ≡ Some s → IsIdle s
  is_idle s c at = rw (get_or_from_slice_get sessions c s s at) at (idle c s (slice_get_within sessions c s at))

  abbrev pub first_world : List (Option ℕ) → World
  first_world locks = record { limits = limits; history = []; counts = record { began = 0; committed = 0 }; table = t; sessions = sessions; locks = locks; placed = None; words = words }

  idle_stance : (s : Session) (c : ℕ) → IsIdle s → HasStance [] c (side_of s) s.log.room
  idle_stance s c is = rw is (record {
    stance = refl;
    log = refl;
    due = tt;
    agrees = record { standing = refl; kept = refl; waits = tt; level = omega arith };
  })

  one_node : (place : ℕ) (n : NodeAt) → node_of (nodes_of t) place ≡ Some n → (t.list.head ≡ place) × (n ≡ first_dummy t.list.head 0)
  one_node place n is =
      let only = rw new.nodes_are at is in elim (cases_Bool (t.list.head == place)) [
        | inl here ↦ (eqb-true t.list.head place here, sym (node_here (first_dummy t.list.head 0) [] place n only here))
        | inr apart ↦ absurd (none_of_none place n (node_later (first_dummy t.list.head 0) [] place (Some n) only apart))
      ]

  first_sound : IsSound t.list
  unfolding node_of IsRising IsSpread
  first_sound = record {
    first = record {
      node = first_dummy t.list.head 0;
      first = ap first new.nodes_are;
      is = rw (new.nodes_are, eq-eqb t.list.head t.list.head refl) refl;
      at = refl;
      kind = refl;
    };
    rising = rw new.nodes_are (tt, tt);
    spread = rw new.nodes_are (tt, tt);
    plain = rw new.nodes_are (λ kind. refl, tt);
    stamped = record {
      bound = λ place n is. let none : n.stamp ≡ 0 = ap (λ m. m.stamp) (one_node place n is).1 in omega arith;
      alone = λ p q n m at_p at_q same. sym (one_node p n at_p).0 ∙ (one_node q m at_q).0;
      apart = λ place other n is out. absurd (cc (new.none_out other, out));
      out_bound = λ place stamp is. absurd (cc (new.none_out place, is));
      out_alone = λ p q stamp at_p at_q. absurd (cc (new.none_out p, at_p));
    };
    last = let none = new.last_is in omega arith;
  }

  pub start_tells : (locks : List (Option ℕ)) → locks ≡ replicate limits.stripes None → Tells (first_world locks)
  start_tells locks none = record {
    legal = legal_none limits.stripes;
    callers = All-nil (λ entry. caller_of entry < limits.callers);
    begins = refl;
    commits = refl;
    content = new.content_is;
    count = count;
    its_stance = λ c s at. idle_stance s c (is_idle s c at);
    sought = λ c s at. rw (ap (λ (side : Side). side.cursor) (is_idle s c at)) tt;
    spares = none_covered t (all_times sessions) new.none_out (λ place stamp. sum_none (λ s. times_kept (side_of s) place stamp) sessions (λ s c at. ap (λ (side : Side). times_kept side place stamp) (is_idle s c at)));
    fresh = tt;
    stripes = ap length none ∙ length-replicate limits.stripes None;
    holders = λ s below. ap (λ ls. held_by ls s) none ∙ none_held limits.stripes s;
    largest = new.largest_is;
    helpers = ap length new.helps_is ∙ length-replicate limits.callers Nothing;
    sound = first_sound;
  }

  pub none_owed : sum_by owed_of sessions ≡ 0
  none_owed = sum_none owed_of sessions (λ s c at. ap (λ (side : Side). owed_in side.stance.standing side.stance.phase) (is_idle s c at))

  pub start_is : (locks : List (Option ℕ)) → state_of (first_world locks) ≡ record (start limits) { words = words }
  start_is locks = λ i. record {
    limits = limits;
    words = words;
    history = [];
    size = new.size_is i;
    stored = new.stored_is i;
    linked = new.linked_is i;
    nodes = map node_at (new.nodes_are i);
    changes = new.changes_is i;
    stamp = new.last_is i;
    cursors = (image_is session_changes None sessions (λ s c at. ap (λ (side : Side). option_map cursor_changes side.cursor) (is_idle s c at)) ∙ ap (λ n. replicate n None) count) i;
    gaps = (image_is (gap_by t) None sessions (λ s c at. ap (λ (side : Side). gap_if t side.cursor) (is_idle s c at)) ∙ ap (λ n. replicate n None) count) i;
    helper_gaps = (ap (map (gap_if t)) (idle_cursors t.buckets.helpers limits.callers new.helps_is) ∙ none_fit t limits.callers) i;
    helpers = new.helps_is i;
    placed = None;
  }
