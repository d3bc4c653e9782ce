-- Shows that a core's invariants hold after one caller's side changes, because the other sides
-- stay, and each sum over all callers changes by this caller's term.
use Rattle.std.proofs.Common.{◌≡◌, ◌≢◌, ℕ, ◌+◌, ◌-◌, ◌<◌, ◌≤◌, true, cond, List, [], ◌∷◌, ◌++◌, length, get_or, set, Option, Some, None, refl, sym, ap, subst, ◌∙◌, arith, slice_get, slice_set, sum_by, reverse, length-set, get_or-set_same, get_or-set_other, ◌⊎◌, inl, inr, option_and_then}
use Rattle.boost_core.proofs.Vocabulary.{cases_eq, slice_get_within, get_or_from_slice_get, slice_get-get_or, Entry, Map, get, caller_of, is_began, is_commit, now, Phase, Closed, LeavingTo, Stance, RoomyStance, row, stance_after, own, log_of, stripe_of, holder_of, IsLevelIn, stance_leveled, MapJob, TableAt, Cursor, content, IsPlaced, largest_of, helps_of, length-map, length-reverse, sum_by-set, get_or-le-sum_by, All-push, is_saved, IsLegal, is_running, how_many-push, Next, stance-own, log_held, held_by, Counts, Session, Owner, holder_by, IsCovered, StaysCovered, Side, side_of, level_of, target_in, target_of, KeepsPlaced, IsSought, IsSoughtAt, Waits, Agrees, change_of, times_kept, changes_of, AreDue, World, Tells, HasStance, LastPlacedFits, all_times, KeepsBuckets}
use Rattle.txn_words.specs.declared.holder.Holder.{Holder}
use Rattle.txn_trace.proofs.Entries.{length-log_of}
use Rattle.boost_core.proofs.Due.{all_of_changes, due_same}

-- After session `c` is set, each session is either the new one, at `c`, or an unchanged one at
-- another number.
pub set_cases : (sessions : List Session) (c d : ℕ) (y s : Session) → c < length sessions → slice_get (slice_set sessions c y) d ≡ Some s → ((d ≡ c) × (s ≡ y)) ⊎ ((d ≢ c) × (slice_get sessions d ≡ Some s))
set_cases sessions c d y s within at =
    let here : get_or (set sessions c y) d y ≡ s = get_or_from_slice_get (set sessions c y) d s y at in
    elim (cases_eq d c) [
      | inl same ↦ inl (same, sym here ∙ ap (λ k. get_or (set sessions c y) k y) same ∙ get_or-set_same sessions c y y within)
      | inr other ↦ inr (other, slice_get-get_or sessions d y (omega (arith, length-set sessions c y, slice_get_within (set sessions c y) d s at)) ∙ ap Some (sym (get_or-set_other sessions c d y y other) ∙ here))
    ]

-- If session c changes from x to y, the sum of f over all sessions loses f x and gains f y.
pub sum_changed : (f : Session → ℕ) (sessions : List Session) (c : ℕ) (x y : Session) → slice_get sessions c ≡ Some x → sum_by f (slice_set sessions c y) + f x ≡ sum_by f sessions + f y
sum_changed f sessions c x y at = rw (get_or_from_slice_get sessions c x x at) at (sum_by-set f sessions c y x (slice_get_within sessions c x at))

pub one_of_sum : (f : Session → ℕ) (sessions : List Session) (c : ℕ) (x : Session) → slice_get sessions c ≡ Some x → f x ≤ sum_by f sessions
one_of_sum f sessions c x at = rw (get_or_from_slice_get sessions c x x at) at (get_or-le-sum_by f sessions c x (slice_get_within sessions c x at))

-- Let the table and one caller's session change, and let `StaysCovered` hold for this change. Then
-- the sessions still keep exactly those spares that the table has given out.
pub traded : (t t' : TableAt) (sessions : List Session) (c : ℕ) (x y : Session) → slice_get sessions c ≡ Some x
    → StaysCovered t (times_kept (side_of x)) t' (times_kept (side_of y)) → IsCovered (all_times sessions) t → IsCovered (all_times (slice_set sessions c y)) t'
traded t t' sessions c x y at trade covered place stamp =
    let after = trade (λ p s. all_times sessions p s - times_kept (side_of x) p s) (λ p s. omega (arith, most p s, covered p s)) place stamp in
    let sums = sum_changed (λ session. times_kept (side_of session) place stamp) sessions c x y at in
    omega (arith, most place stamp, sums, after)
  where
    most : (p s : ℕ) → times_kept (side_of x) p s ≤ all_times sessions p s
    most p s = one_of_sum (λ session. times_kept (side_of session) p s) sessions c x at

-- If every placed cursor stays placed, a caller's cursor stays placed for its target.
pub still_sought_at : (t t' : TableAt) (cursor : Option Cursor) (target : Option ℕ) → ((cursor : Cursor) (key : ℕ) → IsPlaced t cursor key → IsPlaced t' cursor key) → IsSoughtAt t cursor target → IsSoughtAt t' cursor target
still_sought_at t t' None target keeps sought = tt
still_sought_at t t' (Some cursor) None keeps sought = sought
still_sought_at t t' (Some cursor) (Some key) keeps sought = keeps cursor key sought

closed_due : (m : Map) (jobs : List MapJob) → length jobs ≡ 0 → AreDue m jobs
closed_due m [] none = tt
closed_due m (job ∷ jobs) none = absurd (omega arith)

-- `changes_of` gives one change for each job.
changes_long : (jobs : List MapJob) → length (changes_of jobs) ≡ length jobs
changes_long jobs = length-map (reverse jobs) change_of ∙ length-reverse jobs

-- The jobs of a caller stay due if the values of the jobs' keys are unchanged.
still_due : {holder : Holder} (stripes : ℕ) (h : List Entry) (d : ℕ) (s : Side) (room : ℕ) (current : Map) → IsLegal holder stripes h → HasStance h d s room
    → ((k : ℕ) → holder_of stripes (stripe_of stripes k) h ≡ Some d → get current k ≡ get (now h) k) → AreDue current (reverse s.jobs)
still_due stripes h d s room current legal is same = at s.stance.phase refl
  where
    keyed : is_running (stance_after (own d h)) ≡ true → AreDue current (reverse s.jobs)
    keyed active =
        let P : ℕ → Type 0 = λ k. holder_of stripes (stripe_of stripes k) h ≡ Some d in
        due_same P (now h) current (reverse s.jobs) same (all_of_changes P (reverse s.jobs) (rw is.log at (log_held stripes h legal d active))) is.due

    at : (q : Phase) → s.stance.phase ≡ q → AreDue current (reverse s.jobs)
    at Closed is_q =
        let none : s.stance.standing ≡ 0 = (rw is_q at (stance_leveled (own d h) s.stance is.stance).within).0 in
        closed_due current (reverse s.jobs) (length-reverse s.jobs ∙ sym is.agrees.standing ∙ none)
    at q is_q = keyed (rw (is.stance, is_q) refl)

-- A step that adds an entry. The field `next` describes the history after the entry. After the
-- step, the caller's side is `side`, but without a cursor and still with the stance from before the
-- entry. The field `apart` says that the step disturbs no other caller.
pub record Grows (w : World) (c : ℕ) (x y : Session) (t' : TableAt) (locks' : List (Option ℕ)) (counts' : Counts) (e : Entry) : Type 0 where
  pub stance : Stance
  pub committed : Map
  pub current : Map
  pub holder : ℕ → Option ℕ
  pub side : Side
  pub becomes : side_of y ≡ record side { stance = x.stance.stance; cursor = None }
  pub next : Next (holder_by w.words) w.limits.stripes w.history e stance (changes_of side.jobs) committed current holder
  pub mine : caller_of e ≡ c
  pub saved : is_saved e ≡ true → 0 < y.stance.room
  pub kept : stance.kept ≡ 0 ∷ side.kept
  pub waits : Waits stance.phase side.pending y.log.room
  pub due : AreDue current (reverse side.jobs)
  pub content : content t' ≡ current
  pub apart : (d : ℕ) → d ≢ c → (k : ℕ) → holder_of w.limits.stripes (stripe_of w.limits.stripes k) w.history ≡ Some d → get current k ≡ get (now w.history) k
  pub placed : KeepsPlaced w.table t'
  pub spares : StaysCovered w.table (times_kept (side_of x)) t' (times_kept side)
  pub buckets : KeepsBuckets w.table t'
  pub begins : counts'.began ≡ w.counts.began + cond (is_began e) 1 0
  pub commits : counts'.committed ≡ w.counts.committed + cond (is_commit e) 1 0
  pub long : length locks' ≡ length w.locks
  pub holders : (s : ℕ) → s < w.limits.stripes → held_by locks' s ≡ holder s

-- A step that adds no entry: only the caller's cursor and room change, and the map is unchanged.
pub record Stays (w : World) (c : ℕ) (x y : Session) (t' : TableAt) (locks' : List (Option ℕ)) (counts' : Counts) : Type 0 where
  pub cursor : Option Cursor
  pub becomes : side_of y ≡ record (side_of x) { cursor = cursor }
  pub waits : Waits x.stance.stance.phase x.pending y.log.room
  pub content : content t' ≡ content w.table
  pub placed : KeepsPlaced w.table t'
  pub sought : IsSoughtAt t' cursor (target_in x.stance.stance.phase y.log)
  pub spares : StaysCovered w.table (times_kept (side_of x)) t' (times_kept (side_of x))
  pub buckets : KeepsBuckets w.table t'
  pub same_locks : locks' ≡ w.locks
  pub same_counts : counts' ≡ w.counts

-- The world after a step of one caller.
abbrev pub world_after : World → ℕ → Session → List Entry → Counts → TableAt → List (Option ℕ) → Option Owner → World
world_after w c z h' counts' t' locks' placed' = record { limits = w.limits; history = h'; counts = counts'; table = t'; sessions = slice_set w.sessions c z; locks = locks'; placed = placed'; words = w.words }

-- The session, but with the given stance. This is the caller's stance after the added entry.
abbrev pub stance_as : Session → RoomyStance → Session
stance_as y stance = record { stance = stance; pending = y.pending; cursor = y.cursor; log = y.log }

level_at : (q : Phase) (standing : ℕ) (kept : List ℕ) → IsLevelIn q standing (0 ∷ kept) → level_of q ≤ length kept
level_at (LeavingTo level) standing kept is = let below : level < length (0 ∷ kept) = is.0 in omega arith
level_at _ standing kept is = omega arith

module _ (w : World) (tells : Tells w) (c : ℕ) (x y : Session) (at : slice_get w.sessions c ≡ Some x) (t' : TableAt) (locks' : List (Option ℕ)) (counts' : Counts) where
  within : c < length w.sessions
  within = slice_get_within w.sessions c x at

  -- If `Grows` holds for an entry, the caller's stance allows this entry, and the stance after the
  -- entry is the field `stance` of `Grows`.
  pub row_there : (e : Entry) (is : Grows w c x y t' locks' counts' e) → row x.stance.stance x.stance.stance.phase e ≡ Some is.stance
  row_there e is =
      let stance : stance_after (own (caller_of e) w.history) ≡ Some x.stance.stance = ap (λ k. stance_after (own k w.history)) is.mine ∙ (tells.its_stance c x at).stance in
      sym (stance-own w.history e ∙ ap (option_and_then (λ (s : Stance). row s s.phase e)) stance) ∙ is.next.stance_is

  -- The invariants of a core still hold after a step that adds one entry.
  module _ (e : Entry) (is : Grows w c x y t' locks' counts' e) (stance' : RoomyStance) (entered : stance'.stance ≡ is.stance) (placed' : Option Owner) where
    abbrev z : Session
    z = stance_as y stance'

    side_then : side_of z ≡ record is.side { stance = is.stance; cursor = None }
    side_then = λ i. record (is.becomes i) { stance = entered i }

    agrees_then : Agrees (record is.side { stance = is.stance; cursor = None }) y.log.room
    agrees_then = record {
      standing = sym (length-log_of (w.history ++ e ∷ []) (caller_of e) is.stance is.next.stance_is) ∙ ap length is.next.log_is ∙ changes_long is.side.jobs;
      kept = is.kept;
      waits = is.waits;
      level = level_at is.stance.phase is.stance.standing is.side.kept (subst (IsLevelIn is.stance.phase is.stance.standing) is.kept (stance_leveled (own (caller_of e) (w.history ++ e ∷ [])) is.stance is.next.stance_is).within);
    }

    stance_then : HasStance (w.history ++ e ∷ []) c (side_of z) y.log.room
    stance_then = rw side_then (record {
      stance = rw is.mine at is.next.stance_is;
      log = rw is.mine at is.next.log_is;
      due = rw is.next.now_is is.due;
      agrees = agrees_then;
    })

    pub grown : LastPlacedFits t' (slice_set w.sessions c z) placed'
        → Tells (world_after w c z (w.history ++ e ∷ []) counts' t' locks' placed')
    grown fresh = record {
      legal = is.next.legal;
      callers = All-push (λ f. caller_of f < w.limits.callers) w.history e tells.callers (let count = tells.count in let mine = is.mine in let here = within in omega arith);
      begins = is.begins ∙ ap (λ n. n + cond (is_began e) 1 0) tells.begins ∙ sym (how_many-push is_began w.history e);
      commits = is.commits ∙ ap (λ n. n + cond (is_commit e) 1 0) tells.commits ∙ sym (how_many-push is_commit w.history e);
      content = is.content ∙ sym is.next.now_is;
      count = length-set w.sessions c z ∙ tells.count;
      its_stance = λ d s at_d. elim (set_cases w.sessions c d z s within at_d) [
        | inl here ↦ rw (here.1, here.0) stance_then
        | inr other ↦
            let was = tells.its_stance d s other.1 in
            let away : d ≢ caller_of e = λ same. other.0 (same ∙ is.mine) in
            record {
              stance = is.next.other_stances d away ∙ was.stance;
              log = is.next.other_logs d away ∙ was.log;
              due = rw is.next.now_is (still_due w.limits.stripes w.history d (side_of s) s.log.room is.current tells.legal was (is.apart d other.0));
              agrees = was.agrees;
            }
      ];
      sought = λ d s at_d. elim (set_cases w.sessions c d z s within at_d) [
        | inl here ↦ rw (here.1, ap (λ (side : Side). side.cursor) is.becomes) tt
        | inr other ↦ still_sought_at w.table t' s.cursor (target_of s) is.placed.placed (tells.sought d s other.1)
      ];
      spares = traded w.table t' w.sessions c x z at (subst (λ (side : Side). StaysCovered w.table (times_kept (side_of x)) t' (times_kept side)) (sym is.becomes) is.spares) tells.spares;
      fresh = fresh;
      stripes = is.long ∙ tells.stripes;
      holders = λ s below. is.holders s below ∙ sym (is.next.holder_is s);
      largest = is.buckets.largest ∙ tells.largest;
      helpers = ap length is.buckets.helps ∙ tells.helpers;
      sound = is.placed.sound tells.sound;
    }

  -- The invariants of a core still hold after a step that adds no entry.
  pub stayed : Stays w c x y t' locks' counts' → (placed' : Option Owner) → LastPlacedFits t' (slice_set w.sessions c y) placed' → Tells (world_after w c y w.history counts' t' locks' placed')
  stayed is placed' fresh = record {
    legal = tells.legal;
    callers = tells.callers;
    begins = ap (λ (n : Counts). n.began) is.same_counts ∙ tells.begins;
    commits = ap (λ (n : Counts). n.committed) is.same_counts ∙ tells.commits;
    content = is.content ∙ tells.content;
    count = length-set w.sessions c y ∙ tells.count;
    its_stance = λ d s at_d. elim (set_cases w.sessions c d y s within at_d) [
      | inl here ↦
          let was = tells.its_stance c x at in
          subst (λ (q : Session). HasStance w.history d (side_of q) q.log.room) (sym here.1)
          (subst (λ (side : Side). HasStance w.history d side y.log.room) (sym is.becomes) (record {
            stance = ap (λ k. stance_after (own k w.history)) here.0 ∙ was.stance;
            log = ap (λ k. log_of k w.history) here.0 ∙ was.log;
            due = was.due;
            agrees = record { standing = was.agrees.standing; kept = was.agrees.kept; waits = is.waits; level = was.agrees.level };
          }))
      | inr other ↦ tells.its_stance d s other.1
    ];
    sought = λ d s at_d. elim (set_cases w.sessions c d y s within at_d) [
      | inl here ↦ subst (IsSought t') (sym here.1) (subst (λ (side : Side). IsSoughtAt t' side.cursor (target_in side.stance.phase y.log)) (sym is.becomes) is.sought)
      | inr other ↦ still_sought_at w.table t' s.cursor (target_of s) is.placed.placed (tells.sought d s other.1)
    ];
    spares = traded w.table t' w.sessions c x y at (subst (λ (side : Side). StaysCovered w.table (times_kept (side_of x)) t' (times_kept side)) (sym is.becomes) is.spares) tells.spares;
    fresh = fresh;
    stripes = ap length is.same_locks ∙ tells.stripes;
    holders = λ s below. ap (λ ls. held_by ls s) is.same_locks ∙ tells.holders s below;
    largest = is.buckets.largest ∙ tells.largest;
    helpers = ap length is.buckets.helps ∙ tells.helpers;
    sound = is.placed.sound tells.sound;
  }

-- The invariants of a core still hold if no caller's side changes and the map is unchanged.
pub table_stayed : (w : World) → Tells w → (t' : TableAt) (placed' : Option Owner) → content t' ≡ content w.table → KeepsPlaced w.table t'
    → IsCovered (all_times w.sessions) t' → largest_of t' ≡ largest_of w.table → length (helps_of t') ≡ length (helps_of w.table) → LastPlacedFits t' w.sessions placed'
    → Tells (record { limits = w.limits; history = w.history; counts = w.counts; table = t'; sessions = w.sessions; locks = w.locks; placed = placed'; words = w.words })
table_stayed w tells t' placed' same keeps spares largest helpers fresh = record {
  legal = tells.legal;
  callers = tells.callers;
  begins = tells.begins;
  commits = tells.commits;
  content = same ∙ tells.content;
  count = tells.count;
  its_stance = tells.its_stance;
  sought = λ d s at_d. still_sought_at w.table t' s.cursor (target_of s) keeps.placed (tells.sought d s at_d);
  spares = spares;
  fresh = fresh;
  stripes = tells.stripes;
  holders = tells.holders;
  largest = largest ∙ tells.largest;
  helpers = helpers ∙ tells.helpers;
  sound = keeps.sound tells.sound;
}
