-- Shows that `Seek` and `Act` are moves that keep the core's invariants, because the table does to
-- its content what the entry does to the map `now`.
use Rattle.std.proofs.Common.{◌≡◌, ℕ, ◌+◌, ◌-◌, ◌<◌, true, cond, List, [], ◌∷◌, ◌++◌, length, Option, Some, None, is_some, refl, sym, ap, subst, ◌∙◌, arith, slice_get, slice_set, map, reverse, slice_index, nat_lt, option_to_list, ne_eqb, ltb-true, ◌^◌, false, inl, inr, option_map}
use Rattle.boost_core.proofs.Vocabulary.{may_change, false≢true, reverse-append, stripe_of, holder_of, TableAt, content, table_changes, serial, now, log_of, Phase, Opened, Waiting, LeavingTo, LeavingToEnd, Next, kept_at, MapJob, key_of, reply_of, after, set_at, Map, runs, is_running, changes, Stance, get-after_other, get-set_at, waiting_held, log_held, held_apart, key_of_job, value_before, spare_of_job, PendingAt, Session, stance_in, holder_by, refusal_of, has_job, times_of, times_in, StaysCovered, World, Tells, state_of, session_changes, IsReply, side_of, level_of, KeepsPlaced, Waits, spare_if, times_kept, change_of, changes_of, AreDue, DoesIn, TakesBackIn, Act, cases_eq, and_from, slice_get_within, Cursor, cursor_changes, map_of, IsPlaced, Owner, Caller, Helper, has_target, LastPlacedFits, is_just_placed, may_be_stale, target_in, target_of, IsSoughtAt, SeeksIn, Drops, Seek}
use Rattle.boost_core.proofs.Numbers.{no_more}
use Rattle.boost_core.proofs.Moves.{state_is, changes_set, stale_since}
use Rattle.boost_core.proofs.Outcomes.{Called, entered}
use Rattle.boost_core.proofs.Spares.{times_pushed, spent, done_covered, still_covered, buckets_same}
use Rattle.boost_core.proofs.Due.{NotedIf, noted, changes_noted, due_noted}
use Rattle.boost_core.proofs.Sides.{IsGoing, going, waiting_op, changes_last}
use Rattle.boost_core.proofs.SideRefusals.{stance_here, changes_here}
use Rattle.boost_core.proofs.OneCaller.{stance_as, set_cases}
use Rattle.txn_words.specs.declared.entry.Entry.TheVariants as entry
use Rattle.txn_words.specs.declared.answer.Answer.TheVariants as answers
use Rattle.txn_trace.proofs.Entries as laws

going_waits : (q : Phase) (o : Option PendingAt) (room room' : ℕ) → IsGoing q → Waits q o room → Waits q o room'
going_waits (LeavingTo n) None room room' goes waits = tt
going_waits (LeavingTo n) (Some pending) room room' goes waits = absurd waits
going_waits LeavingToEnd None room room' goes waits = tt
going_waits LeavingToEnd (Some pending) room room' goes waits = absurd waits
going_waits _ o room room' goes waits = absurd goes

going_runs : (q : Phase) → IsGoing q → runs q ≡ true
going_runs (LeavingTo n) is = refl
going_runs LeavingToEnd is = refl
going_runs _ is = absurd is

waiting_spare : (q : Phase) (pending : PendingAt) (room : ℕ) → Waits q (Some pending) room → is_some pending.spare ≡ may_change pending.op
waiting_spare (Waiting op) pending room is = is.2 ∙ ap may_change (sym is.0)
waiting_spare _ pending room is = absurd is

module _ (w : World) (tells : Tells w) (c : ℕ) (x : Session) (at : slice_get w.sessions c ≡ Some x) where
  here : stance_in w.history c ≡ x.stance.stance
  here = stance_here w tells c x at

  -- The outcome of the step `Act` that does the waiting operation.
  module _ (none : refusal_of (state_of w) (Act c) ≡ None) (reply : Option ℕ) (y : Session) (t' : TableAt) (does : DoesIn x w.table reply y t') (keeps : KeepsPlaced w.table t') where
    waits_was : Waits x.stance.stance.phase (Some does.pending) x.log.room
    waits_was = rw does.had at (tells.its_stance c x at).agrees.waits

    phase_was : x.stance.stance.phase ≡ Waiting does.pending.op
    phase_was = waiting_op x.stance.stance.phase does.pending x.log.room waits_was

    reply_is : reply ≡ reply_of (now w.history) does.pending.op
    reply_is = rw tells.content at does.does.reply_is

    noted_here : NotedIf (now w.history) does.pending.op does.pending.spare does.job
    noted_here = rw (does.does.job_is, tells.content) (noted (now w.history) does.pending.op does.pending.spare (waiting_spare x.stance.stance.phase does.pending x.log.room waits_was))

    abbrev did_stance : Stance
    did_stance = record { phase = Opened; standing = cond (changes does.pending.op reply) (x.stance.stance.standing + 1) x.stance.stance.standing; kept = x.stance.stance.kept }

    did_law : Next (holder_by w.words) w.limits.stripes w.history (entry.Did c reply) did_stance (cond (changes does.pending.op reply) ((key_of does.pending.op, reply) ∷ log_of c w.history) (log_of c w.history)) (serial w.history) (after (now w.history) does.pending.op) (λ s. holder_of w.limits.stripes s w.history)
    did_law = laws.did w.limits.stripes w.history tells.legal c does.pending.op reply x.stance.stance (tells.its_stance c x at).stance phase_was reply_is

    did_log : cond (changes does.pending.op reply) ((key_of does.pending.op, reply) ∷ log_of c w.history) (log_of c w.history) ≡ changes_of (x.log.jobs ++ option_to_list does.job)
    did_log =
        rw ((tells.its_stance c x at).log, reply_is) (changes_noted (now w.history) does.pending.op does.pending.spare x.log.jobs does.job noted_here)

    pub did_called : Called w c x (Act c) (answers.Done reply) y t' w.locks
    did_called =
        entered w c x y t' w.locks (Act c) (answers.Done reply) (entry.Did c reply)
        (slice_set (map session_changes w.sessions) c None) refl refl refl refl
        (none, subst (λ (q : Phase). IsReply q (now w.history) reply) (sym (ap (λ (s : Stance). s.phase) here ∙ phase_was)) reply_is)
        does.does.linked
        (record {
          stance = did_stance;
          committed = serial w.history;
          current = after (now w.history) does.pending.op;
          holder = λ s. holder_of w.limits.stripes s w.history;
          side = record (side_of x) { pending = None; jobs = x.log.jobs ++ option_to_list does.job };
          becomes = does.becomes;
          next = rw did_log at did_law;
          mine = refl;
          saved = λ is. absurd (false≢true is);
          kept = (tells.its_stance c x at).agrees.kept;
          waits = tt;
          due = due_noted (now w.history) does.pending.op does.pending.spare x.log.jobs does.job noted_here (tells.its_stance c x at).due;
          content = rw tells.content at does.does.content_is;
          apart = λ d other k held. get-after_other (now w.history) does.pending.op k
              (held_apart w.limits.stripes w.history d c k (key_of does.pending.op) held (waiting_held w.limits.stripes w.history tells.legal c does.pending.op x.stance.stance (tells.its_stance c x at).stance phase_was) other);
          placed = keeps;
          spares = λ others covered. done_covered w.table t' does.pending.spare does.job x.log.jobs (content w.table) does.pending.op does.does.job_is does.does.spares others
              (rw does.had at covered);
          buckets = does.does.buckets;
          begins = no_more w.counts.began;
          commits = no_more w.counts.committed;
          long = refl;
          holders = tells.holders;
        })

  -- The outcome of the step `Act` that takes the newest change back.
  module _ (none : refusal_of (state_of w) (Act c) ≡ None) (has : has_job x.stance.stance ≡ true) (y : Session) (t' : TableAt) (back : TakesBackIn x w.table y t') (keeps : KeepsPlaced w.table t') where
    goes : IsGoing x.stance.stance.phase × (nat_lt (kept_at x.log.kept (level_of x.stance.stance.phase)) (length x.log.jobs) ≡ true)
    goes = going x.stance.stance.phase (length x.log.jobs) x.log.kept (ap has_job (λ i. record { phase = x.stance.stance.phase; standing = sym (tells.its_stance c x at).agrees.standing i; kept = sym (tells.its_stance c x at).agrees.kept i }) ∙ has)

    log_is : log_of c w.history ≡ change_of back.job ∷ changes_of y.log.jobs
    log_is = (tells.its_stance c x at).log ∙ changes_last x.log.jobs y.log.jobs back.job back.jobs

    abbrev undone_map : Map
    undone_map = set_at (now w.history) (key_of_job back.job) (value_before back.job)

    abbrev undone_stance : Stance
    undone_stance = record { phase = x.stance.stance.phase; standing = x.stance.stance.standing - 1; kept = x.stance.stance.kept }

    some_standing : 0 < x.stance.stance.standing
    some_standing = omega (arith, (tells.its_stance c x at).agrees.standing, ltb-true (kept_at x.log.kept (level_of x.stance.stance.phase)) (length x.log.jobs) goes.1)

    undone_law : (q : Phase) → x.stance.stance.phase ≡ q → IsGoing q × (nat_lt (kept_at x.log.kept (level_of q)) (length x.log.jobs) ≡ true)
        → Next (holder_by w.words) w.limits.stripes w.history (entry.Undone c) undone_stance (changes_of y.log.jobs) (serial w.history) undone_map (λ s. holder_of w.limits.stripes s w.history)
    undone_law (LeavingTo n) is so =
        let agrees = (tells.its_stance c x at).agrees in
        laws.undone_to w.limits.stripes w.history tells.legal c n x.stance.stance (tells.its_stance c x at).stance is
        (subst (λ ks. slice_index ks n < x.stance.stance.standing) (sym agrees.kept) (subst (λ k. kept_at x.log.kept n < k) (sym agrees.standing) (ltb-true (kept_at x.log.kept n) (length x.log.jobs) so.1))) (change_of back.job) (changes_of y.log.jobs) log_is
    undone_law LeavingToEnd is so = laws.undone_to_end w.limits.stripes w.history tells.legal c x.stance.stance (tells.its_stance c x at).stance is some_standing (change_of back.job) (changes_of y.log.jobs) log_is
    undone_law _ is so = absurd so.0

    key_held : holder_of w.limits.stripes (stripe_of w.limits.stripes (key_of_job back.job)) w.history ≡ Some c
    key_held = (rw log_is at
        (log_held w.limits.stripes w.history tells.legal c (ap is_running (tells.its_stance c x at).stance ∙ going_runs x.stance.stance.phase goes.0))).0

    undone_covered : StaysCovered w.table (times_kept (side_of x)) t' (times_kept (record (side_of x) { jobs = y.log.jobs }))
    undone_covered others covered place stamp =
        omega (
          arith,
          spent w.table t' (spare_of_job back.job) (λ p s. others p s + times_of (spare_if x.pending) p s + times_in y.log.jobs p s) back.back.spares
              (λ p s. omega (arith, times_pushed x.log.jobs y.log.jobs back.job p s back.jobs, covered p s)) place stamp,
        )

    pub undone_called : Called w c x (Act c) answers.Undone y t' w.locks
    undone_called =
        entered w c x y t' w.locks (Act c) answers.Undone (entry.Undone c)
        (slice_set (map session_changes w.sessions) c None) refl refl refl refl (none, ap has_job here ∙ has) back.back.linked
        (record {
          stance = undone_stance;
          committed = serial w.history;
          current = undone_map;
          holder = λ s. holder_of w.limits.stripes s w.history;
          side = record (side_of x) { jobs = y.log.jobs };
          becomes = back.becomes;
          next = undone_law x.stance.stance.phase refl goes;
          mine = refl;
          saved = λ is. absurd (false≢true is);
          kept = (tells.its_stance c x at).agrees.kept;
          waits = going_waits x.stance.stance.phase x.pending x.log.room y.log.room goes.0 (tells.its_stance c x at).agrees.waits;
          due = (subst (λ (js : List MapJob). AreDue (now w.history) js) (ap reverse back.jobs ∙ reverse-append y.log.jobs (back.job ∷ [])) (tells.its_stance c x at).due).1;
          content = rw tells.content at back.back.content_is;
          apart = λ d other k held.
              rw (get-set_at (now w.history) (key_of_job back.job) (value_before back.job) k, ne_eqb k (key_of_job back.job) (held_apart w.limits.stripes w.history d c k (key_of_job back.job) held key_held other)) refl;
          placed = keeps;
          spares = undone_covered;
          buckets = back.back.buckets;
          begins = no_more w.counts.began;
          commits = no_more w.counts.committed;
          long = refl;
          holders = tells.holders;
        })

  -- The outcome of the step `Seek`: the caller has sought the key that it acts on next.
  pub sought_called : refusal_of (state_of w) (Seek c) ≡ None → (y : Session) (t' : TableAt) → SeeksIn x w.table y t' → KeepsPlaced w.table t' → Called w c x (Seek c) answers.Placed y t' w.locks
  sought_called none y t' seeks keeps =
      record {
        comes = record {
          cursor = Some seeks.cursor;
          becomes = ap side_of seeks.becomes;
          waits = subst (λ (s : Session). Waits x.stance.stance.phase x.pending s.log.room) (sym seeks.becomes) (tells.its_stance c x at).agrees.waits;
          content = ap map_of seeks.places.keeps.regular;
          placed = keeps;
          sought = subst (λ (s : Session). IsSoughtAt t' (Some seeks.cursor) (target_in x.stance.stance.phase s.log)) (sym seeks.becomes) (subst (IsSoughtAt t' (Some seeks.cursor)) (sym seeks.target) seeks.places.placed);
          spares = λ others covered. still_covered w.table t' (λ p q. others p q + times_kept (side_of x) p q) seeks.places.spares covered;
          buckets = seeks.places.keeps.buckets;
          same_locks = refl;
          same_counts = refl;
        };
        move = λ stance'. record {
          allowed = (none, tt);
          state = state_is w (w.history ++ []) (w.history ++ []) w.counts t' (slice_set (map session_changes w.sessions) c (Some (table_changes t'))) (slice_set w.sessions c (stance_as y stance')) w.locks (Some (Caller c)) seeks.places.keeps.buckets seeks.places.keeps.linked refl
              (changes_set w.sessions c (stance_as y stance') (Some (table_changes t')) (ap session_changes seeks.becomes ∙ ap Some seeks.places.changes));
        };
        fresh = λ stance' s cursor at_c had. elim (set_cases w.sessions c c (stance_as y stance') s (slice_get_within w.sessions c x at) at_c) [
          | inl mine ↦
              let both : Some seeks.cursor ≡ Some cursor = sym (ap (λ (q : Session). q.cursor) mine.1 ∙ ap (λ (q : Session). q.cursor) seeks.becomes) ∙ had in
              let same : seeks.cursor ≡ cursor = cc both in rw same at seeks.places.fits
          | inr other ↦ absurd (other.0 refl)
        ];
      }

  -- The outcome of the step `Act` if the caller's cursor no longer fits: the cursor is dropped.
  module _ (none : refusal_of (state_of w) (Act c) ≡ None) (target : has_target x.stance.stance ≡ true) (y : Session) (drops : Drops x w.table y) where
    not_fresh : is_just_placed (Caller c) w.placed ≡ false
    not_fresh = at_placed w.placed tells.fresh
      where
        at_placed : (o : Option Owner) → LastPlacedFits w.table w.sessions o → is_just_placed (Caller c) o ≡ false
        at_placed None fresh = refl
        at_placed (Some (Helper d)) fresh = refl
        at_placed (Some (Caller d)) fresh = elim (cases_eq c d) [
          | inl same ↦ absurd (false≢true (sym drops.stale ∙ fresh x drops.cursor (ap (slice_get w.sessions) (sym same) ∙ at) drops.had))
          | inr other ↦ ne_eqb c d other
        ]

    has_key : (target : Option ℕ) → IsSoughtAt w.table (Some drops.cursor) target → (key : ℕ) × IsPlaced w.table drops.cursor key
    has_key None is = absurd is
    has_key (Some key) is = (key, is)

    stale : may_be_stale (state_of w) (Caller c) ≡ true
    stale =
        let placed_for = has_key (target_of x) (subst (λ (o : Option Cursor). IsSoughtAt w.table o (target_of x)) drops.had (tells.sought c x at)) in
        stale_since (state_of w) (Caller c) (cursor_changes drops.cursor)
        (changes_here w tells c x at ∙ ap (option_map cursor_changes) drops.had) not_fresh
        (λ same below. false≢true (sym drops.stale ∙ placed_for.1.held (sym same) (subst (λ n. n < 2 ^ 64 - 1) same below)))

    pub again_called : Called w c x (Act c) answers.Again y w.table w.locks
    again_called = record {
      comes = record {
        cursor = None;
        becomes = ap side_of drops.becomes;
        waits = subst (λ (s : Session). Waits x.stance.stance.phase x.pending s.log.room) (sym drops.becomes) (tells.its_stance c x at).agrees.waits;
        content = refl;
        placed = record { placed = λ cursor key is. is; sound = λ sound. sound };
        sought = tt;
        spares = λ others covered. covered;
        buckets = buckets_same w.table;
        same_locks = refl;
        same_counts = refl;
      };
      move = λ stance'. record {
        allowed = (none, and_from (has_target (stance_in w.history c)) (may_be_stale (state_of w) (Caller c)) (ap has_target here ∙ target) stale);
        state = state_is w (w.history ++ []) (w.history ++ []) w.counts w.table (slice_set (map session_changes w.sessions) c None) (slice_set w.sessions c (stance_as y stance')) w.locks None (buckets_same w.table) refl refl
            (changes_set w.sessions c (stance_as y stance') None (ap session_changes drops.becomes));
      };
      fresh = λ stance'. tt;
    }
