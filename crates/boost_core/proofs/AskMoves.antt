-- Shows that each answer to `Ask` is a move that keeps the core's invariants, because a refusal
-- changes at most the caller's room, and the entry of any other answer is one that the rules of
-- shape and locks allow. The same is shown of a `Save` that is refused memory.
use Rattle.std.proofs.Common.{◌≡◌, ℕ, ◌+◌, ◌-◌, ◌^◌, ◌<◌, ◌==◌, ◌||◌, true, false, cond, [], ◌++◌, length, Option, Some, None, refl, sym, ap, subst, ◌∙◌, arith, slice_get, slice_set, map, nat_eq, not, eq-eqb, ne_eqb, append-nil, inl, inr, ◌⊎◌, option_map, Bool}
use Rattle.boost_core.proofs.Vocabulary.{may_change, option_eq, slice_get_within, Op, Refusal, key_of, PendingAt, Step, serial, now, Opened, Waiting, LeavingToEnd, RoomyStance, TableAt, cursor_changes, map_of, nodes_of, false≢true, cases_eq, and_from, or_right, Now, stripe_of, is_locked, holder_of, same_is, is_locked-asked, is_locked-busy, Prepares, IsRefused, entries_of, held_by, Session, Owner, Caller, Helper, holder_by, refusal_of, has_stamp_for, MayLack, times_of, times_in, IsCoveredWith, StaysCovered, World, Tells, LastPlacedFits, state_of, session_changes, gap_if, may_stand, Move, Claim, Lock, Goes, Side, side_of, KeepsPlaced, times_kept, Reach, reach, AsksIn, MeetsIn, NoMemory, StampsUsedUp, Ask, Save, log_of, last_of, or_left, StaleWord, Right, Held, Stale, is_taken, nodes_at, gap_by, helper_gaps_of, KeepsNodes}
use Rattle.boost_core.proofs.Numbers.{no_more}
use Rattle.boost_core.proofs.Moves.{changes_same, gaps_same, lacks, none_dropped, state_is}
use Rattle.boost_core.proofs.OneCaller.{Stays, world_after, stance_as, set_cases}
use Rattle.boost_core.proofs.Outcomes.{Comes, Called, CalledBy, entered, idle_cursor, nothing_waits, quiet}
use Rattle.boost_core.proofs.Spares.{spent, given_for, open_to, nodes_then, buckets_same}
use Rattle.boost_core.proofs.SideRefusals.{stance_free, three_tests}
use Rattle.boost_core.proofs.Gaps.{same_fits, same_helper}
use Rattle.txn_words.specs.declared.entry.Entry.TheVariants as entry
use Rattle.txn_words.specs.declared.answer.Answer.TheVariants as answers
use Rattle.txn_trace.proofs.Entries as laws

module _ (w : World) (tells : Tells w) (c : ℕ) (x : Session) (at : slice_get w.sessions c ≡ Some x) where
  -- The cursor that was placed last still fits if the nodes, the buckets and the caller's cursor
  -- are unchanged.
  pub fresh_kept : (y : Session) → y.cursor ≡ x.cursor → (t' : TableAt) → nodes_of t' ≡ nodes_of w.table → t'.buckets ≡ w.table.buckets
      → (stance' : RoomyStance) (o : Option Owner) → LastPlacedFits w.table w.sessions o
      → LastPlacedFits t' (slice_set w.sessions c (stance_as y stance')) o
  fresh_kept y same t' nodes buckets stance' None fresh = tt
  fresh_kept y same t' nodes buckets stance' (Some (Helper d)) fresh = same_helper w.table t' d nodes buckets ∙ fresh
  fresh_kept y same t' nodes buckets stance' (Some (Caller d)) fresh =
      λ s cursor at_d had. same_fits w.table t' cursor nodes ∙
      (elim (set_cases w.sessions c d (stance_as y stance') s (slice_get_within w.sessions c x at) at_d) [
        | inl mine ↦ fresh x cursor (ap (slice_get w.sessions) mine.0 ∙ at) (sym same ∙ ap (λ (q : Session). q.cursor) (sym mine.1) ∙ had)
        | inr other ↦ fresh s cursor other.1 had
      ])

  -- The outcome of a refused step. The step may change the room of the caller's stance, and nothing
  -- else.
  module _ (claim : Claim) (step : Step) (refusal : Refusal) (goes : Goes claim (state_of w) step (answers.Refused refusal) (state_of w)) (opened : x.stance.stance.phase ≡ Opened) (y : Session) (stays : side_of y ≡ side_of x) where
    pub lacking_stays : Stays w c x y w.table w.locks w.counts
    lacking_stays = record {
      cursor = x.cursor;
      becomes = stays;
      waits = rw (opened, nothing_waits w tells c x at Opened opened refl) tt;
      content = refl;
      placed = record { placed = λ cursor key is. is; sound = λ sound. sound };
      sought = rw (idle_cursor w tells c x at Opened opened refl) tt;
      spares = λ others covered. covered;
      buckets = buckets_same w.table;
      same_locks = refl;
      same_counts = refl;
    }

    lacking_goes : (stance' : RoomyStance) → Goes claim (state_of w) step (answers.Refused refusal) (state_of (world_after w c (stance_as y stance') w.history w.counts w.table w.locks w.placed))
    lacking_goes stance' =
        let cursors = sym (changes_same w.sessions c x (stance_as y stance') at (ap (λ (s : Side). option_map cursor_changes s.cursor) stays)) in
        let gaps = sym (gaps_same w.table w.sessions c x (stance_as y stance') at (ap (λ (s : Side). gap_if w.table s.cursor) stays)) in
        subst (Goes claim (state_of w) step (answers.Refused refusal)) (λ i. record (state_of w) { cursors = cursors i; gaps = gaps i }) goes

    pub lacking_called : entries_of step (answers.Refused refusal) ≡ [] → CalledBy claim w c x step (answers.Refused refusal) y w.table w.locks
    lacking_called no_entry = record {
      comes = subst (Comes w c x y w.table w.locks w.counts) (sym no_entry) lacking_stays;
      move = λ stance'. subst (λ g. Goes claim (state_of w) step (answers.Refused refusal) (state_of (world_after w c (stance_as y stance') g w.counts w.table w.locks w.placed))) (sym (ap (λ es. w.history ++ es) no_entry ∙ append-nil w.history)) (lacking_goes stance');
      fresh = λ stance'. fresh_kept y (ap (λ (s : Side). s.cursor) stays) w.table refl refl stance' w.placed tells.fresh;
    }

  -- If no test refuses the step `Save`, the refusal `NoMemory` is a possible outcome. It leaves the
  -- caller's side, the table and the locks unchanged.
  pub save_refused : refusal_of (state_of w) (Save c) ≡ None → (y : Session) → side_of y ≡ side_of x → Called w c x (Save c) (answers.Refused NoMemory) y w.table w.locks
  save_refused none y stays =
      lacking_called Lock (Save c) NoMemory (lacks (state_of w) (Save c) NoMemory none tt) (three_tests x.stance.stance _ _ _ _ (stance_free w tells c x at (Save c) refl none)).0 y stays refl

  module _ (op : Op) (none : refusal_of (state_of w) (Ask c op) ≡ None) where
    pub opened : x.stance.stance.phase ≡ Opened
    opened = (three_tests x.stance.stance _ _ _ _ (stance_free w tells c x at (Ask c op) refl none)).0

    pub nothing : x.pending ≡ None
    nothing = nothing_waits w tells c x at Opened opened refl

    pub no_cursor_there : x.cursor ≡ None
    no_cursor_there = idle_cursor w tells c x at Opened opened refl

    -- If no test refuses the step `Ask`, it may still be refused for lack of memory or of stamps.
    -- The refusal leaves the caller's side, the table and the locks unchanged.
    pub ask_refused : (claim : Claim) (refusal : Refusal) → (Move (state_of w) (Ask c op) (answers.Refused refusal) (state_of w) → Goes claim (state_of w) (Ask c op) (answers.Refused refusal) (state_of w)) → (y : Session)
        → (refusal ≡ NoMemory) ⊎ IsRefused w.table op refusal → side_of y ≡ side_of x → CalledBy claim w c x (Ask c op) (answers.Refused refusal) y w.table w.locks
    ask_refused claim refusal by y why stays =
        lacking_called claim (Ask c op) refusal (by (lacks (state_of w) (Ask c op) refusal none (lack why))) opened y stays refl
      where
        may_lack : (refusal : Refusal) → IsRefused w.table op refusal → MayLack (state_of w) (Ask c op) refusal
        may_lack StampsUsedUp is = λ i. not (not (is.0 i) || not (is.1 i == 2 ^ 64 - 2))
        may_lack NoMemory is = tt
        may_lack _ is = absurd is

        lack : (refusal ≡ NoMemory) ⊎ IsRefused w.table op refusal → MayLack (state_of w) (Ask c op) refusal
        lack (inl is) = rw is tt
        lack (inr is) = may_lack refusal is

    abbrev pub stripe : ℕ
    stripe = stripe_of w.limits.stripes (key_of op)

    spares_before : (t' : TableAt) (pending : PendingAt) → Prepares w.table t' op pending → (others : ℕ → ℕ → ℕ) → IsCoveredWith others (times_kept (side_of x)) w.table
        → IsCoveredWith (λ place stamp. others place stamp + times_in x.log.jobs place stamp) (times_of pending.spare) t'
    spares_before t' pending prepares others covered =
        (given_for w.table t' (may_change op) pending.spare prepares.given).covered (λ p s. others p s + times_in x.log.jobs p s)
        (λ p s. omega (arith, rw nothing at (covered p s)))

    -- The outcome of the step `Ask` if the stripe is free or the caller holds it already: the
    -- operation waits.
    module _ (new : Reach) (asks : AsksIn c stripe op (reach x w.table w.locks) new) (keeps : KeepsPlaced w.table new.table) (within : stripe < w.limits.stripes) where
      abbrev holder : ℕ → Option ℕ
      holder s = cond (stripe == s) (Some c) (holder_of w.limits.stripes s w.history)

      locked : is_locked (holder_by w.words) w.limits.stripes w.history (entry.Asked c op) ≡ true
      locked = is_locked-asked (holder_by w.words) w.limits.stripes w.history c op tells.legal.shape tells.legal.locks ∙ open_to (holder_of w.limits.stripes stripe w.history) c
          (rw (tells.holders stripe within) at asks.grants.open_to_caller)

      asked_holders : (s : ℕ) → s < w.limits.stripes → held_by new.locks s ≡ holder s
      asked_holders s below = asks.grants.each s ∙ elim (cases_eq s stripe) [
        | inl same ↦ rw (eq-eqb s stripe same, eq-eqb stripe s (sym same)) refl
        | inr other ↦ rw (ne_eqb s stripe other, ne_eqb stripe s (λ e. other (sym e))) (tells.holders s below)
      ]

      abbrev asked_side : Side
      asked_side = record (side_of x) { pending = Some asks.pending }

      asked_covered : StaysCovered w.table (times_kept (side_of x)) new.table (times_kept asked_side)
      asked_covered others covered place stamp = omega (arith, spares_before new.table asks.pending asks.prepares others covered place stamp)

      pub asked_called : Called w c x (Ask c op) answers.Asked new.session new.table new.locks
      asked_called =
          entered w c x new.session new.table new.locks (Ask c op) answers.Asked (entry.Asked c op) (map session_changes w.sessions) refl refl refl
          (none_dropped w.sessions c x at no_cursor_there) (
            none,
            and_from (has_stamp_for (state_of w) op) (may_stand (state_of w) (entry.Asked c op))
                (given_for w.table new.table (may_change op) asks.pending.spare asks.prepares.given).stamped locked,
          )
          asks.prepares.nodes.linked
          (record {
            stance = record { phase = Waiting op; standing = x.stance.stance.standing; kept = x.stance.stance.kept };
            committed = serial w.history;
            current = now w.history;
            holder = holder;
            side = asked_side;
            becomes = asks.becomes ∙ (λ i. record asked_side { cursor = no_cursor_there i });
            next = rw (tells.its_stance c x at).log at (laws.asked w.limits.stripes w.history tells.legal c op x.stance.stance (tells.its_stance c x at).stance opened locked);
            mine = refl;
            saved = λ is. absurd (false≢true is);
            kept = (tells.its_stance c x at).agrees.kept;
            waits = (asks.prepares.op_is, asks.room, (given_for w.table new.table (may_change op) asks.pending.spare asks.prepares.given).has);
            due = (tells.its_stance c x at).due;
            content = ap map_of asks.prepares.nodes.regular ∙ tells.content;
            apart = λ d other k held. refl;
            placed = keeps;
            spares = asked_covered;
            buckets = asks.prepares.nodes.buckets;
            begins = no_more w.counts.began;
            commits = no_more w.counts.committed;
            long = asks.grants.as_many;
            holders = asked_holders;
          })

    -- The outcome of the step `Ask` if another caller holds the stripe. The prepared operation is
    -- given up. If the claim is a lock, the asking caller's phase becomes `LeavingToEnd`. If it is
    -- a right, the step is refused with `StaleWord`.
    module _ (holder : ℕ) (new : Reach) (meets : MeetsIn c stripe op holder (reach x w.table w.locks) new) (keeps : KeepsPlaced w.table new.table) (within : stripe < w.limits.stripes) where
      stands : w.words ≡ false → may_stand (state_of w) (entry.Busy c op holder) ≡ true
      stands words =
          rw words (
          is_locked-busy Now w.limits.stripes w.history c op holder tells.legal.shape (rw words at tells.legal.locks)
          ∙ and_from (not (holder == c)) (option_eq nat_eq (holder_of w.limits.stripes stripe w.history) (Some holder)) (ap not (ne_eqb holder c meets.refuses.by_another))
          (same_is (holder_of w.limits.stripes stripe w.history) (Some holder) (sym (tells.holders stripe within) ∙ meets.refuses.held)))

      pub busy_stamped : has_stamp_for (state_of w) op ≡ true
      busy_stamped = (given_for w.table meets.between (may_change op) meets.pending.spare meets.prepares.given).stamped

      busy_kept : KeepsNodes w.table new.table
      busy_kept = nodes_then w.table meets.between new.table meets.prepares.nodes meets.back.nodes

      pub busy_covered : StaysCovered w.table (times_kept (side_of x)) new.table (times_kept (side_of x))
      busy_covered others covered place stamp =
          rw nothing (omega (arith, spent meets.between new.table meets.pending.spare (λ p s. others p s + times_in x.log.jobs p s) meets.back.spares (spares_before meets.between meets.pending meets.prepares others covered) place stamp))

      pub busy_called : w.words ≡ false → Called w c x (Ask c op) (answers.Busy holder) new.session new.table new.locks
      busy_called words =
          entered w c x new.session new.table new.locks (Ask c op) (answers.Busy holder) (entry.Busy c op holder)
          (map session_changes w.sessions) refl refl refl (none_dropped w.sessions c x at no_cursor_there)
          (none, and_from (w.words || has_stamp_for (state_of w) op) (may_stand (state_of w) (entry.Busy c op holder)) (or_right w.words (has_stamp_for (state_of w) op) busy_stamped) (stands words))
          busy_kept.linked
          (record {
            stance = record { phase = LeavingToEnd; standing = x.stance.stance.standing; kept = x.stance.stance.kept };
            committed = serial w.history;
            current = now w.history;
            holder = λ s. holder_of w.limits.stripes s w.history;
            side = side_of x;
            becomes = meets.becomes ∙ (λ i. record (side_of x) { cursor = no_cursor_there i });
            next = rw (tells.its_stance c x at).log at (laws.busy w.limits.stripes w.history tells.legal c op holder x.stance.stance (tells.its_stance c x at).stance opened (stands words));
            mine = refl;
            saved = λ is. absurd (false≢true is);
            kept = (tells.its_stance c x at).agrees.kept;
            waits = rw nothing tt;
            due = (tells.its_stance c x at).due;
            content = ap map_of busy_kept.regular ∙ tells.content;
            apart = λ d other k held. refl;
            placed = keeps;
            spares = busy_covered;
            buckets = busy_kept.buckets;
            begins = no_more w.counts.began;
            commits = no_more w.counts.committed;
            long = ap length meets.refuses.same;
            holders = λ s below. ap (λ ls. held_by ls s) meets.refuses.same ∙ tells.holders s below;
          })

      -- Another caller holds the operation's stripe, so a right to the stripe is stale.
      taken : is_taken (state_of w) c op ≡ true
      taken =
          let holds = rw (tells.holders stripe within) at meets.refuses.held in
          ap not (is_locked-asked (holder_by w.words) w.limits.stripes w.history c op tells.legal.shape tells.legal.locks
          ∙ ap (λ (o : Option ℕ). elim o as (λ _. Bool) [ None ↦ true | Some d ↦ d == c ]) holds ∙ ne_eqb holder c meets.refuses.by_another)

      stale_stays : Stays w c x new.session new.table new.locks w.counts
      stale_stays = record {
        cursor = x.cursor;
        becomes = meets.becomes;
        waits = rw (opened, nothing) tt;
        content = ap map_of busy_kept.regular;
        placed = keeps;
        sought = rw no_cursor_there tt;
        spares = busy_covered;
        buckets = busy_kept.buckets;
        same_locks = meets.refuses.same;
        same_counts = refl;
      }

      stale_state : (stance' : RoomyStance) → state_of (world_after w c (stance_as new.session stance') (w.history ++ []) w.counts new.table new.locks w.placed)
          ≡ record (state_of w) { stamp = last_of new.table; nodes = nodes_at new.table; gaps = map (gap_by new.table) (slice_set w.sessions c (stance_as new.session stance')); helper_gaps = helper_gaps_of new.table }
      stale_state stance' =
          state_is w (w.history ++ []) w.history w.counts new.table (map session_changes w.sessions) (slice_set w.sessions c (stance_as new.session stance')) new.locks w.placed busy_kept.buckets busy_kept.linked (append-nil w.history)
          (changes_same w.sessions c x (stance_as new.session stance') at (ap (λ (s : Side). option_map cursor_changes s.cursor) meets.becomes))
          ∙ ap (λ (noted : ℕ). record (state_of w) { changes = noted; stamp = last_of new.table; nodes = nodes_at new.table; gaps = map (gap_by new.table) (slice_set w.sessions c (stance_as new.session stance')); helper_gaps = helper_gaps_of new.table }) busy_kept.changes

      pub stale_called : CalledBy Right w c x (Ask c op) (answers.Refused StaleWord) new.session new.table new.locks
      stale_called = record {
        comes = stale_stays;
        move = λ stance'. inl (record {
          refused = refl;
          free = none;
          stale = and_from (has_stamp_for (state_of w) op) (is_taken (state_of w) c op) busy_stamped taken;
          state = stale_state stance';
        });
        fresh = λ stance'. fresh_kept new.session
            (ap (λ (s : Side). s.cursor) meets.becomes) new.table busy_kept.all busy_kept.buckets.all stance' w.placed tells.fresh;
      }

    -- Suppose that the stripe's word names a caller that may hold the stripe. Then the answer to
    -- the step `Ask` is `Busy`, and the asking caller's phase becomes `LeavingToEnd`.
    pub held_called : (named : ℕ) → w.words ≡ true → may_stand (state_of w) (entry.Busy c op named) ≡ true → CalledBy (Held named) w c x (Ask c op) (answers.Busy named) x w.table w.locks
    held_called named words stands =
        let is : Called w c x (Ask c op) (answers.Busy named) x w.table w.locks =
        entered w c x x w.table w.locks (Ask c op) (answers.Busy named) (entry.Busy c op named)
        (map session_changes w.sessions) refl refl refl (none_dropped w.sessions c x at no_cursor_there) (
          none,
          and_from (w.words || has_stamp_for (state_of w) op) (may_stand (state_of w) (entry.Busy c op named))
              (or_left w.words (has_stamp_for (state_of w) op) words) stands,
        ) refl
        (quiet w tells c x at (entry.Busy c op named) x
        (record { phase = LeavingToEnd; standing = x.stance.stance.standing; kept = x.stance.stance.kept }) x.log.kept (log_of c w.history)
        (serial w.history) (λ s. holder_of w.limits.stripes s w.history) w.locks w.counts
        (laws.busy w.limits.stripes w.history tells.legal c op named x.stance.stance (tells.its_stance c x at).stance opened stands) (tells.its_stance c x at).log
        refl (λ is. absurd (false≢true is)) (tells.its_stance c x at).agrees.kept refl nothing no_cursor_there refl
        (no_more w.counts.began) (no_more w.counts.committed) refl tells.holders) in
        record { comes = is.comes; move = λ stance'. inr (eq-eqb named named refl, is.move stance'); fresh = is.fresh }

    -- If the claim of the step `Ask` is `Stale`, the step is refused with `StaleWord` and changes
    -- nothing.
    pub word_stale_called : CalledBy Stale w c x (Ask c op) (answers.Refused StaleWord) x w.table w.locks
    word_stale_called = lacking_called Stale (Ask c op) StaleWord
        (inl (record { refused = refl; free = none; stale = refl; state = refl }))
        opened x refl refl
