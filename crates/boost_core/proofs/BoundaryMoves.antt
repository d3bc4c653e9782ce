-- Shows that beginning, ending, setting a savepoint and returning to one are moves that keep the
-- core's invariants, because each adds one entry that the law of its kind allows.
use Rattle.std.proofs.Common.{◌≡◌, ℕ, ◌+◌, true, false, cond, List, [], ◌∷◌, ◌++◌, length, take, Option, Some, None, refl, sym, ap, ◌∙◌, add-one, arith, slice_get, slice_set, slice_index, map, nat_eq, nat_lt, not, eq-eqb, leb-false, ltb-false}
use Rattle.boost_core.proofs.Vocabulary.{option_eq, false≢true, and_from, serial, now, holder_of, log_of, Phase, Closed, Opened, Waiting, LeavingTo, LeavingToEnd, Stance, closed_stance, Next, kept_at, TableAt, map_of, Releases, Session, stance_in, holder_by, refusal_of, is_closed, is_waiting, is_leaving, has_job, is_back_at, is_at_end, World, Tells, state_of, session_changes, Side, side_of, changes_of, SavesIn, ReturnsIn, EndsIn, SettlesIn, WithdrawsIn}
use Rattle.txn_trace.proofs.Settled.{settled}
use Rattle.boost_core.proofs.Numbers.{no_more}
use Rattle.boost_core.proofs.Moves.{none_dropped}
use Rattle.boost_core.proofs.Outcomes.{Called, entered, idle_cursor, nothing_waits, quiet, level_in, released_holders, no_newest}
use Rattle.boost_core.proofs.Spares.{no_jobs}
use Rattle.boost_core.proofs.SideRefusals.{stance_here, stance_free, begin_closed, three_tests, back_open, commit_open, abort_runs}
use Rattle.txn_words.specs.declared.entry.Entry.TheVariants as entry
use Rattle.txn_words.specs.declared.step.Step.TheVariants as steps
use Rattle.txn_words.specs.declared.answer.Answer.TheVariants as answers
use Rattle.txn_trace.proofs.Entries as laws

module _ (w : World) (tells : Tells w) (c : ℕ) (x : Session) (at : slice_get w.sessions c ≡ Some x) where
  -- The outcome of the step `Begin`, if nothing refuses the step.
  pub begun : refusal_of (state_of w) (steps.Begin c) ≡ None → (n : ℕ) → n ≡ w.counts.began + 1 → Called w c x (steps.Begin c) (answers.Began n) x w.table w.locks
  begun none n number =
      let closed = begin_closed w.limits.half x.stance.stance c (stance_free w tells c x at (steps.Begin c) refl none) in
      let level = level_in w tells c x at Closed closed in
      let empty : x.log.jobs ≡ [] = no_jobs x.log.jobs (let same = (tells.its_stance c x at).agrees.standing in let nil = level.0 in omega arith) in
      let numbered = number ∙ ap (λ k. k + 1) tells.begins in
      entered w c x x w.table w.locks (steps.Begin c) (answers.Began n) (entry.Began c n) (map session_changes w.sessions) refl refl refl
      (none_dropped w.sessions c x at (idle_cursor w tells c x at Closed closed refl)) (none, numbered) refl
      (quiet w tells c x at (entry.Began c n) x (record closed_stance { phase = Opened }) x.log.kept [] (serial w.history)
      (λ s. holder_of w.limits.stripes s w.history) w.locks (record { began = n; committed = w.counts.committed })
      (laws.began w.limits.stripes w.history tells.legal c n x.stance.stance (tells.its_stance c x at).stance closed numbered) (ap changes_of (sym empty))
      refl (λ is. absurd (false≢true is)) (sym level.1 ∙ (tells.its_stance c x at).agrees.kept) refl (nothing_waits w tells c x at Closed closed refl) (idle_cursor w tells c x at Closed closed refl) refl
      number (no_more w.counts.committed) refl tells.holders)

  -- The outcome of the step `Save`, if nothing refuses the step.
  pub saved : refusal_of (state_of w) (steps.Save c) ≡ None → (n : ℕ) (y : Session) → SavesIn n x y → Called w c x (steps.Save c) (answers.Saved n) y w.table w.locks
  saved none n y saves =
      let opened = (three_tests x.stance.stance _ _ _ _ (stance_free w tells c x at (steps.Save c) refl none)).0 in
      let agrees = (tells.its_stance c x at).agrees in
      entered w c x y w.table w.locks (steps.Save c) (answers.Saved n) (entry.Saved c) (map session_changes w.sessions) refl refl refl
      (none_dropped w.sessions c x at (idle_cursor w tells c x at Opened opened refl)) (
        none,
        saves.number ∙ add-one (length x.log.kept) ∙ ap length (sym agrees.kept) ∙ ap (λ (s : Stance). length s.kept)
            (sym (stance_here w tells c x at)),
      ) refl
      (quiet w tells c x at (entry.Saved c) y (record
      { phase = x.stance.stance.phase; standing = x.stance.stance.standing; kept = x.stance.stance.kept ++ x.stance.stance.standing ∷ [] })
      (x.log.kept ++ length x.log.jobs ∷ []) (log_of c w.history) (serial w.history)
      (λ s. holder_of w.limits.stripes s w.history) w.locks w.counts
      (laws.saved w.limits.stripes w.history tells.legal c x.stance.stance (tells.its_stance c x at).stance opened) (tells.its_stance c x at).log
      refl (λ is. saves.room) (λ i. agrees.kept i ++ agrees.standing i ∷ []) (ap is_waiting opened) (nothing_waits w tells c x at Opened opened refl) (idle_cursor w tells c x at Opened opened refl) saves.becomes
      (no_more w.counts.began) (no_more w.counts.committed) refl tells.holders)

  -- The outcome of the step `Back`, if nothing refuses the step.
  pub left : (n : ℕ) → refusal_of (state_of w) (steps.Back c n) ≡ None → Called w c x (steps.Back c n) answers.Leaving (record x { cursor = None }) w.table w.locks
  left n none =
      let free = back_open w.limits.half x.stance.stance c n (stance_free w tells c x at (steps.Back c n) refl none) in
      let no_cursor = idle_cursor w tells c x at Opened free.0 refl in
      entered w c x (record x { cursor = None }) w.table w.locks (steps.Back c n) answers.Leaving (entry.Leave c (Some n))
      (slice_set (map session_changes w.sessions) c None) refl refl refl refl (none, tt) refl
      (quiet w tells c x at (entry.Leave c (Some n)) (record x { cursor = None })
      (record { phase = LeavingTo n; standing = x.stance.stance.standing; kept = x.stance.stance.kept }) x.log.kept (log_of c w.history)
      (serial w.history) (λ s. holder_of w.limits.stripes s w.history) w.locks w.counts
      (laws.left_to w.limits.stripes w.history tells.legal c n x.stance.stance (tells.its_stance c x at).stance free.0 (leb-false (length x.stance.stance.kept) n free.1)) (tells.its_stance c x at).log
      refl (λ saved. absurd (false≢true saved)) (tells.its_stance c x at).agrees.kept refl (nothing_waits w tells c x at Opened free.0 refl) no_cursor (λ i. record (side_of x) { cursor = sym no_cursor i })
      (no_more w.counts.began) (no_more w.counts.committed) refl tells.holders)

  -- The outcome of the step `Commit`, if nothing refuses the step.
  pub committed : refusal_of (state_of w) (steps.Commit c) ≡ None → (p : ℕ) (y : Session) (t' : TableAt) (locks' : List (Option ℕ)) → p ≡ w.counts.committed + 1 → SettlesIn x w.table y t' → Releases c w.locks locks' → Called w c x (steps.Commit c) (answers.Committed p) y t' locks'
  committed none p y t' locks' number settles releases =
      let opened = commit_open w.limits.half x.stance.stance c (stance_free w tells c x at (steps.Commit c) refl none) in
      let nothing = nothing_waits w tells c x at Opened opened refl in
      let numbered = number ∙ ap (λ k. k + 1) tells.commits in
      entered w c x y t' locks' (steps.Commit c) (answers.Committed p) (entry.Committed c p) (map session_changes w.sessions) refl refl refl
      (none_dropped w.sessions c x at (idle_cursor w tells c x at Opened opened refl)) (none, numbered) settles.rests.nodes.linked
      (record {
        stance = closed_stance;
        committed = settled (serial w.history) (now w.history) (log_of c w.history);
        current = now w.history;
        holder = λ s. cond (option_eq nat_eq (holder_of w.limits.stripes s w.history) (Some c)) None (holder_of w.limits.stripes s w.history);
        side = record (side_of x) { pending = None; jobs = []; kept = [] };
        becomes = settles.becomes ∙ (λ i. record (side_of x) { pending = nothing i; cursor = idle_cursor w tells c x at Opened opened refl i; jobs = []; kept = [] });
        next = laws.committed w.limits.stripes w.history tells.legal c p x.stance.stance (tells.its_stance c x at).stance opened numbered;
        mine = refl;
        saved = λ is. absurd (false≢true is);
        kept = refl;
        waits = tt;
        due = tt;
        content = ap map_of settles.rests.nodes.regular ∙ tells.content;
        apart = λ d other k held. refl;
        placed = settles.rests.placed;
        spares = λ others covered. rw (ap (λ (side : Side). side.jobs) settles.becomes) at (settles.spares others (λ p s. omega (arith, rw nothing at (covered p s))));
        buckets = settles.rests.nodes.buckets;
        begins = no_more w.counts.began;
        commits = number;
        long = releases.as_many;
        holders = released_holders w tells c x at locks' releases;
      })

  -- The outcome of the step `Abort`, if nothing refuses the step.
  pub withdrawn : refusal_of (state_of w) (steps.Abort c) ≡ None → (y : Session) (t' : TableAt) → WithdrawsIn x w.table y t' → Called w c x (steps.Abort c) answers.Leaving y t' w.locks
  withdrawn none y t' leaves =
      let parts = abort_runs w.limits.half x.stance.stance c (stance_free w tells c x at (steps.Abort c) refl none) in
      entered w c x y t' w.locks (steps.Abort c) answers.Leaving (entry.Leave c None)
      (slice_set (map session_changes w.sessions) c None) refl refl refl refl (none, tt) leaves.rests.nodes.linked
      (record {
        stance = record { phase = LeavingToEnd; standing = x.stance.stance.standing; kept = x.stance.stance.kept };
        committed = serial w.history;
        current = now w.history;
        holder = λ s. holder_of w.limits.stripes s w.history;
        side = record (side_of x) { pending = None };
        becomes = ap side_of leaves.becomes;
        next = rw (tells.its_stance c x at).log at (law x.stance.stance.phase refl parts.0 parts.1);
        mine = refl;
        saved = λ is. absurd (false≢true is);
        kept = (tells.its_stance c x at).agrees.kept;
        waits = tt;
        due = (tells.its_stance c x at).due;
        content = ap map_of leaves.rests.nodes.regular ∙ tells.content;
        apart = λ d other k held. refl;
        placed = leaves.rests.placed;
        spares = λ others covered. rw leaves.becomes at (leaves.spares others covered);
        buckets = leaves.rests.nodes.buckets;
        begins = no_more w.counts.began;
        commits = no_more w.counts.committed;
        long = refl;
        holders = tells.holders;
      })
    where
      law : (q : Phase) → x.stance.stance.phase ≡ q → is_closed q ≡ false → is_leaving q ≡ false → Next (holder_by w.words) w.limits.stripes w.history (entry.Leave c None) (record { phase = LeavingToEnd; standing = x.stance.stance.standing; kept = x.stance.stance.kept }) (log_of c w.history) (serial w.history) (now w.history) (λ s. holder_of w.limits.stripes s w.history)
      law Closed is closed leaving = absurd (false≢true (sym closed))
      law Opened is closed leaving = laws.left_to_end w.limits.stripes w.history tells.legal c x.stance.stance (tells.its_stance c x at).stance is
      law (Waiting op) is closed leaving = laws.withdrawn w.limits.stripes w.history tells.legal c op x.stance.stance (tells.its_stance c x at).stance is
      law _ is closed leaving = absurd (false≢true (sym leaving))

  -- The outcome of the step `Act` when no change above the level remains.
  module _ (none : refusal_of (state_of w) (steps.Act c) ≡ None) (no_job : has_job x.stance.stance ≡ false) where
    stance_is : x.stance.stance ≡ record { phase = x.stance.stance.phase; standing = length x.log.jobs; kept = 0 ∷ x.log.kept }
    stance_is = λ i. record { phase = x.stance.stance.phase; standing = (tells.its_stance c x at).agrees.standing i; kept = (tells.its_stance c x at).agrees.kept i }

    no_job_here : not (has_job (stance_in w.history c)) ≡ true
    no_job_here = ap (λ s. not (has_job s)) (stance_here w tells c x at) ∙ ap not no_job

    none_above : (q : Phase) → x.stance.stance.phase ≡ q → has_job (record { phase = q; standing = length x.log.jobs; kept = 0 ∷ x.log.kept }) ≡ false
    none_above q is = ap (λ p. has_job (record { phase = p; standing = length x.log.jobs; kept = 0 ∷ x.log.kept })) (sym is) ∙ ap has_job (sym stance_is) ∙ no_job

    -- The outcome of the step `Act` that ends the return to level `n`.
    pub returned : (n : ℕ) (y : Session) → ReturnsIn n x y → Called w c x (steps.Act c) (answers.Returned n) y w.table w.locks
    returned n y returns =
        let level = level_in w tells c x at (LeavingTo n) returns.phase in
        let more : nat_lt (kept_at x.log.kept n) (length x.log.jobs) ≡ false = none_above (LeavingTo n) returns.phase in
        let agrees = (tells.its_stance c x at).agrees in
        let reached : slice_index x.stance.stance.kept n ≡ x.stance.stance.standing =
        ap (λ ks. slice_index ks n) agrees.kept ∙ omega (arith, rw (agrees.kept, agrees.standing) at level.1, ltb-false (kept_at x.log.kept n) (length x.log.jobs) more) ∙ sym agrees.standing in
        entered w c x y w.table w.locks (steps.Act c) (answers.Returned n) (entry.Returned c n)
        (map session_changes w.sessions) refl refl refl
        (none_dropped w.sessions c x at (idle_cursor w tells c x at (LeavingTo n) returns.phase (no_newest x.log n more)))
        (none, and_from (not (has_job (stance_in w.history c))) (is_back_at n (stance_in w.history c).phase) no_job_here (ap (λ (s : Stance). is_back_at n s.phase) (stance_here w tells c x at) ∙ ap (is_back_at n) returns.phase ∙ eq-eqb n n refl))
        refl
        (quiet w tells c x at (entry.Returned c n) y
        (record { phase = Opened; standing = x.stance.stance.standing; kept = take (n + 1) x.stance.stance.kept }) (take n x.log.kept)
        (log_of c w.history) (serial w.history) (λ s. holder_of w.limits.stripes s w.history) w.locks w.counts
        (laws.returned w.limits.stripes w.history tells.legal c n x.stance.stance (tells.its_stance c x at).stance returns.phase reached) (tells.its_stance c x at).log
        refl (λ is. absurd (false≢true is)) (ap (λ ks. take (n + 1) ks) agrees.kept ∙ ap (λ k. take k (0 ∷ x.log.kept)) (add-one n)) refl (nothing_waits w tells c x at (LeavingTo n) returns.phase refl)
        (idle_cursor w tells c x at (LeavingTo n) returns.phase (no_newest x.log n more)) returns.becomes (no_more w.counts.began) (no_more w.counts.committed) refl tells.holders)

    -- The outcome of the step `Act` that ends the abort of the caller's transaction.
    pub ended : (y : Session) (locks' : List (Option ℕ)) → EndsIn c x w.locks y locks' → Called w c x (steps.Act c) answers.Aborted y w.table locks'
    ended y locks' ends =
        let more : nat_lt 0 (length x.log.jobs) ≡ false = none_above LeavingToEnd ends.phase in
        let agrees = (tells.its_stance c x at).agrees in
        let empty : x.log.jobs ≡ [] = no_jobs x.log.jobs (ltb-false 0 (length x.log.jobs) more) in
        let nil : x.stance.stance.standing ≡ 0 = agrees.standing ∙ ap length empty in
        entered w c x y w.table locks' (steps.Act c) answers.Aborted (entry.Aborted c) (map session_changes w.sessions) refl refl refl
        (none_dropped w.sessions c x at (idle_cursor w tells c x at LeavingToEnd ends.phase (no_newest x.log 0 more)))
        (none, and_from (not (has_job (stance_in w.history c))) (is_at_end (stance_in w.history c).phase) no_job_here (ap (λ (s : Stance). is_at_end s.phase) (stance_here w tells c x at) ∙ ap is_at_end ends.phase))
        refl
        (quiet w tells c x at (entry.Aborted c) y closed_stance [] [] (serial w.history)
        (λ s. cond (option_eq nat_eq (holder_of w.limits.stripes s w.history) (Some c)) None (holder_of w.limits.stripes s w.history))
        locks' w.counts
        (laws.aborted w.limits.stripes w.history tells.legal c x.stance.stance (tells.its_stance c x at).stance ends.phase nil) (ap changes_of (sym empty))
        refl (λ is. absurd (false≢true is)) refl refl (nothing_waits w tells c x at LeavingToEnd ends.phase refl)
        (idle_cursor w tells c x at LeavingToEnd ends.phase (no_newest x.log 0 more)) ends.becomes (no_more w.counts.began) (no_more w.counts.committed) ends.releases.as_many (released_holders w tells c x at locks' ends.releases))
