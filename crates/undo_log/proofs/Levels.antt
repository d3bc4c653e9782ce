-- Shows that running the jobs above a level, newest first, restores the level's words, because each
-- job leads from the words after its change to the words before it.
use Rattle.std.proofs.Common.{◌≡◌, ℕ, zero, suc, ◌+◌, ◌<◌, ◌≤◌, List, [], ◌∷◌, ◌++◌, map, take, length, get_or, slice_get, Some, Result, Ok, Err, OnOk, OnErr, refl, ap, sym, subst, ◌∙◌, arith, add-one}
use Rattle.std.specs.Option.{option_map}
use Rattle.std.proofs.lemmas.List.{map-append, take-map, length_push}
use Rattle.std.proofs.lemmas.Option.{slice_get-map, slice_get-get_or}
use Rattle.undo_log.specs.UndoLog.{LogAt, kept_at}
use Rattle.undo_log.specs.SideValue.{words_at, levels_of, AreConnected, IsRising, IsUndoable}

-- If `IsRising` holds for an upper bound, it holds for every higher upper bound.
IsRising-more : (low : ℕ) (ks : List ℕ) (high higher : ℕ) → high ≤ higher → IsRising low ks high → IsRising low ks higher
IsRising-more low [] high higher more rising = omega (arith, more, rising)
IsRising-more low (k ∷ ks) high higher more rising = (rising.0, IsRising-more k ks high higher more rising.1)

-- If the upper bound is appended to the numbers, `IsRising` still holds.
IsRising-push : (low : ℕ) (ks : List ℕ) (high : ℕ) → IsRising low ks high → IsRising low (ks ++ high ∷ []) high
IsRising-push low [] high rising = (rising, omega arith)
IsRising-push low (k ∷ ks) high rising = (rising.0, IsRising-push k ks high rising.1)

-- Each of the numbers is an upper bound of the numbers before it.
IsRising-take : (low : ℕ) (ks : List ℕ) (high n : ℕ) → n ≤ length ks → IsRising low ks high → IsRising low (take n ks) (get_or (low ∷ ks) n 0)
IsRising-take low ks high zero there rising = omega arith
IsRising-take low [] high (suc n) there rising = absurd (omega (arith, there))
IsRising-take low (k ∷ ks) high (suc n) there rising = (rising.0, IsRising-take k ks high n (omega (arith, there)) rising.1)

-- If `IsRising` holds, no number is above the upper bound.
rising_within : (low : ℕ) (ks : List ℕ) (high n : ℕ) → n ≤ length ks → IsRising low ks high → get_or (low ∷ ks) n 0 ≤ high
rising_within low [] high zero there rising = rising
rising_within low [] high (suc n) there rising = absurd (omega (arith, there))
rising_within low (k ∷ ks) high zero there rising = omega (arith, rising.0, rising_within k ks high 0 (omega arith) rising.1)
rising_within low (k ∷ ks) high (suc n) there rising = rising_within k ks high n (omega (arith, there)) rising.1

-- If two functions agree up to the bound `high`, they map the numbers to the same list.
map_rising : {A : Type 0} (f g : ℕ → A) (low : ℕ) (ks : List ℕ) (high : ℕ) → IsRising low ks high → ((n : ℕ) → n ≤ high → f n ≡ g n) → map f (low ∷ ks) ≡ map g (low ∷ ks)
map_rising f g low [] high rising same = ap (λ y. y ∷ []) (same low rising)
map_rising f g low (k ∷ ks) high rising same =
    let here : f low ≡ g low = same low (rising_within low (k ∷ ks) high 0 (omega arith) rising) in
    let rest : map f (k ∷ ks) ≡ map g (k ∷ ks) = map_rising f g k ks high rising.1 same in cc

module _ {J : Type 0} (before after : J → List ℕ) where
  -- If no job is removed, `words_at` gives the current words.
  words_at_end : (now : List ℕ) (jobs : List J) (k : ℕ) → length jobs ≤ k → words_at before now jobs k ≡ now
  words_at_end now [] k past = refl
  words_at_end now (job ∷ jobs) zero past = absurd (omega (arith, past))
  words_at_end now (job ∷ jobs) (suc k) past = words_at_end now jobs k (omega (arith, past))

  words_at-push : (now : List ℕ) (jobs : List J) (job : J) (k : ℕ) → k ≤ length jobs → words_at before now (jobs ++ job ∷ []) k ≡ words_at before (before job) jobs k
  words_at-push now [] job zero within = refl
  words_at-push now [] job (suc k) within = absurd (omega (arith, within))
  words_at-push now (first ∷ jobs) job zero within = refl
  words_at-push now (first ∷ jobs) job (suc k) within = words_at-push now jobs job k (omega (arith, within))

  -- If the words before a job are the current words, the jobs are still connected after this job is
  -- appended.
  IsChain-push : (jobs : List J) (job : J) → AreConnected before after (before job) jobs
      → AreConnected before after (after job) (jobs ++ job ∷ [])
  IsChain-push [] job chain = (refl, tt)
  IsChain-push (first ∷ jobs) job chain =
      (chain.0 ∙ sym (words_at-push (after job) jobs job 0 (omega arith)), IsChain-push jobs job chain.1)

  -- The words after the newest job are the current words.
  newest_fits : (now : List ℕ) (jobs : List J) (job : J) → AreConnected before after now (jobs ++ job ∷ []) → now ≡ after job
  newest_fits now [] job chain = sym chain.0
  newest_fits now (first ∷ jobs) job chain = newest_fits now jobs job chain.1

  -- If the newest job is removed, the jobs are still connected, and the words before that job
  -- become the current words.
  IsChain_pop : (now : List ℕ) (jobs : List J) (job : J) → AreConnected before after now (jobs ++ job ∷ []) → AreConnected before after (before job) jobs
  IsChain_pop now [] job chain = tt
  IsChain_pop now (first ∷ jobs) job chain =
      (chain.0 ∙ words_at-push now jobs job 0 (omega arith), IsChain_pop now jobs job chain.1)

  -- If a log is undoable and a change leads from the words `was` to the words `now`, the log is
  -- still undoable after the job of this change is pushed.
  pub IsUndoable-push : (was now : List ℕ) (log pushed : LogAt J) (job : J) → was ≡ before job → now ≡ after job → pushed.jobs ≡ log.jobs ++ job ∷ [] → pushed.kept ≡ log.kept → IsUndoable before after was log → IsUndoable before after now pushed
  IsUndoable-push was now log pushed job fits gives jobs kept undoable =
      let chain : AreConnected before after (before job) log.jobs = subst (λ w. AreConnected before after w log.jobs) fits undoable.chain in
      let pushed_chain : AreConnected before after now (log.jobs ++ job ∷ []) = subst (λ w. AreConnected before after w (log.jobs ++ job ∷ [])) (sym gives) (IsChain-push log.jobs job chain) in
      let more : length log.jobs ≤ length pushed.jobs = omega (arith, ap length jobs, length_push log.jobs job) in
      record {
        chain = subst (AreConnected before after now) (sym jobs) pushed_chain;
        nested = subst (λ ks. IsRising 0 ks (length pushed.jobs)) (sym kept) (IsRising-more 0 log.kept (length log.jobs) (length pushed.jobs) more undoable.nested);
      }

  -- A change leaves the words of each level unchanged.
  pub levels_of-push : (was now : List ℕ) (log pushed : LogAt J) (job : J) → was ≡ before job → pushed.jobs ≡ log.jobs ++ job ∷ [] → pushed.kept ≡ log.kept → IsRising 0 log.kept (length log.jobs) → levels_of before now pushed ≡ levels_of before was log
  levels_of-push was now log pushed job fits jobs kept nested =
      let same : (k : ℕ) → k ≤ length log.jobs → words_at before now pushed.jobs k ≡ words_at before was log.jobs k =
      λ k within. ap (λ js. words_at before now js k) jobs ∙ words_at-push now log.jobs job k within ∙ ap (λ w. words_at before w log.jobs k) (sym fits) in
      ap (λ ks. map (words_at before now pushed.jobs) (0 ∷ ks)) kept ∙ map_rising (words_at before now pushed.jobs) (words_at before was log.jobs) 0 log.kept (length log.jobs) nested same

  -- If a log is undoable, it is still undoable after a savepoint is added that keeps all jobs.
  IsUndoable-save : (now : List ℕ) (log saved : LogAt J) → saved.jobs ≡ log.jobs → saved.kept ≡ log.kept ++ length log.jobs ∷ [] → IsUndoable before after now log → IsUndoable before after now saved
  IsUndoable-save now log saved jobs kept undoable = record {
    chain = subst (AreConnected before after now) (sym jobs) undoable.chain;
    nested = subst (λ ks. IsRising 0 ks (length saved.jobs)) (sym kept) (subst (λ js. IsRising 0 (log.kept ++ length log.jobs ∷ []) (length js)) (sym jobs) (IsRising-push 0 log.kept (length log.jobs) undoable.nested));
  }

  -- If a savepoint is added that keeps all jobs, its level has the current words.
  pub levels_of-save : (now : List ℕ) (log saved : LogAt J) → saved.jobs ≡ log.jobs → saved.kept ≡ log.kept ++ length log.jobs ∷ [] → levels_of before now saved ≡ levels_of before now log ++ now ∷ []
  levels_of-save now log saved jobs kept =
      ap (λ js. map (words_at before now js) (0 ∷ saved.kept)) jobs
      ∙ ap (λ ks. map (words_at before now log.jobs) (0 ∷ ks)) kept
      ∙ map-append (words_at before now log.jobs) (0 ∷ log.kept) (length log.jobs ∷ [])
      ∙ ap (λ w. levels_of before now log ++ w ∷ []) (words_at_end now log.jobs (length log.jobs) (omega arith))

  -- The log is still undoable after a call that makes a savepoint, whether or not memory was
  -- refused.
  pub IsUndoable-saved : {T E : Type 0} (now : List ℕ) (log saved : LogAt J) (r : Result T E) → saved.jobs ≡ log.jobs → OnOk r (saved.kept ≡ log.kept ++ length log.jobs ∷ []) → OnErr r (saved ≡ log) → IsUndoable before after now log → IsUndoable before after now saved
  IsUndoable-saved now log saved (Ok x) jobs kept err undoable = IsUndoable-save now log saved jobs kept undoable
  IsUndoable-saved now log saved (Err e) jobs kept err undoable = subst (IsUndoable before after now) (sym err) undoable

  -- Some of the newest jobs have been run, but none that the level keeps. Running them led from the
  -- words `start` to the words `now`.
  pub record IsOnTheWay (start now : List ℕ) (old new : LogAt J) (level : ℕ) : Type 0 where
    pub kept : new.kept ≡ old.kept
    pub chain : AreConnected before after now new.jobs
    pub enough : kept_at old.kept level ≤ length new.jobs
    pub words : (k : ℕ) → k ≤ length new.jobs → words_at before now new.jobs k ≡ words_at before start old.jobs k

  -- `IsOnTheWay` holds at the start, when no job has been run.
  pub on_the_way_start : (start : List ℕ) (log : LogAt J) (level : ℕ) → level ≤ length log.kept → IsUndoable before after start log → IsOnTheWay start start log log level
  on_the_way_start start log level there undoable = record {
    kept = refl;
    chain = undoable.chain;
    enough = rising_within 0 log.kept (length log.jobs) level there undoable.nested;
    words = λ k within. refl;
  }

  -- After one more job is run, `IsOnTheWay` holds for the words before that job.
  pub on_the_way_step : (start now next : List ℕ) (old log popped : LogAt J) (job : J) (level : ℕ) → IsOnTheWay start now old log level → kept_at log.kept level < length log.jobs → log.jobs ≡ popped.jobs ++ job ∷ [] → popped.kept ≡ log.kept → next ≡ before job → IsOnTheWay start next old popped level
  on_the_way_step start now next old log popped job level way above jobs kept gives =
      let shorter : length log.jobs ≡ length popped.jobs + 1 = ap length jobs ∙ length_push popped.jobs job in
      let above_old : kept_at old.kept level < length log.jobs = subst (λ ks. kept_at ks level < length log.jobs) way.kept above in
      record {
        kept = kept ∙ way.kept;
        chain = subst (λ w. AreConnected before after w popped.jobs) (sym gives) (IsChain_pop now popped.jobs job (subst (AreConnected before after now) jobs way.chain));
        enough = omega (arith, shorter, above_old);
        words = λ k within.
            ap (λ w. words_at before w popped.jobs k) gives
            ∙ sym (words_at-push now popped.jobs job k within)
            ∙ ap (λ js. words_at before now js k) (sym jobs)
            ∙ way.words k (omega (arith, within, shorter));
      }

  -- While `IsOnTheWay` holds, the current words are the words after the newest job.
  pub on_the_way_fits : (start now : List ℕ) (old log : LogAt J) (jobs : List J) (job : J) (level : ℕ) → IsOnTheWay start now old log level → log.jobs ≡ jobs ++ job ∷ [] → now ≡ after job
  on_the_way_fits start now old log jobs job level way is = newest_fits now jobs job (subst (AreConnected before after now) is way.chain)

  -- The jobs above the level have been run, and the log was then cut at the level.
  pub record IsCutAt (start now : List ℕ) (old cut : LogAt J) (level : ℕ) : Type 0 where
    pub undoable : IsUndoable before after now cut
    pub kept : 0 ∷ cut.kept ≡ take (level + 1) (0 ∷ old.kept)
    pub levels : levels_of before now cut ≡ take (level + 1) (levels_of before start old)
    pub words : slice_get (levels_of before start old) level ≡ Some now

  -- If `IsOnTheWay` holds and no job above the level remains, cutting the log at the level gives
  -- `IsCutAt`.
  pub on_the_way_end : (start now : List ℕ) (old log cut : LogAt J) (level : ℕ) → level ≤ length old.kept → IsUndoable before after start old → IsOnTheWay start now old log level → length log.jobs ≤ kept_at log.kept level → log.jobs ≡ cut.jobs → cut.kept ≡ take level log.kept → IsCutAt start now old cut level
  on_the_way_end start now old log cut level there undoable way none_above jobs kept =
      let all_kept : length cut.jobs ≡ kept_at old.kept level =
      omega (arith, ap length jobs, way.enough, subst (λ ks. length log.jobs ≤ kept_at ks level) way.kept none_above) in
      let kept_old : cut.kept ≡ take level old.kept = kept ∙ ap (take level) way.kept in
      let nested : IsRising 0 (take level old.kept) (length cut.jobs) =
      subst (IsRising 0 (take level old.kept)) (sym all_kept) (IsRising-take 0 old.kept (length old.jobs) level there undoable.nested) in
      let old_words : ℕ → List ℕ = words_at before start old.jobs in
      let same : (k : ℕ) → k ≤ length cut.jobs → words_at before now cut.jobs k ≡ old_words k =
      λ k within. ap (λ js. words_at before now js k) (sym jobs) ∙ way.words k (omega (arith, within, ap length jobs)) in
      record {
        undoable = record {
          chain = subst (AreConnected before after now) jobs way.chain;
          nested = subst (λ ks. IsRising 0 ks (length cut.jobs)) (sym kept_old) nested;
        };
        kept = ap (λ ks. 0 ∷ ks) kept_old ∙ ap (λ n. take n (0 ∷ old.kept)) (sym (add-one level));
        levels =
            ap (λ ks. map (words_at before now cut.jobs) (0 ∷ ks)) kept_old
            ∙ map_rising (words_at before now cut.jobs) old_words 0 (take level old.kept) (length cut.jobs) nested same
            ∙ sym (take-map old_words (suc level) (0 ∷ old.kept))
            ∙ ap (λ n. take n (levels_of before start old)) (sym (add-one level));
        words =
            slice_get-map old_words (0 ∷ old.kept) level
            ∙ ap (option_map old_words) (slice_get-get_or (0 ∷ old.kept) level 0 (omega (arith, there)))
            ∙ ap Some (ap old_words (sym all_kept) ∙ sym (same (length cut.jobs) (omega arith)) ∙ words_at_end now cut.jobs (length cut.jobs) (omega arith));
      }
