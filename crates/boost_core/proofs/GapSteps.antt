-- Shows that each step affects the cursors as `Cursors` says, because it sets no cursor but its
-- owner's, and a cursor whose nodes stay neighbours still fits.
use Rattle.std.proofs.Common.{◌≡◌, ◌≢◌, ℕ, inl, inr, List, length, set, Option, Some, is_some, sym, ap, subst, ◌∙◌, arith, map, slice_get, slice_set, length-set, get_or-set_other, None, Result, Ok, Err, refl, slice_index_or}
use Rattle.boost_core.proofs.Vocabulary.{cases_lt, regular_at, Op, key_of, stripe_of, Refusal, Step, CallerStep, HelperStep, step_by, step_from, Answer, nodes_of, IsSound, slice_get_within, slice_get_past, slice_get-get_or, Session, State, Gap, Caller, Helper, gap_in, gap_for, Claim, Lock, Right, AreNeighbours, Cursors, Fits, KeepsGaps, StandsAt, mover_of, next_key, Side, Reach, reach, HasEffect, ActsIn, SeeksIn, IsAsked, AsksBy, World, Tells, state_of, nodes_at, gap_by, gap_if, NoMemory, dummy_at, InitSeek, InitLink, SweepOutcome, dummy_node, Sweeps, found_fits, found_placed, TableHelper, Idle, Seeking, Holding, SeekChanges, LinkChanges, StoreChanges, link_answer_of, seek_answer, TableAt, KeepsList, cursor_in, helper_cursor, size_of, stored_of, helps_of, Serves, StampsUsedUp}
use Rattle.boost_core.proofs.SideRefusals.{owner_by, set_here}
use Rattle.boost_core.proofs.Moves.{gaps_same}
use Rattle.boost_core.proofs.NodeSteps.{next_is}
use Rattle.boost_core.proofs.GapLists.{Stay, stay_same, stay_swept, stay_sought}
use Rattle.boost_core.proofs.Neighbours.{fit_of}
use Rattle.boost_core.proofs.Gaps.{gap_here, no_gap, gap_by_side, gap_kept, stands, same_gap, cursors_stay, helper_kept, helper_gap, helper_stands, no_helper_gap}
use Rattle.boost_core.proofs.Staying.{does_stay, linked}
use Rattle.boost_core.proofs.LinkAnswers.{fits_where, stale_where}
use Rattle.boost_core.proofs.Tables.{doubled_helpers, links_node, other_cursor, seeker_is, seeker_there}
use Rattle.txn_words.specs.declared.step.Step.TheVariants as steps
use Rattle.txn_words.specs.declared.answer.Answer.TheVariants as answers
use Rattle.map_ops.specs.InitSeek.TheVariants as seeks
use Rattle.map_ops.specs.InitLink.TheVariants as links
use Rattle.map_ops.specs.SweepOutcome.TheVariants as outcomes
use Rattle.boost_core.specs.Serves as said

-- If two states are equal, a step has the same effect on the cursors in both.
pub cursors_of : (state old new : State) (step : Step) (answer : Answer) → state ≡ old → Cursors state step answer new → Cursors old step answer new
cursors_of state old new step answer is cursors = subst (λ s. Cursors s step answer new) is cursors

-- If the side of one caller is set, the sides of the other callers are unchanged.
set_other : (sessions : List Session) (c d : ℕ) (z : Session) → d ≢ c → slice_get (slice_set sessions c z) d ≡ slice_get sessions d
set_other sessions c d z other = elim (cases_lt d (length sessions)) [
  | inl within ↦
      slice_get-get_or (set sessions c z) d z (omega (arith, length-set sessions c z)) ∙ ap Some (get_or-set_other sessions c d z z other)
      ∙ sym (slice_get-get_or sessions d z within)
  | inr past ↦ slice_get_past (set sessions c z) d (omega (arith, length-set sessions c z)) ∙ sym (slice_get_past sessions d past)
]

module _ (w : World) (tells : Tells w) (c : ℕ) (x : Session) (at : slice_get w.sessions c ≡ Some x) (w' : World) (y z : Session) (same : z.cursor ≡ y.cursor) (sides : w'.sessions ≡ slice_set w.sessions c z) (sound : IsSound w'.table.list) (locks' : List (Option ℕ)) where
  abbrev old : Reach
  old = reach x w.table w.locks

  abbrev new : Reach
  new = reach y w'.table locks'

  here : slice_get w'.sessions c ≡ Some z
  here = ap (λ ss. slice_get ss c) sides ∙ set_here w.sessions c z (slice_get_within w.sessions c x at)

  -- A refusal leaves the caller's cursor and the nodes unchanged.
  asked_stays : (claim : Claim) (d stripe : ℕ) (op : Op) (refusal : Refusal) → AsksBy claim d stripe op old (answers.Refused refusal) new → (y.cursor ≡ x.cursor) × (nodes_of w'.table ≡ nodes_of w.table)
  asked_stays Lock d stripe op refusal is = (ap (λ (s : Side). s.cursor) is.1, ap (λ (r : Reach). nodes_of r.table) is.2)
  asked_stays Right d stripe op refusal is = own is.0 is.2
    where
      own : (own : Answer) → IsAsked d stripe op old own new → (y.cursor ≡ x.cursor) × (nodes_of w'.table ≡ nodes_of w.table)
      own answers.Asked is = (ap (λ (s : Side). s.cursor) is.becomes, is.prepares.nodes.all)
      own (answers.Busy holder) is = (ap (λ (s : Side). s.cursor) is.becomes, is.back.nodes.all ∙ is.prepares.nodes.all)
      own (answers.Refused refusal) is = (ap (λ (s : Side). s.cursor) is.1, ap (λ (r : Reach). nodes_of r.table) is.2)
      own _ is = absurd is
  asked_stays _ d stripe op refusal is = (ap (λ (r : Reach). r.session.cursor) is.1, ap (λ (r : Reach). nodes_of r.table) is.1)

  stays : (step : CallerStep) (refusal : Refusal) (stripes : ℕ) → HasEffect stripes w.counts c step old (answers.Refused refusal) new → (y.cursor ≡ x.cursor) × (nodes_of w'.table ≡ nodes_of w.table)
  stays (CallerStep.Ask op claim) refusal stripes is = asked_stays claim c (stripe_of stripes (key_of op)) op refusal is
  stays CallerStep.Save NoMemory stripes is = (ap (λ (s : Side). s.cursor) is.0, ap (λ (r : Reach). nodes_of r.table) is.1)
  stays CallerStep.Save _ stripes is = absurd is.0
  stays _ refusal stripes is = absurd is

  gaps_stay : y.cursor ≡ x.cursor → nodes_of w'.table ≡ nodes_of w.table → map (gap_by w'.table) w'.sessions ≡ map (gap_by w.table) w.sessions
  gaps_stay cursor nodes =
      (λ i. map (λ (s : Session). same_gap w.table w'.table s.cursor nodes i) (sides i))
      ∙ gaps_same w.table w.sessions c x z at (ap (gap_if w.table) (same ∙ cursor))

  other_kept : (step : CallerStep) (stripes : ℕ) (answer : Answer) → HasEffect stripes w.counts c step old answer new → Stay (nodes_of w.table) (nodes_of w'.table)
      → (d : ℕ) (gap : Gap) → mover_of (step_by c step) answer ≢ Some (Caller d) → gap_for (state_of w) (Caller d) ≡ Some gap → AreNeighbours (nodes_at w'.table) gap → gap_for (state_of w') (Caller d) ≡ Some gap
  other_kept step stripes (answers.Refused refusal) does stay d gap other is near =
      let both = stays step refusal stripes does in
      ap (λ gs. gap_in gs d) (gaps_stay both.0 both.1) ∙ is
  other_kept step stripes answer does stay d gap other is near =
      let apart : d ≢ c = λ e. other (owner_by c step ∙ ap (λ k. Some (Caller k)) (sym e)) in
      gap_kept w w' tells.sound.spread sound.rising stay d gap (ap (λ ss. slice_get ss d) sides ∙ set_other w.sessions c d z apart) is near

  keeps : (step : CallerStep) (stripes : ℕ) (answer : Answer) → HasEffect stripes w.counts c step old answer new → KeepsGaps (state_of w) (step_by c step) answer (state_of w')
  keeps step stripes answer does (Caller d) gap other is near =
      other_kept step stripes answer does
      (does_stay old new sound.spread stripes w.counts c step answer does).nodes d gap other is near
  keeps step stripes answer does (Helper h) gap other is near =
      let stay = does_stay old new sound.spread stripes w.counts c step answer does in
      helper_kept w.table w'.table tells.sound.spread sound.rising stay.nodes h gap
      (cursors_stay w.table w'.table h stay.buckets) is near

  sought : SeeksIn x w.table y w'.table → StandsAt (state_of w') (Caller c) (regular_at (next_key (state_of w) c))
  sought is = rw (next_is w tells c x at is.key is.target)
      (stands w' c is.key z is.cursor here (same ∙ ap (λ (s : Session). s.cursor) is.becomes) sound.spread is.places.placed is.places.fits)

  acted : (answer : Answer) → ActsIn c old answer new → Fits (state_of w) (steps.Act c) answer (state_of w')
  acted answers.Again is = gap_by_side w.table w.sessions c x (Some is.1.cursor) at is.1.had ∙ no_gap w.table is.1.cursor is.1.stale
  acted (answers.Done reply) is = ap is_some (gap_by_side w.table w.sessions c x (Some is.0.at) at is.0.stood ∙ gap_here w.table is.0.at (fit_of w.table.list is.0.at is.0.fitting))
  acted answers.Undone is = ap is_some (gap_by_side w.table w.sessions c x (Some is.1.at) at is.1.stood ∙ gap_here w.table is.1.at (fit_of w.table.list is.1.at is.1.fitting))
  acted (answers.Returned n) is = tt
  acted answers.Aborted is = tt
  acted _ is = absurd is

  fits : (step : CallerStep) (stripes : ℕ) (answer : Answer) → HasEffect stripes w.counts c step old answer new → Fits (state_of w) (step_by c step) answer (state_of w')
  fits CallerStep.Seek stripes answers.Placed is = sought is.0
  fits CallerStep.Seek stripes _ is = absurd is
  fits CallerStep.Act stripes answer is = acted answer is
  fits CallerStep.Begin stripes (answers.Began t) is = tt
  fits (CallerStep.Ask op claim) stripes answers.Asked is = tt
  fits CallerStep.Save stripes (answers.Saved n) is = tt
  fits (CallerStep.Back n) stripes answers.Leaving is = tt
  fits CallerStep.Commit stripes (answers.Committed p) is = tt
  fits CallerStep.Abort stripes answers.Leaving is = tt
  fits _ stripes _ is = tt

  -- Each step of a caller affects the cursors as `Cursors` says.
  pub does_cursors : (step : CallerStep) (stripes : ℕ) (answer : Answer) → HasEffect stripes w.counts c step old answer new → Cursors (state_of w) (step_by c step) answer (state_of w')
  does_cursors step stripes answer is = record { fits = fits step stripes answer is; keeps = keeps step stripes answer is }

module _ (t t' : TableAt) (sound : IsSound t'.list) where
  kept : KeepsList t t' → Stay (nodes_of t) (nodes_of t')
  kept same = stay_same (nodes_of t) (nodes_of t') (ap (λ l. l.nodes) same)

  swept : (outcome : SweepOutcome) → Sweeps t t' outcome → Stay (nodes_of t) (nodes_of t')
  swept outcomes.Swept is = subst (Stay (nodes_of t)) (sym is.0.nodes) (stay_swept (nodes_of t))
  swept outcomes.Clean is = kept is.0

  sought_bucket : (h b : ℕ) (outcome : Result InitSeek Refusal) → SeekChanges t t' h b outcome → Stay (nodes_of t) (nodes_of t')
  sought_bucket h b (Ok seeks.Placed) changes =
      subst (Stay (nodes_of t)) (sym changes.nodes) (stay_sought (dummy_at b) (nodes_of t) changes.from)
  sought_bucket h b (Ok seeks.Ready) changes = kept changes.1
  sought_bucket h b (Err refusal) changes = kept (ap (λ u. u.list) changes)

  linked_dummy : (h : ℕ) (outcome : Result InitLink Refusal) → LinkChanges t t' h outcome → Stay (nodes_of t) (nodes_of t')
  linked_dummy h (Ok links.Linked) changes =
      linked t.list t'.list (dummy_node changes.place changes.bucket _) sound.spread (links_node _ _ _ _ _ changes.links)
  linked_dummy h (Ok links.Again) changes = kept changes.1
  linked_dummy h (Ok links.Present) changes = kept changes.1
  linked_dummy h (Err refusal) changes = kept (ap (λ u. u.list) changes)

  serves_stay : (step : HelperStep) (answer : Answer) → Serves step t answer t' → Stay (nodes_of t) (nodes_of t')
  serves_stay HelperStep.Sweep answer is = swept is.outcome is.sweeps
  serves_stay (HelperStep.InitSeek h b) answer is = sought_bucket h b is.outcome is.changes
  serves_stay (HelperStep.InitLink h) answer is = linked_dummy h is.outcome is.changes
  serves_stay (HelperStep.InitStore h) answer is = kept is.list
  serves_stay (HelperStep.Double seen) answer is = kept is.list

-- A step leaves a helper's cursor unchanged if the helper does not take the step.
module _ (t t' : TableAt) (h : ℕ) where
  moved : (k : ℕ) (now : TableHelper) → t'.buckets.helpers ≡ slice_set t.buckets.helpers k now → Some (Helper k) ≢ Some (Helper h)
      → helper_cursor t' h ≡ helper_cursor t h
  moved k now is other = other_cursor t t' k h now is (λ e. other (ap (λ n. Some (Helper n)) (sym e)))

  sought_cursor : (k b : ℕ) (outcome : Result InitSeek Refusal) → SeekChanges t t' k b outcome → mover_of (steps.InitSeek k b) (said.answer_to_seek outcome) ≢ Some (Helper h) → helper_cursor t' h ≡ helper_cursor t h
  sought_cursor k b (Ok seeks.Ready) changes other = moved k Idle (ap (λ d. d.helpers) changes.0) other
  sought_cursor k b (Ok seeks.Placed) changes other = moved k (Seeking b changes.cursor) (ap (λ d. d.helpers) changes.now) other
  sought_cursor k b (Err refusal) changes other = ap (λ u. helper_cursor u h) changes

  linked_cursor : (k : ℕ) (outcome : Result InitLink Refusal) → LinkChanges t t' k outcome → mover_of (steps.InitLink k) (said.linked outcome) ≢ Some (Helper h) → helper_cursor t' h ≡ helper_cursor t h
  linked_cursor k (Ok links.Again) changes other = moved k Idle (ap (λ d. d.helpers) changes.0) other
  linked_cursor k (Ok links.Present) changes other =
      moved k (Holding changes.0.bucket changes.0.place) (ap (λ d. d.helpers) changes.0.now) other
  linked_cursor k (Ok links.Linked) changes other = moved k (Holding changes.bucket changes.place) (ap (λ d. d.helpers) changes.now) other
  linked_cursor k (Err refusal) changes other = ap (λ u. helper_cursor u h) changes

  stored_cursor : (k : ℕ) (outcome : Result Unit Refusal) → StoreChanges t t' k outcome → mover_of (steps.InitStore k) (said.stored outcome) ≢ Some (Helper h) → helper_cursor t' h ≡ helper_cursor t h
  stored_cursor k (Ok done) changes other = moved k Idle (ap (λ d. d.helpers) changes.now) other
  stored_cursor k (Err refusal) changes other = ap (λ u. helper_cursor u h) changes

  serves_cursor : (step : HelperStep) (answer : Answer) → Serves step t answer t' → mover_of (step_from step) answer ≢ Some (Helper h) → helper_cursor t' h ≡ helper_cursor t h
  serves_cursor HelperStep.Sweep answer is other = cursors_stay t t' h is.keeps.buckets.all
  serves_cursor (HelperStep.InitSeek k b) answer is other = sought_cursor k b is.outcome is.changes (subst (λ a. mover_of (steps.InitSeek k b) a ≢ Some (Helper h)) is.answer_is other)
  serves_cursor (HelperStep.InitLink k) answer is other = linked_cursor k is.outcome is.changes (subst (λ a. mover_of (steps.InitLink k) a ≢ Some (Helper h)) is.answer_is other)
  serves_cursor (HelperStep.InitStore k) answer is other = stored_cursor k is.outcome is.changes (subst (λ a. mover_of (steps.InitStore k) a ≢ Some (Helper h)) is.answer_is other)
  serves_cursor (HelperStep.Double seen) answer is other =
      ap (λ hs. slice_index_or (map cursor_in hs) h None) (doubled_helpers t t' is.outcome is.changes)

module _ (w w' : World) (tells : Tells w) (sound : IsSound w'.table.list) where
  sought_fits : (h b : ℕ) (outcome : Result InitSeek Refusal)
      → outcome ≡ seek_answer (size_of w.table) (stored_of w.table) (slice_get (helps_of w.table) h) b
      → SeekChanges w.table w'.table h b outcome → Fits (state_of w) (steps.InitSeek h b) (said.answer_to_seek outcome) (state_of w')
  sought_fits h b (Ok seeks.Placed) says changes =
      helper_stands w' h b changes.cursor sound.spread (seeker_is w.table w'.table h b changes (seeker_there w.table h b (sym says)))
      (found_placed w'.table.list changes.cursor changes.found sound) changes.at (found_fits w'.table.list changes.cursor changes.found)
  sought_fits h b _ says changes = tt

  linked_fits : (h : ℕ) (outcome : Result InitLink Refusal) → (outcome ≢ Err NoMemory → outcome ≡ link_answer_of w.table h) → (outcome ≡ Err NoMemory → link_answer_of w.table h ≡ Ok links.Linked) → Fits (state_of w) (steps.InitLink h) (said.linked outcome) (state_of w')
  linked_fits h (Ok links.Again) says no_memory = no_helper_gap w.table h (stale_where w.table h (sym (says (λ e. cc (e)))))
  linked_fits h (Ok links.Present) says no_memory = helper_gap w.table h (fits_where w.table h (Ok links.Present) (sym (says (λ e. cc (e)))) refl (λ e. cc (e)))
  linked_fits h (Ok links.Linked) says no_memory = helper_gap w.table h (fits_where w.table h (Ok links.Linked) (sym (says (λ e. cc (e)))) refl (λ e. cc (e)))
  linked_fits h (Err NoMemory) says no_memory = helper_gap w.table h (fits_where w.table h (Ok links.Linked) (no_memory refl) refl (λ e. cc (e)))
  linked_fits h (Err StampsUsedUp) says no_memory = helper_gap w.table h (fits_where w.table h (Err StampsUsedUp) (sym (says (λ e. cc (e)))) refl (λ e. cc (e)))
  linked_fits h (Err _) says no_memory = tt

  serves_fits : (step : HelperStep) (answer : Answer) → Serves step w.table answer w'.table → Fits (state_of w) (step_from step) answer (state_of w')
  serves_fits HelperStep.Sweep answers.Swept is = tt
  serves_fits HelperStep.Sweep _ is = tt
  serves_fits (HelperStep.InitSeek h b) answer is = subst (λ a. Fits (state_of w) (steps.InitSeek h b) a (state_of w')) (sym is.answer_is) (sought_fits h b is.outcome is.says is.changes)
  serves_fits (HelperStep.InitLink h) answer is = subst (λ a. Fits (state_of w) (steps.InitLink h) a (state_of w')) (sym is.answer_is) (linked_fits h is.outcome is.says is.no_memory)
  serves_fits (HelperStep.InitStore h) answers.Stored is = tt
  serves_fits (HelperStep.InitStore h) _ is = tt
  serves_fits (HelperStep.Double seen) answers.Light is = tt
  serves_fits (HelperStep.Double seen) _ is = tt

  serves_keeps : w'.sessions ≡ w.sessions → (step : HelperStep) (answer : Answer) → Serves step w.table answer w'.table → KeepsGaps (state_of w) (step_from step) answer (state_of w')
  serves_keeps sides step answer is (Caller d) gap other had near = gap_kept w w' tells.sound.spread sound.rising (serves_stay w.table w'.table sound step answer is) d gap (ap (λ ss. slice_get ss d) sides) had near
  serves_keeps sides step answer is (Helper h) gap other had near =
      helper_kept w.table w'.table tells.sound.spread sound.rising (serves_stay w.table w'.table sound step answer is) h gap (serves_cursor w.table w'.table h step answer is other) had near

  pub serves_cursors : w'.sessions ≡ w.sessions → (step : HelperStep) (answer : Answer) → Serves step w.table answer w'.table → Cursors (state_of w) (step_from step) answer (state_of w')
  serves_cursors sides step answer is = record { fits = serves_fits step answer is; keeps = serves_keeps sides step answer is }
