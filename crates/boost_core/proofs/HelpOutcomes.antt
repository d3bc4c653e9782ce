-- Shows that a call for help ends with the outcome of `Helps` while nobody else takes steps,
-- because each step keeps the invariant of its phase and lowers a bound on the steps that are left.
use Rattle.std.proofs.Common.{◌≡◌, ℕ, ◌+◌, ◌*◌, ◌-◌, ◌^◌, ◌%◌, ◌<◌, ◌≤◌, Bool, true, false, if◌then◌else◌, Option, Some, None, refl, sym, ap, subst, ◌∙◌, arith, nat_le, unwrap_or, ◌≢◌, inl, inr, zero, suc, pow_pos}
use Rattle.boost_core.proofs.Vocabulary.{false≢true, Step, Answer, Drive, IsAncestor, mod_below, is_bad_key, Sizes, are_limits, Way, first_phase, step_in, sized_in, towards, told_help, told_init_seek, told_link, told_store, told_in, new_drive, step_of, sized_of, turn_in, ended_by, end_of, told_of, IsAncestor-root, child_towards-le, State, Helper, is_set, Move, IsWhole, IsOnWay, HelpSuits, is_ask, Drives, Helps, outcome_of, cases_lt, parent_of, highest_cleared, child_within, child_towards, parent_of-zero, parent_of-child_towards, BadKey, NoMemory, StampsUsedUp}
use Rattle.txn_drive.specs.declared.call.Call.{Call}
use Rattle.txn_drive.specs.declared.phase.Phase.{Phase}
use Rattle.boost_core.proofs.HelpTargets.{Sized, sized, is_double, at_towards, at_heading, at_refused, at_double, Reaches, double_reaches, seek_reaches, link_reaches, store_reaches, help_suits_told}
use Rattle.boost_core.proofs.Moves.{just_placed}
use Rattle.boost_core.proofs.SideRefusals.{le_false}
use Rattle.std.proofs.lemmas.Bool.Decides.{eqb_tells, leb_tells}
use Rattle.txn_words.specs.declared.step.Step.TheVariants as steps
use Rattle.txn_words.specs.declared.answer.Answer.TheVariants as answers
use Rattle.txn_drive.specs.declared.call.Call.TheVariants as calls
use Rattle.txn_drive.specs.declared.phase.Phase.TheVariants as phases

-- Clearing the highest 1 bit of a number above 0 makes the number smaller.
cleared_less : (width number : ℕ) → 0 < number → number < 2 ^ width → highest_cleared width number < number
unfolding highest_cleared
cleared_less zero number some small = omega arith
cleared_less (suc width) number some small =
    elim (leb_tells (2 ^ width) number) [
      | inl over ↦ rw (over.0) (omega (arith, pow_pos width))
      | inr under ↦ rw (under.0) (cleared_less width number some (omega arith))
    ]

parent_less : (bucket : ℕ) → 0 < bucket → bucket < 2 ^ 32 → parent_of bucket < bucket
unfolding parent_of
parent_less bucket some small = cleared_less 32 bucket some small

child_some : (rounds bucket : ℕ) → 0 < bucket → 0 < child_within rounds 0 bucket
unfolding child_within
child_some zero bucket some = some
child_some (suc rounds) bucket some =
    elim (eqb_tells (parent_of bucket) 0) [
      | inl found ↦ rw (found.0) some
      | inr missed ↦
          rw (missed.0) (elim (cases_lt 0 (parent_of bucket)) [
            | inl less ↦ child_some rounds (parent_of bucket) less
            | inr none ↦ absurd (missed.1 (omega arith))
          ])
    ]

child_root : (bucket : ℕ) → 0 < bucket → 0 < child_towards 0 bucket
unfolding child_towards
child_root bucket some = child_some 32 bucket some

-- On the way from an ancestor down to a bucket, each bucket has a greater number than the one
-- before it.
pub rises : (last bucket : ℕ) → bucket < 2 ^ 32 → IsAncestor last bucket → last ≢ bucket → last < child_towards last bucket
rises last bucket small is other =
    let parent = parent_of-child_towards last bucket small is other in
    let most = child_towards-le last bucket in
    elim (cases_lt 0 (child_towards last bucket)) [
      | inl some ↦ rw parent at (parent_less (child_towards last bucket) some (omega arith))
      | inr none ↦
          let at_root : child_towards last bucket ≡ 0 = omega arith in
          let last_root : last ≡ 0 = sym parent ∙ ap parent_of at_root ∙ parent_of-zero in
          elim (cases_lt 0 bucket) [
            | inl more ↦ let some = child_root bucket more in absurd (omega (arith, rw last_root at at_root))
            | inr fewer ↦ absurd (other (omega arith))
          ]
    ]

-- In the phase that links a dummy, the cursor that was placed last is the helper's.
abbrev pub IsPlaced : State → ℕ → Phase → Type 0
IsPlaced state c (phases.Linking way again) = state.placed ≡ Some (Helper c)
IsPlaced state c phase = Unit {0}

-- The invariant of each phase of a call for help.
abbrev pub Fits : State → ℕ → ℕ → Phase → Type 0
Fits state c key (phases.Doubling seen) = Unit {0}
Fits state c key (phases.Refused BadKey) = Unit {0}
Fits state c key phase = HelpSuits state c phase × Reaches (Unit {0}) state (key % state.size) phase × IsPlaced state c phase

-- An upper bound on the number of steps that a call for help still takes from this phase on.
abbrev pub left : Phase → ℕ
left (phases.Doubling seen) = 3 * 2 ^ 32 + 4
left (phases.Initialising way again) = 3 * (way.target - way.bucket) + 3
left (phases.Linking way again) = 3 * (way.target - way.bucket) + 2
left (phases.Storing way) = 3 * (way.target - way.bucket) + 1
left phase = 0

-- The invariant of this phase holds, and fewer than `bound` steps remain.
pub record Goes (state : State) (c key bound : ℕ) (phase : Phase) : Type 0 where
  pub fits : Fits state c key phase
  pub fewer : left phase < bound

-- In this phase fewer than `bound` steps remain, and `IsPlaced` holds.
record Nears (state : State) (c bound : ℕ) (phase : Phase) : Type 0 where
  placed : IsPlaced state c phase
  fewer : left phase < bound

weaker : (state : State) (c bound more : ℕ) (phase : Phase) → bound ≤ more → Nears state c bound phase → Nears state c more phase
weaker state c bound more phase most nears = record { placed = nears.placed; fewer = omega (arith, nears.fewer) }

-- `Nears` holds after a bucket on the way is initialised.
towards_nears : (state : State) (c last target : ℕ) → target < 2 ^ 32 → IsAncestor last target → Nears state c (3 * (target - last) + 1) (towards last target)
towards_nears state c last target small ancestor =
    at_towards (Nears state c (3 * (target - last) + 1)) last target (λ same. record { placed = tt; fewer = omega arith })
    (λ other. record { placed = tt; fewer = omega (arith, rises last target small ancestor other, child_towards-le last target) })

-- `Nears` holds after the doubling.
doubled_nears : (state new : State) (c key : ℕ) (answer : Answer) → new.size < 2 ^ 32 → 0 < new.size → Move state (steps.Double state.size) answer new → Nears new c (3 * 2 ^ 32 + 4) (told_help key state.size answer)
doubled_nears state new c key answer small some move =
    let rest = mod_below key new.size some in
    let rest_small : key % new.size < 2 ^ 32 = omega arith in
    at_double (Nears new c (3 * 2 ^ 32 + 4)) state new key answer move
    (λ stored. at_heading (Nears new c (3 * 2 ^ 32 + 4)) key new.size
    (weaker new c (3 * (key % new.size - 0) + 1) (3 * 2 ^ 32 + 4) (towards 0 (key % new.size)) (omega arith) (towards_nears new c 0 (key % new.size) rest_small (IsAncestor-root (key % new.size) rest_small)))
    (λ none. record { placed = tt; fewer = omega arith }))

-- `Nears` holds after the step `InitSeek`, which seeks the position of a bucket's dummy.
sought_nears : (state new : State) (c again : ℕ) (way : Way) (answer : Answer) → way.target < 2 ^ 32 → IsOnWay state way → Move state (steps.InitSeek c way.bucket) answer new → Nears new c (3 * (way.target - way.bucket) + 3) (told_init_seek way again answer)
sought_nears state new c again way answers.Ready small on move =
    weaker new c (3 * (way.target - way.bucket) + 1) (3 * (way.target - way.bucket) + 3) (towards way.bucket way.target) (omega arith) (towards_nears new c way.bucket way.target small on.ancestor)
sought_nears state new c again way answers.Placed small on move = record { placed = ap (λ (s : State). s.placed) move.state; fewer = omega arith }
sought_nears state new c again way (answers.Refused refusal) small on move = at_refused (Nears new c (3 * (way.target - way.bucket) + 3)) refusal (λ r. record { placed = tt; fewer = omega arith })
sought_nears state new c again way _ small on move = record { placed = tt; fewer = omega arith }

-- `Nears` holds after the step `InitLink`.
linked_nears : (state new : State) (c again : ℕ) (way : Way) (answer : Answer) → state.placed ≡ Some (Helper c) → Move state (steps.InitLink c) answer new → Nears new c (3 * (way.target - way.bucket) + 2) (told_link way again answer)
linked_nears state new c again way answers.Again placed move =
    absurd (false≢true (sym (just_placed state (Helper c) placed) ∙ move.allowed.1))
linked_nears state new c again way (answers.Refused refusal) placed move = at_refused (Nears new c (3 * (way.target - way.bucket) + 2)) refusal (λ r. record { placed = tt; fewer = omega arith })
linked_nears state new c again way _ placed move = record { placed = tt; fewer = omega arith }

-- `Nears` holds after the step `InitStore`.
stored_nears : (new : State) (c : ℕ) (way : Way) (answer : Answer) → way.target < 2 ^ 32 → IsAncestor way.bucket way.target → Nears new c (3 * (way.target - way.bucket) + 1) (told_store way answer)
stored_nears new c way answers.Stored small ancestor = towards_nears new c way.bucket way.target small ancestor
stored_nears new c way (answers.Refused refusal) small ancestor = at_refused (Nears new c (3 * (way.target - way.bucket) + 1)) refusal (λ r. record { placed = tt; fewer = omega arith })
stored_nears new c way _ small ancestor = record { placed = tt; fewer = omega arith }

-- If the invariant of a phase holds and the phase has a step to take, `HelpSuits` holds.
fits_suits : (state : State) (c key : ℕ) (phase : Phase) (step : Step) → Fits state c key phase → step_in c (calls.Help key) (sized_in state.size phase) ≡ Some step → HelpSuits state c phase
fits_suits state c key (phases.Doubling seen) step fits is = tt
fits_suits state c key (phases.Refused refusal) step fits is = absurd (cc is)
fits_suits state c key phase step fits is = fits.0

fits_all : (state : State) (c key : ℕ) (phase : Phase) → HelpSuits state c phase → Reaches (Unit {0}) state (key % state.size) phase → IsPlaced state c phase → Fits state c key phase
fits_all state c key (phases.Doubling seen) suits reaches placed = tt
fits_all state c key (phases.Refused BadKey) suits reaches placed = tt
fits_all state c key phase suits reaches placed = (suits, reaches, placed)

-- After the drive takes a step and receives its answer, the invariant of the next phase holds, and
-- fewer steps remain.
pub goes : (state new : State) (c key : ℕ) (phase : Phase) (step : Step) (answer : Answer) → IsWhole state → state.limits.buckets ≤ 65536 → nat_le state.limits.callers c ≡ false → Fits state c key phase
    → step_in c (calls.Help key) (sized_in state.size phase) ≡ Some step → Move state step answer new → Goes new c key (left phase) (told_in (calls.Help key) (sized_in state.size phase) answer)
goes state new c key phase step answer whole most within fits is move =
    let rests = by phase fits is (subst (λ s. Move state s answer new) (sym (ap (λ o. unwrap_or o step) is)) move) in
    record {
      fits = fits_all new c key (told_in (calls.Help key) (sized_in state.size phase) answer) (help_suits_told state new c key phase step answer whole small within (fits_suits state c key phase step fits is) is move) rests.0 rests.1.placed;
      fewer = rests.1.fewer;
    }
  where
    grown : Sized state new step
    grown = sized state new step answer move

    small : new.size < 2 ^ 32
    small = omega (arith, whole.most, grown.most)

    inside : (target : ℕ) → target < state.size → target < 2 ^ 32
    inside target less = omega (arith, whole.most)

    -- After a step other than a doubling, the target is still the bucket of the key.
    keeps : (step : Step) (target : ℕ) → is_double step ≡ false → Move state step answer new → target ≡ key % state.size
        → target ≡ key % new.size
    keeps step target single move is = is ∙ ap (λ n. key % n) (sym ((sized state new step answer move).same single))

    by : (phase : Phase) → Fits state c key phase → step_in c (calls.Help key) (sized_in state.size phase) ≡ Some step
        → Move state (unwrap_or (step_in c (calls.Help key) (sized_in state.size phase)) step) answer new
        → Reaches (Unit {0}) new (key % new.size) (told_in (calls.Help key) (sized_in state.size phase) answer) × Nears new c (left phase) (told_in (calls.Help key) (sized_in state.size phase) answer)
    by (phases.Doubling seen) fits is move = (
      double_reaches (Unit {0}) state new key answer (λ k stored. ap (λ xs. is_set xs 0) stored ∙ whole.first) move,
      doubled_nears state new c key answer small (omega (arith, whole.least, grown.least)) move,
    )
    by (phases.Initialising way again) fits is move = (
      seek_reaches (Unit {0}) state new c (key % new.size) way again answer (keeps (steps.InitSeek c way.bucket) way.target refl move fits.1) move,
      sought_nears state new c again way answer (inside way.target fits.0.target) fits.0 move,
    )
    by (phases.Linking way again) fits is move = (
      link_reaches (Unit {0}) new (key % new.size) way again answer (keeps (steps.InitLink c) way.target refl move fits.1),
      linked_nears state new c again way answer fits.2 move,
    )
    by (phases.Storing way) fits is move = (
      store_reaches (Unit {0}) state new c (key % new.size) way answer (λ k. (whole, fits.0)) (keeps (steps.InitStore c) way.target refl move fits.1) move,
      stored_nears new c way answer (inside way.target fits.0.0.target) fits.0.0.ancestor,
    )
    by phases.Helped fits is move = absurd (cc is)
    by (phases.Refused refusal) fits is move = absurd (cc is)
    by phase fits is move = absurd fits.0

-- The invariant holds for the first phase of a call for help.
pub fits_first : (state : State) (c key : ℕ) → Fits state c key (first_phase state.limits.half (calls.Help key))
fits_first state c key = at (is_bad_key state.limits.half key)
  where
    at : (b : Bool) → Fits state c key (if b then phases.Refused BadKey else phases.Doubling 0)
    at true = tt
    at false = tt

step_here : (c key size : ℕ) (drive : Drive) (next : Option Step) → drive.caller ≡ c → drive.call ≡ calls.Help key → next ≡ step_of (sized_of size drive) → next ≡ step_in c (calls.Help key) (sized_in size drive.phase)
step_here c key size drive next caller call is = is ∙ (λ i. step_in (caller i) (call i) (sized_in size drive.phase))

-- After a round of the loop, the invariant of the next phase holds, and fewer steps remain.
pub round : (state new : State) (c key : ℕ) (drive : Drive) (step : Step) (answer : Answer) → IsWhole state → state.limits.buckets ≤ 65536 → nat_le state.limits.callers c ≡ false → drive.caller ≡ c → drive.call ≡ calls.Help key → Fits state c key drive.phase
    → step_of (sized_of state.size drive) ≡ Some step → Move state step answer new → Goes new c key (left drive.phase) (told_of (sized_of state.size drive) answer).phase
round state new c key drive step answer whole most within caller call fits is move =
    subst (λ call. Goes new c key (left drive.phase) (told_in call (sized_in state.size drive.phase) answer)) (sym call)
    (goes state new c key drive.phase step answer whole most within fits (sym (step_here c key state.size drive _ caller call refl) ∙ is) move)

-- Returns true if the step is `Ask`. A call for help never takes this step.
abbrev asks : Option Step → Bool
asks None = false
asks (Some step) = is_ask step

no_ask : (c key : ℕ) (phase : Phase) → asks (step_in c (calls.Help key) phase) ≡ false
no_ask c key phases.Fresh = refl
no_ask c key phase = refl

pub help_asks_nothing : (key size : ℕ) (drive : Drive) (step : Step) → drive.call ≡ calls.Help key → step_of (sized_of size drive) ≡ Some step → is_ask step ≡ false
help_asks_nothing key size drive step call is = sym (ap asks is) ∙ ap (λ made. asks (step_in drive.caller made (sized_in size drive.phase))) call ∙ no_ask drive.caller key (sized_in size drive.phase)

-- If the call has tested that the caller's number is in range, the number is below the core's
-- number of callers.
pub within_there : (inside here : Sizes) (c n m : ℕ) → inside ≡ here → c < n → n ≡ m → m ≡ inside.callers → nat_le here.callers c ≡ false
within_there inside here c n m same less is callers = ap (λ (l : Sizes). nat_le l.callers c) (sym same) ∙ le_false inside.callers c (omega arith)

buckets_most : (callers stripes buckets : ℕ) → are_limits callers stripes buckets ≡ true → buckets ≤ 65536
buckets_most callers stripes buckets are = grind arith

pub most_there : (inside here : Sizes) → inside ≡ here → are_limits inside.callers inside.stripes inside.buckets ≡ true → here.buckets ≤ 65536
most_there inside here same are = subst (λ (l : Sizes). l.buckets ≤ 65536) same (buckets_most inside.callers inside.stripes inside.buckets are)

-- If the drive has no step left, the call for help has the outcome that `Helps` describes.
pub ended : (old state : State) (c key : ℕ) (drive : Drive) → ((moves : ℕ) × Drives moves (new_drive old.limits.half c (calls.Help key)) old drive state) → drive.caller ≡ c → drive.call ≡ calls.Help key → Fits state c key drive.phase
    → step_of (sized_of state.size drive) ≡ None → Helps old c key (outcome_of (end_of (sized_of state.size drive))) state
ended old state c key drive drives caller call fits none = at drive.call drive.phase call fits (sym (step_here c key state.size drive _ caller call refl) ∙ none) refl refl
  where
    at : (made : Call) (phase : Phase) → made ≡ calls.Help key → Fits state c key phase → step_in c (calls.Help key) (sized_in state.size phase) ≡ None → drive.call ≡ made → drive.phase ≡ phase
        → Helps old c key (outcome_of (ended_by (turn_in drive.caller made (sized_in state.size phase)))) state
    at made phases.Helped same fits none its stands = subst (λ made. Helps old c key (outcome_of (ended_by (turn_in drive.caller made phases.Helped))) state) (sym same)
        (record { moves = drives.0; last = drive; drives = drives.1; ended = (λ i. ended_by (turn_in drive.caller (call i) (stands i))) }, fits.1 tt)
    at made (phases.Refused BadKey) same fits none its stands = record { moves = drives.0; last = drive; drives = drives.1; ended = (λ i. ended_by (turn_in drive.caller drive.call (stands i))) }
    at made (phases.Refused NoMemory) same fits none its stands = record { moves = drives.0; last = drive; drives = drives.1; ended = (λ i. ended_by (turn_in drive.caller drive.call (stands i))) }
    at made (phases.Refused StampsUsedUp) same fits none its stands = record { moves = drives.0; last = drive; drives = drives.1; ended = (λ i. ended_by (turn_in drive.caller drive.call (stands i))) }
    at made (phases.Refused refusal) same fits none its stands = absurd fits.0
    at made (phases.Doubling seen) same fits none its stands = absurd (cc (none))
    at made (phases.Initialising way again) same fits none its stands = absurd (cc (none))
    at made (phases.Linking way again) same fits none its stands = absurd (cc (none))
    at made (phases.Storing way) same fits none its stands = absurd (cc (none))
    at made phase same fits none its stands = absurd fits.0
