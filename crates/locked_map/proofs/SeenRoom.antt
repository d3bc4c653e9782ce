-- The room that a turn needs, and the calls that may be refused memory for it.
use Rattle.std.proofs.Common.{[], ℕ, ◌<◌, ◌∙◌, ◌≡◌, ◌≤◌, Bool, IfSome, List, None, Option, Some, ap, arith, false, is_some, refl, subst}
use Rattle.std.proofs.Common.{sym, true, unwrap_or}
use Rattle.locked_map.specs.Vocabulary.{Acting, Call, Doubling, Drive, Ended, Entry, Fresh, Initialising, Linking, NoMemory, One, Phase}
use Rattle.locked_map.specs.Vocabulary.{Stance, Seeking, Standing, Step, Storing, Turn, Two, Work, closed_stance, first_step, is_closed, made}
use Rattle.locked_map.specs.Vocabulary.{owed_by, owed_in, refusal_in, reserved, stance_after, turn_in, turn_of}
use Rattle.locked_map.proofs.Vocabulary.{false≢true}
use Rattle.txn_drive.specs.Made.{made_in}
use Rattle.boost_core.proofs.SideRefusals.{abort_runs, commit_open}
use Rattle.locked_map.proofs.Holding.{at_paired}
use Rattle.locked_map.proofs.Phases.{some_is}
use Rattle.locked_map.proofs.Working.{IsAtWork, at_work}
use Rattle.locked_map.specs.Holds.{FitsIf, IsUnderway}
use Rattle.locked_map.specs.Noted.{HasRoomFor, Noted, adds_entry, is_save}
use Rattle.locked_map.specs.Suits.{SuitsStance, may_refuse, work_phase}
use Rattle.txn_drive.specs.declared.call.Call.TheVariants as calls
use Rattle.txn_words.specs.declared.stance.Phase.TheVariants as stances
use Rattle.txn_words.specs.declared.step.Step.TheVariants as steps

-- The last step of a turn. A turn needs room only for this step.
abbrev pub asked_of : Turn → Option Step
asked_of (One step) = Some step
asked_of (Two step next) = Some next
asked_of (Ended outcome) = None

-- A step that adds no entry needs room only for the entries that are owed.
saves_none : (step : Step) → adds_entry step ≡ false → (reserved step ≡ 0) × (is_save step ≡ false)
saves_none (steps.Begin c) is = absurd (cc is)
saves_none step is = (cc, cc)

pub room_for_none : (n : Noted) (step : Step) → adds_entry step ≡ false → owed_by (stance_after n.entries) ≤ n.room → HasRoomFor n step
room_for_none n step adds owes =
    let none = saves_none step adds in record {
      all = omega (arith, none.0, owes);
      one = λ is. absurd (false≢true (sym adds ∙ is));
      save = λ is. absurd (false≢true (sym none.1 ∙ is));
    }

-- An open transaction owes at least one entry. So if a step of such a transaction reserves nothing,
-- the room for the owed entries is enough for the step's entry too.
open_owes : (standing : ℕ) (q : Standing) → is_closed q ≡ false → 0 < owed_in standing q
open_owes standing stances.Closed is = absurd (false≢true (sym is))
open_owes standing q is = omega arith

-- The call has added no entry yet, and may be refused memory. Room is refused only to such a call.
abbrev HasNotBegun : ℕ → Call → Phase → Type 0
HasNotBegun c call phase = (made_in c call phase ≡ []) × (may_refuse call NoMemory ≡ true)

-- Each turn but the first has the room that it needs.
abbrev HasRoomIn : Noted → ℕ → Call → Phase → Type 0
HasRoomIn n c call Fresh = Unit {0}
HasRoomIn n c call phase = IfSome (asked_of (turn_in c call phase)) (HasRoomFor n)

module _ (n : Noted) (s : Stance) (c : ℕ) (at : stance_after n.entries ≡ Some s) (owes : owed_by (stance_after n.entries) ≤ n.room) where
  room_owed : (step : Step) → is_closed s.phase ≡ false → reserved step ≡ 0 → is_save step ≡ false → HasRoomFor n step
  room_owed step there free save =
      let owed_is : owed_by (stance_after n.entries) ≡ owed_in s.standing s.phase = ap owed_by at in
      let some = open_owes s.standing s.phase there in record {
        all = omega (arith, free, owes);
        one = λ is. omega (arith, owed_is, some, owes);
        save = λ is. absurd (false≢true (sym save ∙ is));
      }

  act_room : (call : Call) (work : Work) → work_phase call work ≡ Some s.phase → HasRoomFor n (steps.Act c)
  act_room call work fits = room_owed (steps.Act c) (subst IsAtWork fits (at_work call work)).0 refl refl

  room_in : (call : Call) (phase : Phase) → SuitsStance s call phase → HasRoomIn n c call phase
  room_in call Fresh fits = tt
  room_in call (Seeking work again) fits =
      at_paired (λ t. IfSome (asked_of t) (HasRoomFor n)) again (steps.Seek c) (steps.Act c) (room_for_none n (steps.Seek c) refl owes) (act_room call work fits)
  room_in call (Acting work again) fits = act_room call work fits
  room_in call (Doubling size) fits = room_for_none n (steps.Double size) refl owes
  room_in call (Initialising way again) fits =
      at_paired (λ t. IfSome (asked_of t) (HasRoomFor n)) again (steps.InitSeek c way.bucket) (steps.InitLink c)
      (room_for_none n (steps.InitSeek c way.bucket) refl owes) (room_for_none n (steps.InitLink c) refl owes)
  room_in call (Linking way again) fits = room_for_none n (steps.InitLink c) refl owes
  room_in call (Storing way) fits = room_for_none n (steps.InitStore c) refl owes
  room_in call phase fits = tt

  no_room_first : (call : Call) (half : Bool) → refusal_in half s (first_step 0 call) ≡ None → (HasRoomFor n (first_step c call) → ⊥) → HasNotBegun c call Fresh
  no_room_first calls.Commit half none full = absurd (full (room_owed (steps.Commit c) (ap is_closed (commit_open half s 0 none)) refl refl))
  no_room_first calls.Abort half none full = absurd (full (room_owed (steps.Abort c) (abort_runs half s 0 none).0 refl refl))
  no_room_first (calls.Help key) half none full = absurd (full (room_for_none n (steps.Double 0) refl owes))
  no_room_first call half none full = (refl, refl)

  no_room_in : (call : Call) (phase : Phase) (step : Step) → SuitsStance s call phase → asked_of (turn_in c call phase) ≡ Some step → (HasRoomFor n step → ⊥) → HasNotBegun c call phase
  no_room_in call Fresh step fits is full = no_room_first call fits.0 fits.1 (subst (λ o. IfSome o (HasRoomFor n) → ⊥) (sym is) full)
  no_room_in call phase step fits is full = absurd (full (subst (λ o. IfSome o (HasRoomFor n)) is (room_in call phase fits)))

pub no_room_starts : (n : Noted) (base : List Entry) (d : Drive) (step : Step) (turn : Turn) → turn ≡ turn_of d → asked_of turn ≡ Some step → is_some (stance_after n.entries) ≡ true → owed_by (stance_after n.entries) ≤ n.room
    → (HasRoomFor n step → ⊥) → IsUnderway base n.entries d → (made d ≡ []) × (may_refuse d.call NoMemory ≡ true)
no_room_starts n base d step turn is asked whole owes full goes =
    let at = some_is (stance_after n.entries) whole in
    no_room_in n (unwrap_or (stance_after n.entries) closed_stance) d.caller at owes d.call d.phase step (subst (λ o. FitsIf o d.call d.phase) at goes.fits) (ap asked_of (sym is) ∙ asked) full

-- If a turn has two steps, the first adds no entry.
abbrev IsSeekIf : Turn → Type 0
IsSeekIf (Two step next) = adds_entry step ≡ false
IsSeekIf turn = Unit {0}

seeks_if : (c : ℕ) (call : Call) (phase : Phase) → IsSeekIf (turn_in c call phase)
seeks_if c call (Seeking work again) = at_paired IsSeekIf again (steps.Seek c) (steps.Act c) tt refl
seeks_if c call (Initialising way again) = at_paired IsSeekIf again (steps.InitSeek c way.bucket) (steps.InitLink c) tt refl
seeks_if c call phase = tt

pub first_room : (n : Noted) (d : Drive) (step next : Step) → Two step next ≡ turn_of d → owed_by (stance_after n.entries) ≤ n.room → HasRoomFor n step
first_room n d step next is owes = room_for_none n step (subst IsSeekIf (sym is) (seeks_if d.caller d.call d.phase)) owes
