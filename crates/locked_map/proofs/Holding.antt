-- Shows that a call in progress goes on after each step and each hold, in step with the core if it was
-- so, because a step's answer is told to the drive together with its entries.
use Rattle.std.proofs.Common.{if◌then◌else◌, ℕ, ◌++◌, ◌∙◌, ◌≡◌, List, None, Option, Some, ap, append_assoc, false, is_some, nat_lt, refl}
use Rattle.std.proofs.Common.{subst, sym, true, unwrap_or, [], ◌||◌, ◌≢◌, Bool, IfSome, inl, inr, not}
use Rattle.locked_map.specs.Vocabulary.{Answer, Call, Doubling, Drive, Entry, Initialising, One, Phase, Stance, Seeking, Sizes, State, Step}
use Rattle.locked_map.specs.Vocabulary.{Turn, Two, closed_stance, entries_of, made, stance_after, sized_in, sized_of, step_in, step_of, told_in}
use Rattle.locked_map.specs.Vocabulary.{told_of, turn_in, turn_of, CommitNothing, End, First, Helped, IsQuiet, IsShaped, Last, Lost}
use Rattle.locked_map.specs.Vocabulary.{NoMemory, OutOfStep, Refused, end_of, ended_by, stance_in}
use Rattle.locked_map.proofs.Vocabulary.{false≢true, goes_on, has_stance}
use Rattle.txn_drive.specs.Drives.{paired}
use Rattle.txn_drive.proofs.DriveLaws.{made-sized, made_at_end}
use Rattle.txn_drive.proofs.MadeLemmas.{made-told_of}
use Rattle.locked_map.proofs.Phases.{fits_told, stance_on, stance_on_more, stance_told, some_is}
use Rattle.locked_map.specs.Claims.{Trial}
use Rattle.locked_map.specs.Holds.{FitsIf, IsUnderway, TakesSecond, GoesTo, HasRun, Held, HeldBy, How, InStep, MayEnd, end_in, is_out}
use Rattle.locked_map.specs.Holds.{odd_if, out_if}
use Rattle.locked_map.specs.Suits.{SuitsStance, IsInStep, IsSized, Suits, is_odd, may_refuse}
use Rattle.std.proofs.lemmas.Bool.{or_parts}
use Rattle.txn_drive.proofs.Quiet.{going_quiet, made_quiet}
use Rattle.locked_map.specs.Tokens.{Token}
use Rattle.txn_words.specs.declared.answer.Answer.TheVariants as answers
use Rattle.txn_words.specs.declared.step.Step.TheVariants as steps
use Rattle.txn_drive.specs.declared.call.Call.TheVariants as calls
use Rattle.txn_drive.specs.declared.«end».End.TheVariants as ends

-- If a statement holds for the turn with only the seek, and for the turn with the seek and the act,
-- it holds for the turn that `paired` gives.
pub at_paired : (P : Turn → Type 0) (again : ℕ) (seeking acting : Step) → P (One seeking) → P (Two seeking acting) → P (paired again seeking acting)
at_paired P again seeking acting one two = elim (nat_lt again 8) as (λ b. P (if b then One seeking else Two seeking acting)) [ true ↦ one | false ↦ two ]

fits_on : (s : Stance) (d : Drive) (step : Step) (a : Answer) (o : Option Stance) → step_of d ≡ Some step → SuitsStance s d.call d.phase → stance_on s (entries_of step a) ≡ o → FitsIf o d.call (told_in d.call d.phase a)
fits_on s d step a None is fits on = tt
fits_on s d step a (Some next) is fits on = fits_told s next d.caller d.call d.phase a fits (ap (λ t. stance_told s t a) is ∙ on)

pub goes_told : (base seen seen' : List Entry) (d e : Drive) (step : Step) (a : Answer) → step_of d ≡ Some step → is_some (stance_after seen) ≡ true → seen' ≡ seen ++ entries_of step a → e ≡ told_of d a
    → IsUnderway base seen d → IsUnderway base seen' e
goes_told base seen seen' d e step a is whole seen_is told goes =
    let es = entries_of step a in
    let s = unwrap_or (stance_after seen) closed_stance in
    let stance : stance_after seen ≡ Some s = some_is (stance_after seen) whole in
    rw (seen_is, told) (record {
      entries = ap (λ h. h ++ es) goes.entries ∙ append_assoc base (made d) es ∙ ap (λ h. base ++ h) (sym (made-told_of d step a is));
      fits = subst (λ o. FitsIf o d.call (told_in d.call d.phase a)) (sym (stance_on_more seen es s stance)) (fits_on s d step a (stance_on s es) is (subst (λ o. FitsIf o d.call d.phase) stance goes.fits) refl);
    })

second_in : (size c : ℕ) (call : Call) (phase : Phase) (step next : Step) → turn_in c call phase ≡ Two step next → (step_in c call (told_in call phase answers.Placed) ≡ Some next) × IsSized size (told_in call phase answers.Placed)
second_in size c call (Seeking work again) step next = at_paired (λ t. t ≡ Two step next → (Some (steps.Act c) ≡ Some next) × Unit) again (steps.Seek c) (steps.Act c) (λ is. absurd (cc is)) (λ is. (cc is, tt))
second_in size c call (Initialising way again) step next =
    at_paired (λ t. t ≡ Two step next → (Some (steps.InitLink c) ≡ Some next) × Unit) again (steps.InitSeek c way.bucket) (steps.InitLink c) (λ is. absurd (cc is)) (λ is. (cc is, tt))
second_in size c call phase step next = λ is. absurd (cc is)

pub second_of : (size : ℕ) (d e : Drive) (a : Answer) (step next : Step) → Two step next ≡ turn_of d → e ≡ told_of d a → a ≡ answers.Placed → (step_of e ≡ Some next) × IsSized size e.phase
second_of size d e a step next is told placed =
    subst (λ x. (step_of x ≡ Some next) × IsSized size x.phase) (sym (told ∙ ap (told_of d) placed)) (second_in size d.caller d.call d.phase step next (sym is))

-- A turn of two steps is the same for each size of the table.
pub two_again : (size c : ℕ) (call : Call) (phase : Phase) (first second : Step) → Two first second ≡ turn_in c call phase → turn_in c call (sized_in size phase) ≡ Two first second
two_again size c call (Doubling seen) first second is = absurd (cc is)
two_again size c call phase first second is = sym is

pub no_second : (tried : Option Trial) (m : State) (seen : List Entry) (d : Drive) (next : Step) (a : Answer) → (a ≡ answers.Placed → ⊥) → TakesSecond tried m seen d next a m seen d
no_second tried m seen d next answers.Placed not_so = absurd (not_so refl)
no_second tried m seen d next a not_so = (refl, refl, refl)

-- After its drive has noted the core's size, a call is still in progress, and still in step with
-- the core.
pub goes_sized : (base seen : List Entry) (d e : Drive) (size : ℕ) → e ≡ sized_of size d → IsUnderway base seen d → IsUnderway base seen e
goes_sized base seen d e size is goes = rw is (record {
  entries = goes.entries ∙ ap (λ h. base ++ h) (sym (made-sized size d.caller d.call d.phase));
  fits = at (stance_after seen) d.phase goes.fits;
})
  where
    at : (o : Option Stance) (phase : Phase) → FitsIf o d.call phase → FitsIf o d.call (sized_in size phase)
    at None phase fits = tt
    at (Some s) (Doubling seen) fits = tt
    at (Some s) phase fits = fits

pub in_step_sized : (m : State) (limits : Sizes) (c : ℕ) (seen : List Entry) (d e : Drive) (size : ℕ) → size ≡ m.size → e ≡ sized_of size d → IsInStep m limits c seen d → IsSized m.size e.phase × IsInStep m limits c seen e
in_step_sized m limits c seen d e size size_is is ins = rw (is, size_is) (at d.phase ins)
  where
    at : (phase : Phase) → IsInStep m limits c seen (record d { phase = phase }) → IsSized m.size (sized_in m.size phase) × IsInStep m limits c seen (record d { phase = sized_in m.size phase })
    at (Doubling size) ins = (refl, record { same_limits = ins.same_limits; within = ins.within; same = ins.same; mine = ins.mine; suits = ins.suits; few = ins.few })
    at phase ins = (tt, ins)

-- No call may have `OutOfStep` as the end of its drive.
no_out : (call : Call) → is_odd call (ends.Refused OutOfStep) ≡ true
no_out calls.Begin = refl
no_out call = refl

plain_end : (call : Call) (outcome : End) (es : List Entry) → is_odd call outcome ≡ false → MayEnd call outcome × IsQuiet outcome es × (false ≡ is_out outcome)
plain_end call (ends.Refused OutOfStep) es plain = absurd (false≢true (sym plain ∙ no_out call))
plain_end call (ends.Refused r) es plain = (plain, tt, refl)
plain_end call outcome es plain = (plain, tt, refl)

-- A call that ends with `OutOfStep` has committed nothing. If a drive has an end that its call must
-- not have (`is_odd`), it has also committed nothing.
pub out_run : (base seen : List Entry) (e : Drive) → IsUnderway base seen e → (is_some (stance_after seen) ≡ true → CommitNothing (made e)) → HasRun base seen e.caller e.call (ends.Refused OutOfStep)
out_run base seen e goes quiet = record { added = made e; entries = goes.entries; made = tt; may = tt; quiet = quiet }

odd_quiet : (e : Drive) (end : Option End) → end_of e ≡ end → odd_if e.call end ≡ true → CommitNothing (made e)
odd_quiet e end is odd = elim (made_quiet e) [
  | inl quiet ↦ quiet
  | inr committed ↦ absurd (false≢true (sym (ap (odd_if e.call) (sym is ∙ committed.1)) ∙ odd))
]

goes_end : (base seen : List Entry) (e : Drive) (b : Bool) (end : Option End) → end_of e ≡ end → IsUnderway base seen e → (b ≡ false → odd_if e.call end ≡ false)
    → (b ≡ true → is_some (stance_after seen) ≡ true → odd_if e.call end ≡ true) → GoesTo base seen e (end_in b end)
goes_end base seen e true end is goes plain odd = out_run base seen e goes (λ whole. odd_quiet e end is (odd refl whole))
goes_end base seen e false None is goes plain odd = record { on = goes; quiet = going_quiet e is }
goes_end base seen e false (Some outcome) is goes plain odd =
    let end = plain_end e.call outcome (made e) (plain refl) in
    record { added = made e; entries = goes.entries; made = made_at_end e outcome is; may = end.0; quiet = λ whole. end.1 }

pub goes_held : (base seen : List Entry) (e : Drive) (b whole : Bool) (end r : Option End) → whole ≡ is_some (stance_after seen) → end ≡ end_of e → b ≡ (not whole || odd_if e.call end) → r ≡ end_in b end
    → IsUnderway base seen e → GoesTo base seen e r
goes_held base seen e b whole end r whole_is is broken ends goes =
    subst (GoesTo base seen e) (sym ends) (
    goes_end base seen e b end (sym is) goes (λ no. (or_parts (not whole) (odd_if e.call end) (sym broken ∙ no)).1)
    (λ yes has. let at : whole ≡ true = whole_is ∙ has in sym (sym yes ∙ broken ∙ (λ i. not (at i) || odd_if e.call end))))

suits_plain_in : (m : State) (s : Stance) (c : ℕ) (call : Call) (phase : Phase) → Suits m s c call phase → odd_if call (ended_by (turn_in c call phase)) ≡ false
suits_plain_in m s c call (First a) suits = suits
suits_plain_in m s c call (Last work a) suits = suits
suits_plain_in m s c call (Lost work) suits = absurd suits.1
suits_plain_in m s c (calls.Help key) Helped suits = refl
suits_plain_in m s c call Helped suits = absurd (false≢true suits.0)
suits_plain_in m s c call (Refused r) suits = suits
suits_plain_in m s c call phase suits = ap (odd_if call) (goes_on (record { caller = c; call = call; phase = phase }) _ refl)

not_out : (call : Call) (o : Option End) → odd_if call o ≡ false → IfSome o (λ e. e ≢ ends.Refused OutOfStep)
not_out call None plain = tt
not_out call (Some outcome) plain = λ is. false≢true (sym plain ∙ ap (is_odd call) is ∙ no_out call)

pub no_room_run : (base seen seen' : List Entry) (d e : Drive) → seen' ≡ seen → e ≡ d → (made d ≡ []) × (may_refuse d.call NoMemory ≡ true) → IsUnderway base seen d → HasRun base seen' e.caller e.call (ends.Refused NoMemory)
no_room_run base seen seen' d e same is starts goes = rw is (record { added = []; entries = cc; made = refl; may = ap not starts.1; quiet = λ whole. tt })

-- A hold first gives its drive the core's size, which turns `d` into `d'`. So `HeldBy` from `d'`
-- implies `Held` from `d`.
pub held_sized : {S : Type 0} (how : How) (m n : State) (k l : Token S) (d d' e : Drive) (size : ℕ) (r : Option End) → size ≡ m.size → d' ≡ sized_of size d → HeldBy how m k d' r n l e → Held m k d r n l e
held_sized how m n k l d d' e size r size_is is held = (how, subst (λ x. HeldBy how m k x r n l e) (is ∙ ap (λ z. sized_of z d) size_is) held)

pub other_in_step : {S : Type 0} (m : State) (t k : Token S) (d : Drive) → t ≡ k → (m.limits.stripes ≡ t.limits.stripes → ⊥) → InStep m k d → ⊥
other_in_step {S} m t k d view other ins = other (ap (λ (z : Sizes). z.stripes) (ins.1.same_limits ∙ ap (λ (x : Token S). x.limits) (sym view)))

-- If a core and a token are in step after a turn, the token is not broken, and the hold does not
-- end with `OutOfStep`.
pub held_in_step : (n : State) (limits : Sizes) (number : ℕ) (seen : List Entry) (b : Bool) (e : Drive) (end r : Option End) (whole : Bool) → IsInStep n limits number seen e → IsShaped n.history
    → whole ≡ is_some (stance_after seen) → end ≡ end_of e → b ≡ (not whole || odd_if e.call end) → r ≡ end_in b end → ((b ≡ false) × IsInStep n limits number seen e) × IfSome r (λ x. x ≢ ends.Refused OutOfStep)
held_in_step n limits number seen b e end r whole ins shape whole_is end_is broken ends_is =
    let stance : whole ≡ true = whole_is ∙ ap (λ h. is_some (stance_after h)) (sym ins.same) ∙ has_stance n.history shape number in
    let suits = subst (λ w. Suits n (stance_in n.history number) w e.call e.phase) (sym ins.mine) ins.suits in
    let plain : odd_if e.call end ≡ false = ap (odd_if e.call) end_is ∙ suits_plain_in n (stance_in n.history number) e.caller e.call e.phase suits in
    let sound : b ≡ false = broken ∙ (λ i. not (stance i) || plain i) in
    ((sound, ins), subst (λ o. IfSome o (λ x. x ≢ ends.Refused OutOfStep)) (sym (ends_is ∙ ap (λ x. end_in x end) sound)) (not_out e.call end plain))

-- A token breaks exactly if its hold ends with `OutOfStep`.
pub broken_ends : (b whole : Bool) (call : Call) (end r : Option End) → b ≡ (not whole || odd_if call end) → r ≡ end_in b end → b ≡ out_if r
broken_ends true whole call end r broken ends_so = ap out_if (sym ends_so)
broken_ends false whole call None r broken ends_so = ap out_if (sym ends_so)
broken_ends false whole call (Some outcome) r broken ends_so = (plain_end call outcome [] (or_parts (not whole) (is_odd call outcome) (sym broken)).1).2 ∙ ap out_if (sym ends_so)
