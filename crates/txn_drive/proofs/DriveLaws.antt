-- Laws of drives: the entries that their steps add to a history, and the end of an ended drive.
use Rattle.std.proofs.Common.{Bool, ◌≡◌, ◌≢◌, ℕ, nat_lt, true, false, if◌then◌else◌, List, [], ◌∷◌, Option, Some, None}
use Rattle.std.proofs.Common.{eq-eqb, ne_eqb, refl, sym, ap, subst, ◌∙◌}
use Rattle.std.specs.Prelude.{IfSome}
use Rattle.std.specs.List.{AllByRecursion}
use Rattle.txn_words.specs.declared.step.Step.{Step}
use Rattle.txn_words.specs.declared.step.Step.TheVariants.{Begin, Ask, Act, Save, Back, Commit, Abort}
use Rattle.txn_words.specs.declared.answer.Answer.{Answer}
use Rattle.txn_words.specs.declared.entry.Entry.{Entry}
use Rattle.txn_words.specs.declared.answer.Answer.TheVariants as answers
use Rattle.txn_words.specs.declared.refusal.Refusal.TheVariants.{BadKey}
use Rattle.txn_words.specs.Kinds.{caller_of}
use Rattle.txn_words.specs.Shape.{own}
use Rattle.txn_words.specs.Entries.{entries_of}
use Rattle.txn_words.specs.Sizes.{is_bad_key}
use Rattle.txn_drive.specs.declared.call.Call.{Call}
use Rattle.txn_drive.specs.declared.call.Call.TheVariants as calls
use Rattle.txn_drive.specs.declared.drive.Drive.{Drive}
use Rattle.txn_drive.specs.declared.«end».End.{End}
use Rattle.txn_drive.specs.declared.phase.Phase.{Phase}
use Rattle.txn_drive.specs.declared.phase.Phase.TheVariants.{Fresh, Seeking, Acting, Doubling, Initialising, Linking, Storing, Refused}
use Rattle.txn_drive.specs.declared.turn.Turn.{Turn}
use Rattle.txn_drive.specs.declared.turn.Turn.TheVariants.{One, Two, Ended}
use Rattle.txn_drive.specs.Drives.{first_step, step_in, step_of, paired, turn_in, turn_of, sized_in, ended_by, end_of, new_drive}
use Rattle.txn_drive.specs.Made.{made_in, made, IsMade, HasMade}
use Rattle.txn_drive.proofs.MadeLemmas.{ended-turn_of}

paired_on : (again : ℕ) (seeking acting : Step) → ended_by (paired again seeking acting) ≡ None
paired_on again seeking acting = elim (nat_lt again 8) as (λ b. ended_by (if b then One seeking else Two seeking acting) ≡ None) [ true ↦ refl | false ↦ refl ]

goes_on_in : (c : ℕ) (call : Call) (phase : Phase) (step : Step) → step_in c call phase ≡ Some step → ended_by (turn_in c call phase) ≡ None
goes_on_in c call Fresh step is = refl
goes_on_in c call (Seeking work again) step is = paired_on again _ _
goes_on_in c call (Acting work again) step is = refl
goes_on_in c call (Doubling size) step is = refl
goes_on_in c call (Initialising way again) step is = paired_on again _ _
goes_on_in c call (Linking way again) step is = refl
goes_on_in c call (Storing way) step is = refl
goes_on_in c call phase step is = absurd (cc is)

pub goes_on : (drive : Drive) (step : Step) → step_of drive ≡ Some step → end_of drive ≡ None
goes_on drive step is = goes_on_in drive.caller drive.call drive.phase step is

-- An ended drive has added the entries that belong to its end.
made_by_turn : (drive : Drive) (turn : Turn) → HasMade drive turn → IfSome (ended_by turn) (λ outcome. IsMade drive.caller drive.call outcome (made drive))
made_by_turn drive (Ended outcome) has = has
made_by_turn drive (One step) has = tt
made_by_turn drive (Two step next) has = tt

pub made_if_ended : (drive : Drive) → IfSome (end_of drive) (λ outcome. IsMade drive.caller drive.call outcome (made drive))
made_if_ended drive = made_by_turn drive (turn_of drive) (ended-turn_of drive (turn_of drive) refl)

pub made_at_end : (drive : Drive) (outcome : End) → end_of drive ≡ Some outcome → IsMade drive.caller drive.call outcome (made drive)
made_at_end drive outcome is = subst (λ (o : Option End). IfSome o (λ e. IsMade drive.caller drive.call e (made drive))) is (made_if_ended drive)

-- If `ended_by` of a turn is `Some outcome`, the turn is `Ended outcome`.
pub turn_of_end : (turn : Turn) (outcome : End) → ended_by turn ≡ Some outcome → Ended outcome ≡ turn
turn_of_end (Ended other) outcome is = let same : other ≡ outcome = cc is in ap Ended (sym same)
turn_of_end (One step) outcome is = absurd (cc is)
turn_of_end (Two step next) outcome is = absurd (cc is)

-- If the table's size is stored in a phase, the entries that the drive has added do not change.
pub made-sized : (size c : ℕ) (call : Call) (phase : Phase) → made_in c call (sized_in size phase) ≡ made_in c call phase
made-sized size c call (Doubling seen) = refl
made-sized size c call phase = refl

-- A new drive has added no entries.
pub made-new : (half : Bool) (c : ℕ) (call : Call) → made (new_drive half c call) ≡ []
made-new half c (calls.Help key) = elim (is_bad_key half key) as (λ b. made_in c (calls.Help key) (if b then Refused BadKey else Doubling 0) ≡ []) [ true ↦ refl | false ↦ refl ]
made-new half c call = refl

-- The caller `c` takes the step.
abbrev IsBy : ℕ → Step → Type 0
IsBy c (Begin d) = d ≡ c
IsBy c (Ask d op) = d ≡ c
IsBy c (Act d) = d ≡ c
IsBy c (Save d) = d ≡ c
IsBy c (Back d n) = d ≡ c
IsBy c (Commit d) = d ≡ c
IsBy c (Abort d) = d ≡ c
IsBy c step = Unit {0}

abbrev IsByIfAny : ℕ → Option Step → Type 0
IsByIfAny c None = Unit {0}
IsByIfAny c (Some step) = IsBy c step

by_first : (c : ℕ) (call : Call) → IsBy c (first_step c call)
by_first c calls.Begin = refl
by_first c (calls.Op op) = refl
by_first c calls.Save = refl
by_first c (calls.Back n) = refl
by_first c calls.Commit = refl
by_first c calls.Abort = refl
by_first c (calls.Help key) = tt

by_caller : (c : ℕ) (call : Call) (phase : Phase) → IsByIfAny c (step_in c call phase)
by_caller c call Fresh = by_first c call
by_caller c call (Acting work again) = refl
by_caller c call phase = tt

entries_by : (c : ℕ) (step : Step) (answer : Answer) → IsBy c step → AllByRecursion (λ e. caller_of e ≡ c) (entries_of step answer)
entries_by c (Begin d) (answers.Began t) by = (by, tt)
entries_by c (Ask d op) answers.Asked by = (by, tt)
entries_by c (Ask d op) (answers.Busy x) by = (by, tt)
entries_by c (Act d) (answers.Done reply) by = (by, tt)
entries_by c (Act d) answers.Undone by = (by, tt)
entries_by c (Act d) (answers.Returned n) by = (by, tt)
entries_by c (Act d) answers.Aborted by = (by, tt)
entries_by c (Save d) (answers.Saved n) by = (by, tt)
entries_by c (Back d n) answers.Leaving by = (by, tt)
entries_by c (Commit d) (answers.Committed p) by = (by, tt)
entries_by c (Abort d) answers.Leaving by = (by, tt)
entries_by c step answer by = tt

pub entries_callers : (drive : Drive) (step : Step) (answer : Answer) → step_of drive ≡ Some step → AllByRecursion (λ e. caller_of e ≡ drive.caller) (entries_of step answer)
entries_callers drive step answer is = entries_by drive.caller step answer (subst (IsByIfAny drive.caller) is (by_caller drive.caller drive.call drive.phase))

-- If all entries of a list belong to one caller, this caller's own entries are the whole list.
-- Another caller has no own entry in the list.
pub own_all : (c : ℕ) (es : List Entry) → AllByRecursion (λ e. caller_of e ≡ c) es → own c es ≡ es
own_all c [] all = refl
own_all c (e ∷ es) all = rw (eq-eqb (caller_of e) c all.0, own_all c es all.1)

pub own_none : (c d : ℕ) (es : List Entry) → d ≢ c → AllByRecursion (λ e. caller_of e ≡ c) es → own d es ≡ []
own_none c d [] other all = refl
own_none c d (e ∷ es) other all = rw (ne_eqb (caller_of e) d (λ is. other (sym is ∙ all.0))) (own_none c d es other all.1)
