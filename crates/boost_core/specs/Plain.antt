-- PROMISES each-step-is-a-move-of-the-machine: Operates, Helps, Returns, Aborts
-- The plain calls. Each takes steps of one caller in a row, and no step has the answer `Again`.
use Rattle.std.specs.Prelude.{◌≡◌, ℕ, ◌%◌, zero, suc, Bool, true, false, nat_le, List, [], ◌∷◌, Option, Some, Result, Ok, Err}
use Rattle.boost_core.specs.Vocabulary.{Op, Step, Ask, Seek, Act, Back, Abort, Answer, Refusal, NoSuchHelper, BadKey, NoMemory, StampsUsedUp}
use Rattle.txn_drive.specs.declared.call.Call.TheVariants as calls
use Rattle.txn_drive.specs.declared.drive.Drive.{Drive}
use Rattle.txn_drive.specs.declared.«end».End.{End}
use Rattle.txn_drive.specs.Drives.{new_drive, sized_of, step_of, told_of, end_of}
use Rattle.boost_core.specs.State.{State, stance_in, is_set}
use Rattle.boost_core.specs.Answers.{is_at_end}
use Rattle.boost_core.specs.Machine.{Happens, Moves}

-- A caller does an operation by the steps `Ask`, `Seek` and `Act`. If `Ask` has an answer other
-- than `Asked`, no other step is taken.
abbrev pub Operates : State → ℕ → Op → Answer → State → Type 0
Operates old c op Answer.Asked new = ⊥
Operates old c op (Answer.Done reply) new =
    Moves old (Ask c op ∷ Seek c ∷ Act c ∷ [])
    (Answer.Asked ∷ Answer.Placed ∷ Answer.Done reply ∷ []) new
Operates old c op answer new = Happens old (Ask c op) answer new

-- The steps that take back this number of changes, followed by the given steps. Each change needs
-- the steps `Seek` and `Act`.
abbrev pub undoing : ℕ → ℕ → List Step → List Step
undoing zero c steps = steps
undoing (suc changes) c steps = undoing changes c (Seek c ∷ Act c ∷ steps)

-- The answers to the steps of `undoing`: `Placed` and `Undone` for each change, and then the given
-- answers.
abbrev pub undone : ℕ → List Answer → List Answer
undone zero others = others
undone (suc changes) others = undone changes (Answer.Placed ∷ Answer.Undone ∷ others)

-- The caller takes back some number of changes. A last step `Act`, with this answer, then ends the
-- return or the abort.
abbrev pub Ends : State → ℕ → Answer → State → Type 0
Ends old c answer new =
    (changes : ℕ) × Moves old (undoing changes c (Act c ∷ [])) (undone changes (answer ∷ [])) new

-- A caller returns to a level. It takes the step `Back`, and then takes back its changes down to
-- the level. If `Back` has an answer other than `Leaving`, no other step is taken.
abbrev pub Returns : State → ℕ → ℕ → Answer → State → Type 0
Returns old c n Answer.Leaving new = ⊥
Returns old c n (Answer.Returned m) new =
    (m ≡ n) × (left : State) × Happens old (Back c n) Answer.Leaving left
    × Ends left c (Answer.Returned m) new
Returns old c n answer new = Happens old (Back c n) answer new

-- A caller starts its abort with the step `Abort`. If the Boolean is true, the caller is aborting
-- already, and no step is taken.
abbrev pub Leaves : Bool → State → ℕ → State → Type 0
Leaves true old c left = left ≡ old
Leaves false old c left = Happens old (Abort c) Answer.Leaving left

-- A caller aborts. It takes the step `Abort`, unless it is aborting already, and then takes back
-- all its changes. If `Abort` has an answer other than `Leaving`, no other step is taken.
abbrev pub Aborts : State → ℕ → Answer → State → Type 0
Aborts old c Answer.Leaving new = ⊥
Aborts old c Answer.Aborted new =
    (left : State) × Leaves (is_at_end (stance_in old.history c).phase) old c left
    × Ends left c Answer.Aborted new
Aborts old c answer new =
    (is_at_end (stance_in old.history c).phase ≡ false) × Happens old (Abort c) answer new

-- A drive makes this number of moves in a row. Each move takes the step that the drive names, given
-- the table's size. The drive is then given the answer.
abbrev pub Drives : ℕ → Drive → State → Drive → State → Type 0
Drives zero drive old last new = (last ≡ drive) × (new ≡ old)
Drives (suc moves) drive old last new =
    (step : Step) × (answer : Answer) × (between : State)
    × (step_of (sized_of old.size drive) ≡ Some step) × Happens old step answer between
    × Drives moves (told_of (sized_of old.size drive) answer) between last new

-- A caller's call for help, from its first move until it ends with `outcome`.
pub record HelpsTo (outcome : End) (old : State) (c key : ℕ) (new : State) : Type 0 where
  pub moves : ℕ
  pub last : Drive
  pub drives : Drives moves (new_drive old.limits.half c (calls.Help key)) old last new
  pub ended : end_of last ≡ Some outcome

-- A caller's call for help. If it succeeds, the key's bucket is initialised. At its beginning it
-- may be refused because of its key, and later only for lack of memory or of stamps. If there is no
-- caller with this number, no step is taken.
abbrev pub Helps : State → ℕ → ℕ → Result Unit Refusal → State → Type 0
Helps old c key (Ok done) new =
    HelpsTo End.Helped old c key new × (is_set new.stored (key % new.size) ≡ true)
Helps old c key (Err NoSuchHelper) new = (nat_le old.limits.callers c ≡ true) × (new ≡ old)
Helps old c key (Err BadKey) new = HelpsTo (End.Refused BadKey) old c key new
Helps old c key (Err NoMemory) new = HelpsTo (End.Refused NoMemory) old c key new
Helps old c key (Err StampsUsedUp) new = HelpsTo (End.Refused StampsUsedUp) old c key new
Helps old c key (Err refusal) new = ⊥

-- The result of a call for help, given the end of its drive.
abbrev pub outcome_of : Option End → Result Unit Refusal
outcome_of (Some (End.Refused refusal)) = Err refusal
outcome_of outcome = Ok tt
