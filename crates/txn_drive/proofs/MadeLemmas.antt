-- Shows that a drive has added just the entries of its answers, because its phase notes how many
-- changes were taken back, and that at its end these are the entries of the end.
use Rattle.std.proofs.Common.{◌≡◌, ℕ, ◌+◌, ◌-◌, ◌^◌, ◌%◌, ◌==◌, nat_lt, ◌&&◌, Bool, true, false, if◌then◌else◌, List, [], ◌∷◌, ◌++◌, Option, Some, None, refl, sym, ap, ◌∙◌, subst, append_assoc}
use Rattle.std.proofs.lemmas.Bool.{eqb-true}
use Rattle.std.proofs.lemmas.List.{append-nil, replicate_more}
use Rattle.txn_words.specs.declared.step.Step.{Step}
use Rattle.txn_words.specs.declared.step.Step.TheVariants.{Act}
use Rattle.txn_words.specs.declared.answer.Answer.{Answer}
use Rattle.txn_words.specs.declared.answer.Answer.TheVariants as answers
use Rattle.txn_words.specs.declared.entry.Entry.{Entry}
use Rattle.txn_words.specs.declared.entry.Entry.TheVariants as entries
use Rattle.txn_words.specs.declared.refusal.Refusal.{Refusal}
use Rattle.txn_words.specs.declared.refusal.Refusal.TheVariants.{OutOfStep, NothingToSeek, NoMemory, StampsUsedUp}
use Rattle.txn_drive.specs.declared.call.Call.{Call}
use Rattle.txn_drive.specs.declared.call.Call.TheVariants as calls
use Rattle.txn_drive.specs.declared.drive.Drive.{Drive}
use Rattle.txn_drive.specs.declared.«end».End.TheVariants as ends
use Rattle.txn_drive.specs.declared.phase.Phase.{Phase}
use Rattle.txn_drive.specs.declared.phase.Phase.TheVariants.{Fresh, Seeking, Acting, Doubling, Initialising, Linking, Storing, First, Last, Helped, Refused}
use Rattle.txn_drive.specs.declared.phase.Work.{Work}
use Rattle.txn_drive.specs.declared.phase.Work.TheVariants.{Operation, Busy, Leaving}
use Rattle.txn_drive.specs.declared.turn.Turn.{Turn}
use Rattle.txn_drive.specs.declared.turn.Turn.TheVariants.{One, Two}
use Rattle.txn_drive.specs.declared.way.Way.{Way}
use Rattle.txn_drive.specs.Ways.{child_towards}
use Rattle.txn_drive.specs.Drives.{first_step, step_in, step_of, end_first, end_returned, end_last, end_helped, paired, turn_in, turn_of, told_first, told_seek, counted, undone_more, told_act, towards, heading, refused_help, told_help, told_double, told_init_seek, told_link, told_store, told_in, told_of}
use Rattle.txn_words.specs.Entries.{entries_of}
use Rattle.txn_drive.specs.Made.{undone_by, entered_by, made_by, made_in, made, MakesNone, IsMade, HasMade}

-- After its first step, a call has added exactly the entries of that step.
made-told_first : (c : ℕ) (call : Call) (a : Answer) → made_in c call (told_first call a) ≡ entries_of (first_step c call) a
made-told_first c calls.Begin (answers.Began t) = refl
made-told_first c (calls.Op op) answers.Asked = refl
made-told_first c (calls.Op op) (answers.Busy x) = refl
made-told_first c calls.Save (answers.Saved n) = refl
made-told_first c (calls.Back n) answers.Leaving = refl
made-told_first c calls.Commit (answers.Committed p) = refl
made-told_first c calls.Abort answers.Leaving = refl
made-told_first c call a = refl

-- A seek adds no entry.
made-told_seek : (c : ℕ) (call : Call) (work : Work) (again : ℕ) (a : Answer) → made_in c call (told_seek work again a) ≡ made_by c call work
made-told_seek c call work again answers.Placed = refl
made-told_seek c call Operation again (answers.Refused r) = refl
made-told_seek c call work again (answers.Refused NothingToSeek) = refl
made-told_seek c call work again a = refl

-- Taking back one more change adds one `Undone` entry.
made-counted : (c : ℕ) (call : Call) (undone : ℕ) (more work : Work) → made_by c call more ≡ made_by c call work ++ entries.Undone c ∷ []
    → made_in c call (counted undone more work) ≡ made_by c call work ++ entries.Undone c ∷ []
made-counted c call undone more work is =
    elim (nat_lt undone (2 ^ 64 - 1)) as (λ b. made_in c call (if b then Seeking more 0 else Last work answers.Undone) ≡ made_by c call work ++ entries.Undone c ∷ []) [
      | true ↦ is
      | false ↦ refl
    ]

one_undone_more : (c : ℕ) (opening : List Entry) (undone : ℕ) → opening ++ undone_by c (undone + 1) ≡ opening ++ undone_by c undone ++ entries.Undone c ∷ []
one_undone_more c opening undone = ap (λ h. opening ++ h) (sym (replicate_more undone (entries.Undone c))) ∙ sym (append_assoc opening (undone_by c undone) (entries.Undone c ∷ []))

made-undone_more : (c : ℕ) (call : Call) (work : Work) → made_in c call (undone_more work) ≡ made_by c call work ++ entries.Undone c ∷ []
made-undone_more c call Operation = refl
made-undone_more c call (Busy x k) = made-counted c call k (Busy x (k + 1)) (Busy x k) (more_busy c call x k)
  where
    more_busy : (c : ℕ) (call : Call) (x k : ℕ) → made_by c call (Busy x (k + 1)) ≡ made_by c call (Busy x k) ++ entries.Undone c ∷ []
    more_busy c (calls.Op op) x k = one_undone_more c (entries.Busy c op x ∷ []) k
    more_busy c call x k = one_undone_more c [] k
made-undone_more c call (Leaving k) = made-counted c call k (Leaving (k + 1)) (Leaving k) (more_leaving c call k)
  where
    more_leaving : (c : ℕ) (call : Call) (k : ℕ) → made_by c call (Leaving (k + 1)) ≡ made_by c call (Leaving k) ++ entries.Undone c ∷ []
    more_leaving c (calls.Back n) k = one_undone_more c (entries.Leave c (Some n) ∷ []) k
    more_leaving c calls.Abort k = one_undone_more c (entries.Leave c None ∷ []) k
    more_leaving c call k = one_undone_more c [] k

made-told_act : (c : ℕ) (call : Call) (work : Work) (again : ℕ) (a : Answer) → made_in c call (told_act work again a) ≡ made_by c call work ++ entries_of (Act c) a
made-told_act c call work again answers.Again = sym (append-nil (made_by c call work))
made-told_act c call work again answers.Undone = made-undone_more c call work
made-told_act c call work again a = refl

-- A helper adds no entry.
made-towards : (c : ℕ) (call : Call) (last bucket : ℕ) → made_in c call (towards last bucket) ≡ []
made-towards c call last bucket =
    elim (last == bucket) as (λ b. made_in c call (if b then Helped else Initialising (record { bucket = child_towards last bucket; target = bucket }) 0) ≡ []) [
      | true ↦ refl
      | false ↦ refl
    ]

made-heading : (c : ℕ) (call : Call) (key size : ℕ) → made_in c call (heading key size) ≡ []
made-heading c call key size =
    elim (nat_lt 0 size && nat_lt size (2 ^ 32)) as (λ b. made_in c call (if b then towards 0 (key % size) else Refused OutOfStep) ≡ []) [
      | true ↦ made-towards c call 0 (key % size)
      | false ↦ refl
    ]

made-refused_help : (c : ℕ) (call : Call) (r : Refusal) → made_in c call (refused_help r) ≡ []
made-refused_help c call NoMemory = refl
made-refused_help c call StampsUsedUp = refl
made-refused_help c call r = refl

made-told_help : (c : ℕ) (call : Call) (key seen : ℕ) (a : Answer) → made_in c call (told_help key seen a) ≡ []
made-told_help c call key seen (answers.Moved size) = made-heading c call key size
made-told_help c call key seen (answers.Doubled size) = made-heading c call key size
made-told_help c call key seen answers.AtLimit = made-heading c call key seen
made-told_help c call key seen answers.Light = made-heading c call key seen
made-told_help c call key seen (answers.Refused r) = made-refused_help c call r
made-told_help c call key seen a = refl

made-told_double : (c : ℕ) (call other : Call) (seen : ℕ) (a : Answer) → made_in c call (told_double other seen a) ≡ []
made-told_double c call (calls.Help key) seen a = made-told_help c call key seen a
made-told_double c call other seen a = refl

made-told_init_seek : (c : ℕ) (call : Call) (way : Way) (again : ℕ) (a : Answer) → made_in c call (told_init_seek way again a) ≡ []
made-told_init_seek c call way again answers.Ready = made-towards c call way.bucket way.target
made-told_init_seek c call way again answers.Placed = refl
made-told_init_seek c call way again (answers.Refused r) = made-refused_help c call r
made-told_init_seek c call way again a = refl

made-told_link : (c : ℕ) (call : Call) (way : Way) (again : ℕ) (a : Answer) → made_in c call (told_link way again a) ≡ []
made-told_link c call way again answers.Again = refl
made-told_link c call way again answers.Present = refl
made-told_link c call way again answers.Linked = refl
made-told_link c call way again (answers.Refused r) = made-refused_help c call r
made-told_link c call way again a = refl

made-told_store : (c : ℕ) (call : Call) (way : Way) (a : Answer) → made_in c call (told_store way a) ≡ []
made-told_store c call way answers.Stored = made-towards c call way.bucket way.target
made-told_store c call way (answers.Refused r) = made-refused_help c call r
made-told_store c call way a = refl

-- The entries that a phase's step adds with this answer. A phase without a step adds none.
abbrev added : Option Step → Answer → List Entry
added (Some step) a = entries_of step a
added None a = []

made-told_by : (c : ℕ) (call : Call) (phase : Phase) (step : Step) (a : Answer) → step_in c call phase ≡ Some step
    → made_in c call (told_in call phase a) ≡ made_in c call phase ++ added (step_in c call phase) a
made-told_by c call Fresh step a is = made-told_first c call a
made-told_by c call (Seeking work again) step a is = made-told_seek c call work again a ∙ sym (append-nil (made_by c call work))
made-told_by c call (Acting work again) step a is = made-told_act c call work again a
made-told_by c call (Doubling seen) step a is = made-told_double c call call seen a
made-told_by c call (Initialising way again) step a is = made-told_init_seek c call way again a
made-told_by c call (Linking way again) step a is = made-told_link c call way again a
made-told_by c call (Storing way) step a is = made-told_store c call way a
made-told_by c call phase step a is = absurd (cc is)

made-told_in : (c : ℕ) (call : Call) (phase : Phase) (step : Step) (a : Answer) → step_in c call phase ≡ Some step
    → made_in c call (told_in call phase a) ≡ made_in c call phase ++ entries_of step a
made-told_in c call phase step a is =
    made-told_by c call phase step a is ∙ ap (λ named. made_in c call phase ++ added named a) is

pub made-told_of : (d : Drive) (step : Step) (a : Answer) → step_of d ≡ Some step → made (told_of d a) ≡ made d ++ entries_of step a
made-told_of d step a is = made-told_in d.caller d.call d.phase step a is

ended-refused : (r : Refusal) → MakesNone r []
ended-refused OutOfStep = tt
ended-refused r = refl

ended-first : (c : ℕ) (call : Call) (a : Answer) → IsMade c call (end_first call a) (entered_by c call a)
ended-first c calls.Begin (answers.Began t) = refl
ended-first c calls.Save (answers.Saved n) = refl
ended-first c calls.Commit (answers.Committed p) = refl
ended-first c call (answers.Refused r) = ended-refused r
ended-first c call a = tt

ended-returned : (c level reached undone : ℕ) → IsMade c (calls.Back level) (end_returned level reached) (made_by c (calls.Back level) (Leaving undone) ++ entries.Returned c reached ∷ [])
ended-returned c level reached undone = ends_so (reached == level) refl
  where
    ends_so : (b : Bool) → (reached == level) ≡ b → IsMade c (calls.Back level) (if b then ends.Answered (answers.Returned reached) else ends.Refused OutOfStep) (made_by c (calls.Back level) (Leaving undone) ++ entries.Returned c reached ∷ [])
    ends_so true is = let same = eqb-true reached level is in (same, (undone, ap (λ n. entries.Leave c (Some level) ∷ undone_by c undone ++ entries.Returned c n ∷ []) same))
    ends_so false is = tt

ended-last : (c : ℕ) (call : Call) (work : Work) (a : Answer) → IsMade c call (end_last call work a) (made_by c call work ++ entries_of (Act c) a)
ended-last c (calls.Op op) Operation (answers.Done reply) = refl
ended-last c (calls.Op op) (Busy x k) answers.Aborted = (k, refl)
ended-last c (calls.Back level) (Leaving k) (answers.Returned reached) = ended-returned c level reached k
ended-last c calls.Abort (Leaving k) answers.Aborted = (k, refl)
ended-last c call work a = tt

ended-helped : (c : ℕ) (call : Call) → IsMade c call (end_helped call) []
ended-helped c (calls.Help key) = refl
ended-helped c call = tt

ended-paired : (d : Drive) (again : ℕ) (seeking acting : Step) → HasMade d (paired again seeking acting)
ended-paired d again seeking acting =
    elim (nat_lt again 8) as (λ b. HasMade d (if b then One seeking else Two seeking acting)) [ true ↦ tt | false ↦ tt ]

ended-turn_in : (c : ℕ) (call : Call) (phase : Phase) → HasMade (record { caller = c; call = call; phase = phase }) (turn_in c call phase)
ended-turn_in c call (Seeking work again) = ended-paired (record { caller = c; call = call; phase = Seeking work again }) again _ _
ended-turn_in c call (Initialising way again) = ended-paired (record { caller = c; call = call; phase = Initialising way again }) again _ _
ended-turn_in c call (First a) = ended-first c call a
ended-turn_in c call (Last work a) = ended-last c call work a
ended-turn_in c call Helped = ended-helped c call
ended-turn_in c call (Refused r) = ended-refused r
ended-turn_in c call phase = tt

pub ended-turn_of : (d : Drive) (turn : Turn) → turn ≡ turn_of d → HasMade d turn
ended-turn_of d turn is = let P : Turn → Type 0 = λ t. HasMade d t in subst P (sym is) (ended-turn_in d.caller d.call d.phase)
