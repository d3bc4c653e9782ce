-- Shows that a drive fits its caller's stance after each answer whose entries have the right shape,
-- because these entries lead the stance to the phase that the drive's next phase needs.
use Rattle.std.proofs.Common.{[], if◌then◌else◌, ℕ, ◌%◌, ◌++◌, ◌+◌, ◌-◌, ◌^◌, ◌∙◌, ◌≡◌, ◌≤◌, Bool, List, None, Option, Some, ap, arith}
use Rattle.std.proofs.Common.{cond, false, is_some, length, nat_lt, refl, slice_index, subst, sym, true, unwrap_or}
use Rattle.locked_map.specs.Vocabulary.{Acting, Answer, Busy, Call, Doubling, Entry, Fresh, Initialising, Last, Leaving, Linking, Lost}
use Rattle.locked_map.specs.Vocabulary.{NothingToSeek, Operation, Phase, Refusal, Stance, Seeking, Standing, Step, Storing, Work, closed_stance}
use Rattle.locked_map.specs.Vocabulary.{counted, entries_of, first_step, fold, row, stance_after, step_in, told_first, told_in, told_seek}
use Rattle.locked_map.specs.Vocabulary.{undone_in, undone_more}
use Rattle.locked_map.proofs.Vocabulary.{fold-append}
use Rattle.std.specs.Option.{option_and_then}
use Rattle.txn_drive.specs.Drives.{heading, refused_help, towards}
use Rattle.boost_core.proofs.HelpTargets.{at_heading, at_refused, at_towards}
use Rattle.locked_map.specs.Suits.{SuitsStance, undone_of, work_phase}
use Rattle.txn_drive.specs.declared.call.Call.TheVariants as calls
use Rattle.txn_words.specs.declared.answer.Answer.TheVariants as answers
use Rattle.txn_words.specs.declared.entry.Entry.TheVariants as entries
use Rattle.txn_words.specs.declared.stance.Phase.TheVariants as stances

abbrev left_for : Option ℕ → Standing
left_for None = stances.LeavingToEnd
left_for (Some n) = stances.LeavingTo n

abbrev phase_after : Standing → Entry → Option Standing
phase_after q (entries.Asked c op) = Some (stances.Waiting op)
phase_after q (entries.Leave c level) = Some (left_for level)
phase_after q (entries.Undone c) = Some q
phase_after q (entries.Busy c op x) = Some stances.LeavingToEnd
phase_after q e = None

abbrev PhaseIs : Option Standing → Option Stance → Type 0
PhaseIs (Some q) (Some s) = s.phase ≡ q
PhaseIs q s = Unit {0}

phase_if : (q : Standing) (b : Bool) (s : Stance) → s.phase ≡ q → PhaseIs (Some q) (cond b (Some s) None)
phase_if q true s is = is
phase_if q false s is = tt

row_phase_is : (s : Stance) (q : Standing) (e : Entry) → s.phase ≡ q → PhaseIs (phase_after q e) (row s q e)
row_phase_is s stances.Closed (entries.Began c t) at = tt
row_phase_is s stances.Opened (entries.Asked c op) at = refl
row_phase_is s stances.Opened (entries.Busy c op x) at = refl
row_phase_is s stances.Opened (entries.Leave c None) at = refl
row_phase_is s stances.Opened (entries.Leave c (Some n)) at = phase_if (stances.LeavingTo n) (nat_lt n (length s.kept)) (record s { phase = stances.LeavingTo n }) refl
row_phase_is s (stances.Waiting op) (entries.Leave c None) at = refl
row_phase_is s (stances.LeavingTo n) (entries.Undone c) at = phase_if (stances.LeavingTo n) (nat_lt (slice_index s.kept n) s.standing) (record s { standing = s.standing - 1 }) at
row_phase_is s stances.LeavingToEnd (entries.Undone c) at = phase_if stances.LeavingToEnd (nat_lt 0 s.standing) (record s { standing = s.standing - 1 }) at
row_phase_is s q e at = tt

row_phase : (s next : Stance) (e : Entry) (q : Standing) → phase_after s.phase e ≡ Some q → row s s.phase e ≡ Some next → Some q ≡ Some next.phase
row_phase s next e q after is = ap Some (sym (subst (PhaseIs (Some q)) is (subst (λ o. PhaseIs o (row s s.phase e)) after (row_phase_is s s.phase e refl))))

-- The stance after further entries.
abbrev pub stance_on : Stance → List Entry → Option Stance
stance_on s es = fold (λ stance e. option_and_then (λ t. row t t.phase e) stance) (Some s) es

pub stance_on_more : (h es : List Entry) (s : Stance) → stance_after h ≡ Some s → stance_after (h ++ es) ≡ stance_on s es
stance_on_more h es s at =
    fold-append (λ stance e. option_and_then (λ (t : Stance). row t t.phase e) stance) (Some closed_stance) h es
    ∙ ap (λ o. fold (λ stance e. option_and_then (λ (t : Stance). row t t.phase e) stance) o es) at

pub some_is : (o : Option Stance) → is_some o ≡ true → o ≡ Some (unwrap_or o closed_stance)
some_is None is = absurd (cc is)
some_is (Some s) is = refl

fits_first : (s next : Stance) (c : ℕ) (call : Call) (a : Answer) → stance_on s (entries_of (first_step c call) a) ≡ Some next → SuitsStance next call (told_first call a)
fits_first s next c (calls.Op op) answers.Asked is = row_phase s next (entries.Asked c op) (stances.Waiting op) refl is
fits_first s next c (calls.Op op) (answers.Busy x) is = row_phase s next (entries.Busy c op x) stances.LeavingToEnd refl is
fits_first s next c (calls.Back n) answers.Leaving is = row_phase s next (entries.Leave c (Some n)) (stances.LeavingTo n) refl is
fits_first s next c calls.Abort answers.Leaving is = row_phase s next (entries.Leave c None) stances.LeavingToEnd refl is
fits_first s next c call a is = tt

at_seek : (P : Phase → Type 0) (work : Work) (again : ℕ) (a : Answer) → P (Acting work again) → P (Lost work) → P (told_seek work again a)
at_seek P work again answers.Placed acting lost = acting
at_seek P (Busy x k) again (answers.Refused NothingToSeek) acting lost = acting
at_seek P (Leaving k) again (answers.Refused NothingToSeek) acting lost = acting
at_seek P work again a acting lost = lost

at_counted : (P : Phase → Type 0) (k : ℕ) (more work : Work) → P (Seeking more 0) → P (Last work answers.Undone) → P (counted k more work)
at_counted P k more work on ended = elim (nat_lt k (2 ^ 64 - 1)) as (λ b. P (if b then Seeking more 0 else Last work answers.Undone)) [ true ↦ on | false ↦ ended ]

-- The phase of a caller at work does not depend on how many changes it has taken back.
work_more : (call : Call) (x k j : ℕ) → work_phase call (Busy x j) ≡ work_phase call (Busy x k)
work_more (calls.Op op) x k j = refl
work_more call x k j = refl

leave_more : (call : Call) (k j : ℕ) → work_phase call (Leaving j) ≡ work_phase call (Leaving k)
leave_more (calls.Back n) k j = refl
leave_more call k j = refl

fits_undone : (s : Stance) (call : Call) (work : Work) → work_phase call work ≡ Some s.phase → SuitsStance s call (undone_more work)
fits_undone s call Operation fits = tt
fits_undone s call (Busy x k) fits = at_counted (SuitsStance s call) k (Busy x (k + 1)) (Busy x k) (work_more call x k (k + 1) ∙ fits) tt
fits_undone s call (Leaving k) fits = at_counted (SuitsStance s call) k (Leaving (k + 1)) (Leaving k) (leave_more call k (k + 1) ∙ fits) tt

-- The phases other than `Fresh` in which no work is done. No call returns to its work from such a
-- phase.
abbrev Aside : Phase → Type 0
Aside (Seeking work again) = ⊥
Aside (Acting work again) = ⊥
Aside Fresh = ⊥
Aside phase = Unit {0}

abbrev IsFree : Phase → Type 0
IsFree phase = ((s : Stance) (call : Call) → SuitsStance s call phase) × (undone_of phase ≡ 0)

free_towards : (last bucket : ℕ) → IsFree (towards last bucket)
free_towards last bucket = at_towards IsFree last bucket (λ same. (λ s call. tt, refl)) (λ other. (λ s call. tt, refl))

free_heading : (key size : ℕ) → IsFree (heading key size)
free_heading key size = at_heading IsFree key size (free_towards 0 (key % size)) (λ none. (λ s call. tt, refl))

free_refused : (r : Refusal) → IsFree (refused_help r)
free_refused r = at_refused IsFree r (λ r. (λ s call. tt, refl))

free_told : (phase : Phase) (call : Call) (a : Answer) → Aside phase → IsFree (told_in call phase a)
free_told Fresh call a aside = absurd aside
free_told (Seeking work again) call a aside = absurd aside
free_told (Acting work again) call a aside = absurd aside
free_told (Doubling seen) (calls.Help key) (answers.Moved size) aside = free_heading key size
free_told (Doubling seen) (calls.Help key) (answers.Doubled size) aside = free_heading key size
free_told (Doubling seen) (calls.Help key) answers.AtLimit aside = free_heading key seen
free_told (Doubling seen) (calls.Help key) answers.Light aside = free_heading key seen
free_told (Doubling seen) (calls.Help key) (answers.Refused r) aside = free_refused r
free_told (Initialising way again) call answers.Ready aside = free_towards way.bucket way.target
free_told (Initialising way again) call (answers.Refused r) aside = free_refused r
free_told (Linking way again) call (answers.Refused r) aside = free_refused r
free_told (Storing way) call answers.Stored aside = free_towards way.bucket way.target
free_told (Storing way) call (answers.Refused r) aside = free_refused r
free_told phase call a aside = (λ s call. tt, refl)

-- The entries that a step adds with this answer. If there is no step, there are no entries.
abbrev pub entries_if : Option Step → Answer → List Entry
entries_if None a = []
entries_if (Some step) a = entries_of step a

abbrev pub stance_told : Stance → Option Step → Answer → Option Stance
stance_told s None a = None
stance_told s (Some step) a = stance_on s (entries_of step a)

same_phase : (call : Call) (work : Work) (s next : Stance) → work_phase call work ≡ Some s.phase → Some s ≡ Some next → work_phase call work ≡ Some next.phase
same_phase call work s next fits is = cc

pub fits_told : (s next : Stance) (c : ℕ) (call : Call) (phase : Phase) (a : Answer) → SuitsStance s call phase → stance_told s (step_in c call phase) a ≡ Some next → SuitsStance next call (told_in call phase a)
fits_told s next c call Fresh a fits is = fits_first s next c call a is
fits_told s next c call (Seeking work again) a fits is = at_seek (SuitsStance next call) work again a (same_phase call work s next fits is) tt
fits_told s next c call (Acting work again) answers.Again fits is = same_phase call work s next fits is
fits_told s next c call (Acting work again) answers.Undone fits is = fits_undone next call work (fits ∙ row_phase s next (entries.Undone c) s.phase refl is)
fits_told s next c call (Acting work again) a fits is = tt
fits_told s next c call phase a fits is = (free_told phase call a tt).0 next call

-- With each step, the number of changes that a drive has taken back rises by at most the number of
-- entries that the step adds.
undone_first : (call : Call) (a : Answer) → undone_of (told_first call a) ≡ 0
undone_first (calls.Op op) answers.Asked = refl
undone_first call answers.Leaving = refl
undone_first call a = refl

undone_back : (work : Work) → undone_of (undone_more work) ≤ undone_in work + 1
undone_back Operation = omega arith
undone_back (Busy x k) = at_counted (λ p. undone_of p ≤ k + 1) k (Busy x (k + 1)) (Busy x k) (omega arith) (omega arith)
undone_back (Leaving k) = at_counted (λ p. undone_of p ≤ k + 1) k (Leaving (k + 1)) (Leaving k) (omega arith) (omega arith)

none_undone : (a b : ℕ) → a ≡ 0 → a ≤ b
none_undone a b is = omega (arith, is)

pub undone_told : (c : ℕ) (call : Call) (phase : Phase) (a : Answer) → undone_of (told_in call phase a) ≤ undone_of phase + length (entries_if (step_in c call phase) a)
undone_told c call Fresh a = none_undone _ _ (undone_first call a)
undone_told c call (Seeking work again) a = at_seek (λ p. undone_of p ≤ undone_in work + 0) work again a (omega arith) (omega arith)
undone_told c call (Acting work again) answers.Undone = undone_back work
undone_told c call (Acting work again) a = omega arith
undone_told c call phase a = none_undone _ _ (free_told phase call a tt).1
