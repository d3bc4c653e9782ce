-- The room that is reserved for the entries that callers may still append.
use Rattle.std.proofs.Common.{◌≡◌, ℕ, ◌+◌, ◌-◌, ◌<◌, ◌≤◌, ◌==◌, ◌&&◌, Bool, true, false, cond, List, [], ◌∷◌, ◌++◌, length, take, slice_index, refl, ap, sym, subst, ◌∙◌, Some, None, Option, is_some, arith}
use Rattle.std.specs.Prelude.{nat_eq, nat_lt}
use Rattle.std.specs.List.{AllByRecursion}
use Rattle.std.specs.Option.{option_eq, option_and_then}
use Rattle.std.proofs.lemmas.Bool.{ltb-true}
use Rattle.txn_words.specs.declared.op.Op.{Op}
use Rattle.txn_words.specs.declared.op.Op.TheVariants.{Put, Take, Get, PutIf}
use Rattle.txn_words.specs.declared.entry.Entry.{Entry}
use Rattle.txn_words.specs.declared.entry.Entry.TheVariants.{Began, Asked, Did, Saved, Leave, Undone, Returned, Committed, Busy, Aborted}
use Rattle.txn_words.specs.declared.answer.Answer.{Answer}
use Rattle.txn_words.specs.declared.answer.Answer.TheVariants as answers
use Rattle.txn_words.specs.declared.step.Step.{Step}
use Rattle.txn_words.specs.declared.step.Step.TheVariants.{Begin, Ask, Act, Save, Back, Commit, Abort}
use Rattle.txn_words.specs.Entries.{entries_of}
use Rattle.txn_words.specs.Kinds.{caller_of}
use Rattle.txn_words.specs.declared.stance.Phase.{Phase}
use Rattle.txn_words.specs.declared.stance.Phase.TheVariants.{Closed, Opened, Waiting, LeavingTo, LeavingToEnd}
use Rattle.txn_words.specs.Shape.{Stance, closed_stance, changes, row, stance_after, own, is_shaped, IsShaped}
use Rattle.txn_words.specs.Owed.{owed_for, owed_in, owed_by, owed, reserved}
use Rattle.txn_trace.proofs.Callers.{shaped_stance}
use Rattle.txn_trace.proofs.Pushes.{own-push_in, stance_after-push}
use Rattle.txn_trace.proofs.EntrySteps.{stance-other}
use Rattle.txn_trace.proofs.Running.{has_stance}
use Rattle.txn_trace.proofs.StanceRuns.{the_some}
use Rattle.txn_trace.proofs.Sums.{sum_at}

-- The number of places that are reserved before an entry: one for the entry itself, and one for
-- each further entry that its caller may append because of it. If a place for the entry is reserved
-- already, the number is 0.
abbrev pub reserved_for : Entry → ℕ
reserved_for (Began c t) = 3
reserved_for (Asked c op) = 1 + owed_for op
reserved_for (Saved c) = 1
reserved_for (Leave c (Some n)) = 2
reserved_for _ = 0

-- Whatever a step's answer is, the step reserves at least as many places as its entry needs.
pub reserved_enough : (step : Step) (answer : Answer) → AllByRecursion (λ e. reserved_for e ≤ reserved step) (entries_of step answer)
reserved_enough (Begin c) (answers.Began t) = (omega arith, tt)
reserved_enough (Ask c op) answers.Asked = (omega arith, tt)
reserved_enough (Ask c op) (answers.Busy x) = (omega arith, tt)
reserved_enough (Act c) (answers.Done reply) = (omega arith, tt)
reserved_enough (Act c) answers.Undone = (omega arith, tt)
reserved_enough (Act c) (answers.Returned n) = (omega arith, tt)
reserved_enough (Act c) answers.Aborted = (omega arith, tt)
reserved_enough (Save c) (answers.Saved n) = (omega arith, tt)
reserved_enough (Back c n) answers.Leaving = (omega arith, tt)
reserved_enough (Commit c) (answers.Committed p) = (omega arith, tt)
reserved_enough (Abort c) answers.Leaving = (omega arith, tt)
reserved_enough step answer = tt

abbrev pub FitsIn : ℕ → Option Stance → Type 0
FitsIn room None = Unit {0}
FitsIn room (Some s) = owed_in s.standing s.phase + 1 ≤ room

fits_if : (room : ℕ) (b : Bool) (s : Stance) → (b ≡ true → owed_in s.standing s.phase + 1 ≤ room) → FitsIn room (cond b (Some s) None)
fits_if room true s is = is refl
fits_if room false s is = tt

did_fits_in : (s : ℕ) (op : Op) (r : Option ℕ) → 2 + cond (changes op r) (s + 1) s + 1 ≤ 2 + s + owed_for op + 0
did_fits_in s (Put k v) r = omega arith
did_fits_in s (Take k) r = elim (is_some r) as (λ b. 2 + cond b (s + 1) s + 1 ≤ 2 + s + 2 + 0) [ true ↦ omega arith | false ↦ omega arith ]
did_fits_in s (Get k) r = omega arith
did_fits_in s (PutIf k expected v) r = elim (option_eq nat_eq r expected) as (λ b. 2 + cond b (s + 1) s + 1 ≤ 2 + s + 2 + 0) [ true ↦ omega arith | false ↦ omega arith ]

row_fits : (s : Stance) (q : Phase) (e : Entry) → s.phase ≡ q → FitsIn (owed_in s.standing q + reserved_for e) (row s q e)
row_fits s Closed (Began c t) at = omega arith
row_fits s Opened (Asked c op) at = omega arith
row_fits s Opened (Busy c op x) at = omega arith
row_fits s Opened (Saved c) at = subst (λ q. owed_in s.standing q + 1 ≤ 2 + s.standing + 1) (sym at) (omega arith)
row_fits s Opened (Leave c None) at = omega arith
row_fits s Opened (Leave c (Some n)) at = fits_if (2 + s.standing + 2) (nat_lt n (length s.kept)) (record s { phase = LeavingTo n }) (λ b. omega arith)
row_fits s Opened (Committed c p) at = omega arith
row_fits s (Waiting op) (Did c r) at = did_fits_in s.standing op r
row_fits s (Waiting op) (Leave c None) at = omega arith
row_fits s (LeavingTo n) (Undone c) at = fits_if (3 + s.standing + 0) (nat_lt (slice_index s.kept n) s.standing) (record s { standing = s.standing - 1 }) (λ b.
    let more = ltb-true (slice_index s.kept n) s.standing b in
    subst (λ q. owed_in (s.standing - 1) q + 1 ≤ 3 + s.standing + 0) (sym at) (omega arith))
row_fits s (LeavingTo n) (Returned c m) at = fits_if (3 + s.standing + 0) ((n == m) && (slice_index s.kept n == s.standing)) (record s { phase = Opened; kept = take (n + 1) s.kept }) (λ b. omega arith)
row_fits s LeavingToEnd (Undone c) at = fits_if (1 + s.standing + 0) (nat_lt 0 s.standing) (record s { standing = s.standing - 1 }) (λ b.
    let some = ltb-true 0 s.standing b in
    subst (λ q. owed_in (s.standing - 1) q + 1 ≤ 1 + s.standing + 0) (sym at) (omega arith))
row_fits s LeavingToEnd (Aborted c) at = fits_if (1 + s.standing + 0) (s.standing == 0) closed_stance (λ b. omega arith)
row_fits s q e at = tt

-- For the caller of an entry: `owed_by` after the entry, plus 1, is at most `owed_by` before the
-- entry plus `reserved_for` of the entry.
pub owed_by-row : (s next : Stance) (e : Entry) → row s s.phase e ≡ Some next → owed_by (Some next) + 1 ≤ owed_by (Some s) + reserved_for e
owed_by-row s next e is = subst (FitsIn (owed_in s.standing s.phase + reserved_for e)) is (row_fits s s.phase e refl)

-- For all callers together: `owed` after an entry, plus 1, is at most `owed` before the entry plus
-- `reserved_for` of the entry.
pub owed-push : (callers : ℕ) (g : List Entry) (e : Entry) → IsShaped g → is_shaped g e ≡ true → caller_of e < callers → owed callers (g ++ e ∷ []) + 1 ≤ owed callers g + reserved_for e
owed-push callers g e shape shaped within =
    let c : ℕ = caller_of e in
    let before = the_some (stance_after (own c g)) (has_stance g shape c) in
    let goes : is_some (row before.0 before.0.phase e) ≡ true = subst (λ o. is_some (option_and_then (λ (s : Stance). row s s.phase e) o) ≡ true) before.1 (shaped_stance g e shaped) in
    let next = the_some (row before.0 before.0.phase e) goes in
    let after : stance_after (own c (g ++ e ∷ [])) ≡ Some next.0 =
    ap stance_after (own-push_in c g e refl) ∙ stance_after-push (own c g) e ∙ ap (option_and_then (λ (s : Stance). row s s.phase e)) before.1 ∙ next.1 in
    let f : ℕ → ℕ = λ d. owed_by (stance_after (own d g)) in
    let f' : ℕ → ℕ = λ d. owed_by (stance_after (own d (g ++ e ∷ []))) in
    let sums : owed callers (g ++ e ∷ []) + f c ≡ owed callers g + f' c = sum_at f f' c 0 callers (omega arith) (omega arith) (λ d other. ap owed_by (sym (stance-other d g e other))) in
    let own_before : f c ≡ owed_by (Some before.0) = ap owed_by before.1 in
    let own_after : f' c ≡ owed_by (Some next.0) = ap owed_by after in
    let step = owed_by-row before.0 next.0 e next.1 in
    omega arith
