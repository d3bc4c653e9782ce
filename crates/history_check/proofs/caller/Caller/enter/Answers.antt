use Rattle.std.proofs.Common.{◌≡◌, ℕ, ◌+◌, ◌-◌, ◌==◌, ◌&&◌, Bool, true, false, cond, List, [], ◌∷◌, length, drop, take, reverse, slice_index, Option, Some, None, refl, sym, ap, subst, ◌∙◌, arith}
use Rattle.std.specs.Prelude.{nat_lt}
use Rattle.std.proofs.lemmas.List.{length-reverse}
use Rattle.txn_words.specs.declared.entry.Entry.{Entry}
use Rattle.txn_words.specs.declared.entry.Entry.TheVariants.{Began, Asked, Did, Saved, Leave, Undone, Returned, Committed, Busy, Aborted}
use Rattle.txn_words.specs.declared.stance.Phase.{Phase}
use Rattle.txn_words.specs.declared.stance.Phase.TheVariants.{Closed, Opened, Waiting, LeavingTo, LeavingToEnd}
use Rattle.txn_words.specs.Map.{key_of}
use Rattle.txn_words.specs.Shape.{Stance, closed_stance, changes, row}
use Rattle.history_check.specs.Logs.{log_entered}
use Rattle.history_check.specs.Callers.{stance_of}
use Rattle.history_check.proofs.caller.Caller.enter.Goals as goal

-- If there is a stance, its number of standing changes is the length of the log.
abbrev Counted : Option Stance → List (ℕ × Option ℕ) → Type 0
Counted None log = Unit {0}
Counted (Some s) log = length log ≡ s.standing

one_less : (log : List (ℕ × Option ℕ)) → length (drop 1 log) ≡ length log - 1
one_less [] = refl
one_less (job ∷ log) = omega arith

counted_if : (b : Bool) (s : Stance) (log : List (ℕ × Option ℕ)) → length log ≡ s.standing → Counted (cond b (Some s) None) log
counted_if true s log is = is
counted_if false s log is = tt

noted_if : (b : Bool) (n : ℕ) (log : List (ℕ × Option ℕ)) (job : ℕ × Option ℕ) → length log ≡ n → length (cond b (job ∷ log) log) ≡ cond b (n + 1) n
noted_if true n log job is = omega (arith, is)
noted_if false n log job is = is

counted_after : (s : Stance) (log : List (ℕ × Option ℕ)) (e : Entry) (q : Phase) → length log ≡ s.standing → Counted (row s q e) (log_entered q log e)
counted_after s log (Began c t) Closed is = refl
counted_after s log (Asked c op) Opened is = is
counted_after s log (Busy c op x) Opened is = is
counted_after s log (Saved c) Opened is = is
counted_after s log (Leave c None) Opened is = is
counted_after s log (Leave c (Some n)) Opened is = counted_if (nat_lt n (length s.kept)) (record s { phase = LeavingTo n }) log is
counted_after s log (Committed c p) Opened is = refl
counted_after s log (Did c r) (Waiting op) is = noted_if (changes op r) s.standing log (key_of op, r) is
counted_after s log (Leave c None) (Waiting op) is = is
counted_after s log (Undone c) (LeavingTo n) is =
    counted_if (nat_lt (slice_index s.kept n) s.standing) (record s { standing = s.standing - 1 }) (drop 1 log) (one_less log ∙ ap (λ n. n - 1) is)
counted_after s log (Returned c m) (LeavingTo n) is =
    counted_if ((n == m) && (slice_index s.kept n == s.standing)) (record s { phase = Opened; kept = take (n + 1) s.kept }) log is
counted_after s log (Undone c) LeavingToEnd is = counted_if (nat_lt 0 s.standing) (record s { standing = s.standing - 1 }) (drop 1 log) (one_less log ∙ ap (λ n. n - 1) is)
counted_after s log (Aborted c) LeavingToEnd is = counted_if (s.standing == 0) closed_stance [] refl
counted_after s log _ q is = tt

pub invariant_of-self : goal.invariant_of-self
invariant_of-self c =
    let old = c.args.self.now in
    let s = stance_of old in
    let log = reverse old.changes.items in
    let enters : row s s.phase c.args.entry ≡ Some c.enter.new.self.stance = c.enter.ensures.stance c.if-enter.true in
    let count : length log ≡ s.standing = length-reverse old.changes.items ∙ sym old.changes.ok.0 ∙ old.all_noted in
    let noted = c.note.ensures ∙ ap (λ q. log_entered q log c.args.entry) c.phase-phase.ensures in
    let after = subst (λ o. Counted o (log_entered s.phase log c.args.entry)) enters (counted_after s log c.args.entry s.phase count) in
    record { all_noted = c.note.new.changes.ok.0 ∙ sym (length-reverse c.note.new.changes.items) ∙ ap length noted ∙ after }
