-- A caller's steps and plain calls add only entries of this caller. Only a commit adds a Committed
-- entry.
use Rattle.std.proofs.Common.{◌≡◌, ◌≢◌, ℕ, zero, suc, true, false, Bool, List, [], ◌∷◌, ◌++◌, Some, refl, sym, ap, ◌∙◌}
use Rattle.std.specs.List.{AllByRecursion}
use Rattle.std.proofs.lemmas.Bool.{ne_eqb, false≢true}
use Rattle.std.proofs.lemmas.List.{append-nil}
use Rattle.std.proofs.lemmas.List.Elements.{filter-append}
use Rattle.txn_words.specs.declared.op.Op.{Op}
use Rattle.txn_words.specs.declared.step.Step.{Step}
use Rattle.txn_words.specs.declared.step.Step.TheVariants.{Begin, Ask, Seek, Act, Save, Back, Commit, Abort}
use Rattle.txn_words.specs.declared.answer.Answer.{Answer}
use Rattle.txn_words.specs.declared.answer.Answer.TheVariants as answers
use Rattle.txn_words.specs.declared.entry.Entry.{Entry}
use Rattle.txn_words.specs.declared.entry.Entry.TheVariants.{Committed}
use Rattle.txn_words.specs.Entries.{entries_of}
use Rattle.txn_words.specs.Kinds.{caller_of, is_commit}
use Rattle.txn_words.specs.Shape.{own}
use Rattle.txn_trace.proofs.Pushes.{own-push_out}
use Rattle.boost_core.specs.declared.owner.Owner.TheVariants.{Caller}
use Rattle.boost_core.specs.State.{State, stance_in}
use Rattle.boost_core.specs.Refusals.{owner_of}
use Rattle.boost_core.specs.Answers.{is_at_end}
use Rattle.boost_core.specs.Machine.{Move, Moves}
use Rattle.boost_core.specs.Plain.{Operates, Returns, Aborts, Ends, Leaves, undoing, undone}
use Rattle.owned_map.specs.Within.{OnlyDid, OnlyWorked, commit_entries}

-- True if the step is not a commit.
abbrev pub is_quiet : Step → Bool
is_quiet (Commit c) = false
is_quiet step = true

pub record IsBy (c : ℕ) (step : Step) : Type 0 where
  pub whose : owner_of step ≡ Some (Caller c)
  pub quiet : is_quiet step ≡ true

-- An entry of another caller leaves a caller's own entries unchanged.
apart_from : (c d : ℕ) (h : List Entry) (e : Entry) → caller_of e ≡ c → d ≢ c → own d (h ++ e ∷ []) ≡ own d h
apart_from c d h e is apart = own-push_out d h e (ne_eqb (caller_of e) d (λ same. apart (sym same ∙ is)))

entries_apart : (c d : ℕ) (h : List Entry) (step : Step) (answer : Answer) → owner_of step ≡ Some (Caller c) → d ≢ c → own d (h ++ entries_of step answer) ≡ own d h
entries_apart c d h (Begin e) (answers.Began t) by apart = apart_from c d h _ (cc by) apart
entries_apart c d h (Ask e op) answers.Asked by apart = apart_from c d h _ (cc by) apart
entries_apart c d h (Ask e op) (answers.Busy x) by apart = apart_from c d h _ (cc by) apart
entries_apart c d h (Act e) (answers.Done reply) by apart = apart_from c d h _ (cc by) apart
entries_apart c d h (Act e) answers.Undone by apart = apart_from c d h _ (cc by) apart
entries_apart c d h (Act e) (answers.Returned n) by apart = apart_from c d h _ (cc by) apart
entries_apart c d h (Act e) answers.Aborted by apart = apart_from c d h _ (cc by) apart
entries_apart c d h (Save e) (answers.Saved n) by apart = apart_from c d h _ (cc by) apart
entries_apart c d h (Back e n) answers.Leaving by apart = apart_from c d h _ (cc by) apart
entries_apart c d h (Commit e) (answers.Committed p) by apart = apart_from c d h _ (cc by) apart
entries_apart c d h (Abort e) answers.Leaving by apart = apart_from c d h _ (cc by) apart
entries_apart c d h step answer by apart = ap (own d) (append-nil h)

-- A step other than a commit adds no Committed entry.
none_committed : (step : Step) (answer : Answer) → is_quiet step ≡ true → commit_entries (entries_of step answer) ≡ []
none_committed (Commit e) (answers.Committed p) quiet = absurd (false≢true quiet)
none_committed (Begin e) (answers.Began t) quiet = refl
none_committed (Ask e op) answers.Asked quiet = refl
none_committed (Ask e op) (answers.Busy x) quiet = refl
none_committed (Act e) (answers.Done reply) quiet = refl
none_committed (Act e) answers.Undone quiet = refl
none_committed (Act e) (answers.Returned n) quiet = refl
none_committed (Act e) answers.Aborted quiet = refl
none_committed (Save e) (answers.Saved n) quiet = refl
none_committed (Back e n) answers.Leaving quiet = refl
none_committed (Abort e) answers.Leaving quiet = refl
none_committed step answer quiet = refl

commits_after : (h : List Entry) (step : Step) (answer : Answer) → is_quiet step ≡ true → commit_entries (h ++ entries_of step answer) ≡ commit_entries h
commits_after h step answer quiet =
    filter-append is_commit h (entries_of step answer) ∙ ap (λ es. commit_entries h ++ es) (none_committed step answer quiet) ∙ append-nil (commit_entries h)

pub same : (c : ℕ) (old new : State) → new.history ≡ old.history → OnlyWorked c old new
same c old new is = record { only = λ d apart. ap (own d) is; commits = ap commit_entries is }

-- `OnlyWorked` is transitive.
pub after : (c : ℕ) (old between new : State) → OnlyWorked c old between → OnlyWorked c between new → OnlyWorked c old new
after c old between new first second = record {
  only = λ d apart. second.only d apart ∙ first.only d apart;
  commits = second.commits ∙ first.commits;
}

pub moved : (c : ℕ) (old new : State) (step : Step) (answer : Answer) → IsBy c step → Move old step answer new → OnlyWorked c old new
moved c old new step (answers.Refused refusal) by move = same c old new (ap (λ (s : State). s.history) move.state)
moved c old new step answer by move = record {
  only = λ d apart. ap (λ (s : State). own d s.history) move.state ∙ entries_apart c d old.history step answer by.whose apart;
  commits = ap (λ (s : State). commit_entries s.history) move.state ∙ commits_after old.history step answer by.quiet;
}

-- A commit adds its Committed entry and no entry of another caller.
pub committed : (c p : ℕ) (old new : State) → Move old (Commit c) (answers.Committed p) new
    → OnlyDid c old new × (commit_entries new.history ≡ commit_entries old.history ++ Committed c p ∷ [])
committed c p old new move = (
  λ d apart. ap (λ (s : State). own d s.history) move.state ∙ entries_apart c d old.history (Commit c) (answers.Committed p) refl apart,
  ap (λ (s : State). commit_entries s.history) move.state ∙ filter-append is_commit old.history (Committed c p ∷ []),
)

all_moved : (c : ℕ) (old new : State) (steps : List Step) (given : List Answer) → AllByRecursion (IsBy c) steps → Moves old steps given new → OnlyWorked c old new
all_moved c old new [] [] by is = same c old new (ap (λ (s : State). s.history) is)
all_moved c old new (step ∷ steps) (answer ∷ given) by (between, event, rest) =
    after c old between new (moved c old between step answer by.0 event.move) (all_moved c between new steps given by.1 rest)
all_moved c old new [] (answer ∷ given) by none = absurd none
all_moved c old new (step ∷ steps) [] by none = absurd none

seek_by : (c : ℕ) → IsBy c (Seek c)
seek_by c = record { whose = refl; quiet = refl }

act_by : (c : ℕ) → IsBy c (Act c)
act_by c = record { whose = refl; quiet = refl }

ask_by : (c : ℕ) (op : Op) → IsBy c (Ask c op)
ask_by c op = record { whose = refl; quiet = refl }

undoing_by : (c changes : ℕ) (steps : List Step) → AllByRecursion (IsBy c) steps → AllByRecursion (IsBy c) (undoing changes c steps)
undoing_by c zero steps by = by
undoing_by c (suc changes) steps by = undoing_by c changes (Seek c ∷ Act c ∷ steps) (seek_by c, (act_by c, by))

-- A plain call adds only entries of its caller, and commits nothing.
pub operated : (c : ℕ) (old new : State) (op : Op) (answer : Answer) → Operates old c op answer new → OnlyWorked c old new
operated c old new op (answers.Done reply) moves = all_moved c old new (Ask c op ∷ Seek c ∷ Act c ∷ []) (answers.Asked ∷ answers.Placed ∷ answers.Done reply ∷ []) (ask_by c op, (seek_by c, (act_by c, tt))) moves
operated c old new op answers.Asked none = absurd none
operated c old new op answer event = moved c old new (Ask c op) answer (ask_by c op) event.move

left : (c : ℕ) (old new : State) (b : Bool) → Leaves b old c new → OnlyWorked c old new
left c old new true is = same c old new (ap (λ (s : State). s.history) is)
left c old new false event = moved c old new (Abort c) answers.Leaving (record { whose = refl; quiet = refl }) event.move

ended : (c : ℕ) (old new : State) (answer : Answer) → Ends old c answer new → OnlyWorked c old new
ended c old new answer (changes, moves) =
    all_moved c old new (undoing changes c (Act c ∷ [])) (undone changes (answer ∷ [])) (undoing_by c changes (Act c ∷ []) (act_by c, tt)) moves

pub aborted : (c : ℕ) (old new : State) (answer : Answer) → Aborts old c answer new → OnlyWorked c old new
aborted c old new answers.Aborted (between, leaves, ends) =
    after c old between new (left c old between (is_at_end (stance_in old.history c).phase) leaves) (ended c between new answers.Aborted ends)
aborted c old new answers.Leaving none = absurd none
aborted c old new answer refused = moved c old new (Abort c) answer (record { whose = refl; quiet = refl }) refused.1.move

pub returned : (c n : ℕ) (old new : State) (answer : Answer) → Returns old c n answer new → OnlyWorked c old new
returned c n old new (answers.Returned m) (reached, between, event, ends) =
    after c old between new (moved c old between (Back c n) answers.Leaving (record { whose = refl; quiet = refl }) event.move) (ended c between new (answers.Returned m) ends)
returned c n old new answers.Leaving none = absurd none
returned c n old new answer event = moved c old new (Back c n) answer (record { whose = refl; quiet = refl }) event.move
