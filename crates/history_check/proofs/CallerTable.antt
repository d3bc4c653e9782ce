-- Shows that the table of callers stays that of the history, because an entry changes its own
-- caller's place and no other.
use Rattle.std.proofs.Common.{get_or, vec_len, ◌≡◌, ◌≢◌, ◌||◌, ℕ, zero, suc, ◌<◌, drop, length, List, [], ◌∷◌, ◌++◌, true, ap, sym, subst, ◌∙◌, Some, None, Option, arith, is_some, refl}
use Rattle.std.specs.Prelude.{slice_get}
use Rattle.std.specs.Option.{IfSome, option_and_then}
use Rattle.std.proofs.Math.ListN.{set}
use Rattle.std.proofs.lemmas.Bool.{false≢true, and_parts}
use Rattle.std.proofs.lemmas.List.Elements.{All-push}
use Rattle.std.proofs.lemmas.Option.{slice_get_read}
use Rattle.txn_words.specs.declared.op.Op.{Op}
use Rattle.txn_words.specs.declared.entry.Entry.{Entry}
use Rattle.txn_words.specs.declared.entry.Entry.TheVariants.{Began, Asked, Did, Saved, Leave, Undone, Returned, Committed, Busy, Aborted}
use Rattle.txn_words.specs.declared.stance.Phase.{Phase}
use Rattle.txn_words.specs.declared.stance.Phase.TheVariants.{Waiting}
use Rattle.txn_words.specs.Kinds.{caller_of, is_began, is_commit}
use Rattle.txn_words.specs.Shape.{Stance, row, stance_after, own, how_many, is_numbered, is_shaped}
use Rattle.txn_trace.specs.Log.{Log, log_of, log_after, log_step, log_did}
use Rattle.txn_trace.proofs.Callers.{shaped_stance}
use Rattle.txn_trace.proofs.Entries.{length-log_of}
use Rattle.txn_trace.proofs.BadEntries.{shape_push}
use Rattle.txn_trace.proofs.Logs.{PhaseLogged, stance_logged}
use Rattle.txn_trace.proofs.EntrySteps.{stance-own, stance-other, log_of-own, log_of-other, is_shaped_is}
use Rattle.txn_trace.proofs.Naming.{has_begun-own, has_begun-other}
use Rattle.history_check.specs.declared.caller.Caller.{Caller}
use Rattle.history_check.specs.declared.callers.Callers.{Callers}
use Rattle.history_check.specs.Callers.{stance_of, log_in, Enters, HasRoom, HasRoomFor, Sits, HaveEntered, IsIn}
use Rattle.history_check.specs.Logs.{log_entered, log_replied}
use Rattle.history_check.proofs.EntryKinds.{did_waits, undone_some}

-- Suppose that `P i` holds for the element written at index `i`. If `P k` held before for the
-- element at every other index `k`, then `P k` holds after the write for the element at every index
-- `k`.
pub each-set : {A : Type 0} (P : ℕ → A → Type 0) (xs : List A) (i : ℕ) (a : A) → P i a → ((k : ℕ) → k ≢ i → IfSome (slice_get xs k) (P k)) → (k : ℕ) → IfSome (slice_get (set xs i a) k) (P k)
each-set P [] i a here others k = tt
each-set P (x ∷ xs) zero a here others zero = here
each-set P (x ∷ xs) zero a here others (suc k) = others (suc k) (λ is. absurd (omega arith))
each-set P (x ∷ xs) (suc i) a here others zero = others zero (λ is. absurd (omega arith))
each-set P (x ∷ xs) (suc i) a here others (suc k) = each-set (λ j. P (suc j)) xs i a here (λ j other. others (suc j) (λ is. other (let same : suc j ≡ suc i = is in omega arith))) k

-- If the written value has the property `P`, so has the element at the written index.
pub set-here : {A : Type 0} (P : A → Type 0) (xs : List A) (i : ℕ) (a : A) → P a → IfSome (slice_get (set xs i a) i) P
set-here P [] i a here = tt
set-here P (x ∷ xs) zero a here = here
set-here P (x ∷ xs) (suc i) a here = set-here P xs i a here

-- If `P` implies `Q` and an optional element has the property `P`, it has the property `Q` too.
pub if_some : {A : Type 0} (P Q : A → Type 0) (o : Option A) → ((a : A) → P a → Q a) → IfSome o P → IfSome o Q
if_some P Q None to is = tt
if_some P Q (Some a) to is = to a is

pub at_some : {A : Type 0} (P : A → Type 0) (o : Option A) (a : A) → o ≡ Some a → IfSome o P → P a
at_some P o a is holds = subst (λ r. IfSome r P) is holds

caller_at : (callers : Callers) (c : ℕ) (caller : Caller) → c < 64 → caller ≡ get_or callers.table.items c caller → slice_get callers.table.items c ≡ Some caller
caller_at callers c caller below is = slice_get_read callers.table.items (vec_len callers.table) c caller callers.table.ok.0 (let all : vec_len callers.table ≡ 64 = callers.all in omega arith) is

pub sits_at : (h : List Entry) (callers : Callers) (c : ℕ) (caller : Caller) → HaveEntered h callers → c < 64 → caller ≡ get_or callers.table.items c caller → Sits h c caller
sits_at h callers c caller entered below is = at_some (Sits h c) (slice_get callers.table.items c) caller (caller_at callers c caller below is) (entered.stances c)

pub room_at : (e : Entry) (callers : Callers) (caller : Caller) → HasRoomFor e callers → caller_of e < 64 → caller ≡ get_or callers.table.items (caller_of e) caller → HasRoom e caller
room_at e callers caller room below is = at_some (HasRoom e) (slice_get callers.table.items (caller_of e)) caller (caller_at callers (caller_of e) caller below is) room

-- If an entry has the right shape, `row` allows it for its caller's stance, and the number in it is
-- right.
pub in_row : (h : List Entry) (e : Entry) (stance : Stance) → stance_after (own (caller_of e) h) ≡ Some stance → is_shaped h e ≡ true → (is_some (row stance stance.phase e) ≡ true) × (is_numbered h e ≡ true)
in_row h e stance stance_is shaped = and_parts (is_some (row stance stance.phase e)) (is_numbered h e) (sym (is_shaped_is h e stance stance_is) ∙ shaped)

-- The caller of an entry with the right shape has a stance.
pub stance_there : (h : List Entry) (e : Entry) → is_shaped h e ≡ true → (stance : Stance) × (stance_after (own (caller_of e) h) ≡ Some stance)
stance_there h e shaped = at (stance_after (own (caller_of e) h)) refl (shaped_stance h e shaped)
  where
    at : (o : Option Stance) → stance_after (own (caller_of e) h) ≡ o → is_some (option_and_then (λ (s : Stance). row s s.phase e) o) ≡ true → (stance : Stance) × (stance_after (own (caller_of e) h) ≡ Some stance)
    at None is some = absurd (false≢true some)
    at (Some stance) is some = (stance, is)

-- A Did entry has the right shape only if its caller waits for an operation.
pub did_asked : (h : List Entry) (c : ℕ) (x : Option ℕ) (q : Phase) → IsIn h c q → is_shaped h (Did c x) ≡ true → ((op : Op) → q ≡ Waiting op → ⊥) → ⊥
did_asked h c x q there shaped not_waiting =
    let waits = did_waits there.stance there.stance.phase c x (in_row h (Did c x) there.stance there.stance_is shaped).0 in
    not_waiting waits.0 (sym there.phase_is ∙ waits.1)

no_first : {A : Type 0} (xs : List A) → slice_get xs 0 ≡ None → xs ≡ []
no_first [] is = refl
no_first (x ∷ xs) is = absurd (cc is)

pub first_then : {A : Type 0} (xs : List A) (x : A) → slice_get xs 0 ≡ Some x → xs ≡ x ∷ drop 1 xs
first_then [] x is = absurd (cc is)
first_then (y ∷ ys) x is = let same : y ≡ x = cc is in ap (λ z. z ∷ ys) same

-- An Undone entry has the right shape only if its caller has a standing change.
pub undone_newest : (h : List Entry) (c : ℕ) → is_shaped h (Undone c) ≡ true → slice_get (log_of c h) 0 ≡ None → ⊥
undone_newest h c shaped none =
    let stance = stance_there h (Undone c) shaped in
    let some : 0 < stance.0.standing = undone_some stance.0 stance.0.phase c (in_row h (Undone c) stance.0 stance.1 shaped).0 in
    let empty : stance.0.standing ≡ 0 = sym (length-log_of h c stance.0 stance.1) ∙ ap length (no_first (log_of c h) none) in
    omega arith

-- `log_entered` computes the log after an entry from the log and the phase before it.
log_did-is : (phase : Phase) (log : Log) (c : ℕ) (x : Option ℕ) (s : Stance) → PhaseLogged phase log → is_some (row s phase (Did c x)) ≡ true → (log_did log log.pending x).standing ≡ log_replied phase log.standing x
log_did-is (Waiting op) log c x s pending there = ap (λ p. (log_did log p x).standing) pending
log_did-is _ log c x s pending there = absurd (false≢true there)

log_step-is : (phase : Phase) (log : Log) (e : Entry) (s : Stance) → PhaseLogged phase log → is_some (row s phase e) ≡ true → (log_step log e).standing ≡ log_entered phase log.standing e
log_step-is phase log (Did c x) s pending there = log_did-is phase log c x s pending there
log_step-is phase log (Began c t) s pending there = refl
log_step-is phase log (Asked c op) s pending there = refl
log_step-is phase log (Saved c) s pending there = refl
log_step-is phase log (Leave c n) s pending there = refl
log_step-is phase log (Undone c) s pending there = refl
log_step-is phase log (Returned c n) s pending there = refl
log_step-is phase log (Committed c p) s pending there = refl
log_step-is phase log (Busy c op x) s pending there = refl
log_step-is phase log (Aborted c) s pending there = refl

pub log_entered-is : (g : List Entry) (e : Entry) (stance : Stance) → stance_after (own (caller_of e) g) ≡ Some stance → is_some (row stance stance.phase e) ≡ true → log_of (caller_of e) (g ++ e ∷ []) ≡ log_entered stance.phase (log_of (caller_of e) g) e
log_entered-is g e stance stance_is there = log_of-own g e ∙ log_step-is stance.phase (log_after (own (caller_of e) g)) e stance (stance_logged (own (caller_of e) g) stance stance_is).phase there

-- If the entry's caller and the counts change as the entry says, `HaveEntered` holds with the entry
-- added.
pub entered-push : (h : List Entry) (e : Entry) (old new : Callers) (before after : Caller) → HaveEntered h old → is_shaped h e ≡ true → caller_of e < 64 → Sits h (caller_of e) before
    → (is_some (row (stance_of before) (stance_of before).phase e) ≡ true → Enters e before after) → new.table.items ≡ set old.table.items (caller_of e) after
    → new.began ≡ how_many is_began (h ++ e ∷ []) → new.committed ≡ how_many is_commit (h ++ e ∷ []) → HaveEntered (h ++ e ∷ []) new
entered-push h e old new before after entered shaped below sits enters table_is begins commits = record {
  shape = shape_push h e entered.shape shaped;
  below = All-push (λ f. caller_of f < 64) h e entered.below below;
  begins = begins;
  commits = commits;
  stances = λ c. subst (λ xs. IfSome (slice_get xs c) (Sits (h ++ e ∷ []) c)) (sym table_is)
      (each-set (Sits (h ++ e ∷ [])) old.table.items (caller_of e) after (record {
        stance = stance-own h e ∙ ap (option_and_then (λ (s : Stance). row s s.phase e)) sits.stance ∙ goes.stance;
        log = log_entered-is h e (stance_of before) sits.stance there ∙ ap (λ l. log_entered (stance_of before).phase l e) sits.log ∙ sym goes.log;
        begun = has_begun-own h e ∙ ap (λ b. b || is_began e) sits.begun ∙ sym goes.begun;
      })
      (λ d other. if_some (Sits h d) (Sits (h ++ e ∷ []) d) (slice_get old.table.items d)
      (λ caller sits. record { stance = stance-other d h e other ∙ sits.stance; log = log_of-other d h e other ∙ sits.log; begun = has_begun-other d h e other ∙ sits.begun }) (entered.stances d)) c);
}
  where
    there : is_some (row (stance_of before) (stance_of before).phase e) ≡ true
    there = (in_row h e (stance_of before) sits.stance shaped).0

    goes : Enters e before after
    goes = enters there

-- If a caller's stance, log and `has_begun` do not change, `HaveEntered` holds for the same entries
-- as before.
pub entered-same : (h : List Entry) (old new : Callers) (c : ℕ) (before after : Caller) → HaveEntered h old → Sits h c before → stance_of after ≡ stance_of before → log_in after ≡ log_in before → after.has_begun ≡ before.has_begun
    → new.table.items ≡ set old.table.items c after → new.began ≡ old.began → new.committed ≡ old.committed → HaveEntered h new
entered-same h old new c before after entered sits stance log begun table_is begins commits = record {
  shape = entered.shape;
  below = entered.below;
  begins = begins ∙ entered.begins;
  commits = commits ∙ entered.commits;
  stances = λ d. subst (λ xs. IfSome (slice_get xs d) (Sits h d)) (sym table_is)
      (each-set (Sits h) old.table.items c after (record { stance = sits.stance ∙ ap Some (sym stance); log = sits.log ∙ sym log; begun = sits.begun ∙ sym begun }) (λ k other. entered.stances k) d);
}
