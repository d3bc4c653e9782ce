-- The entries of a transaction that plays a script, and how a caller's committed transactions are
-- read from the caller's own entries.
use Rattle.std.proofs.Common.{◌≡◌, ℕ, Bool, true, false, List, [], ◌∷◌, ◌++◌, append-nil, fold, filter, Some, None, Option, option_and_then}
use Rattle.std.proofs.Common.{is_some, refl, sym, ap, ◌∙◌, ◌==◌, cond, inl, inr, eq-eqb, ne_eqb}
use Rattle.script_worker.proofs.Vocabulary.{Action, and-false, and-true, ArePlayed, Asked, Began, by_entries, caller_of, cases_eq}
use Rattle.script_worker.proofs.Vocabulary.{closed_stance, CommitNothing, commits_of, Committed, cons_option, Did, Entry, false≢true}
use Rattle.script_worker.proofs.Vocabulary.{filter-append, fold-append, is_began, is_commit, is_commit_of, IsPlayed, IsShaped, Leave, own}
use Rattle.script_worker.proofs.Vocabulary.{own-push_in, own-push_out, Returned, row, same_from_push, Saved, Stance, stance_after, txn_after}
use Rattle.script_worker.proofs.Vocabulary.{txn_at, txn_in, txn_in-push, txns_of-push, Undone, without_undone}

-- Entries that begin no transaction.
abbrev pub BeginNothing : List Entry → Type 0
BeginNothing es = filter is_began es ≡ []

-- Entries that play a script begin no transaction, and have exactly one entry that commits.
played : (script : List Action) (es : List Entry) → ArePlayed script es → BeginNothing es × (e : Entry) × (filter is_commit es ≡ e ∷ [])
played [] (Committed c p ∷ []) plays = (refl, Committed c p, refl)
played (Action.Op op ∷ script) (Asked c asked ∷ Did d reply ∷ es) plays = played script es plays.1
played (Action.Save ∷ script) (Saved c ∷ es) plays = played script es plays
played (Action.Back n ∷ script) (Leave c (Some level) ∷ Returned d reached ∷ es) plays = played script es plays.2
played (Action.Help k ∷ script) es plays = played script es plays
played _ _ plays = absurd plays

-- If no Undone entry passes a test, removing the Undone entries does not change which entries pass
-- the test.
with_undone : (test : Entry → Bool) → ((c : ℕ) → test (Undone c) ≡ false) → (es : List Entry)
    → filter test es ≡ filter test (without_undone es)
with_undone test never [] = refl
with_undone test never (Undone c ∷ es) = rw (never c) (with_undone test never es)
with_undone test never (e ∷ es) = rw (with_undone test never es)

module _ (c : ℕ) (script : List Action) (txn place : ℕ) (inner : List Entry) (plays : IsPlayed script (without_undone (Began c txn ∷ inner ++ Committed c place ∷ []))) where
  abbrev rest : List Entry
  rest = inner ++ Committed c place ∷ []

  pub inner_begins : BeginNothing inner
  inner_begins = rw (filter-append is_began inner (Committed c place ∷ []), append-nil) at
      (with_undone is_began (λ c. refl) rest ∙ (played script (without_undone rest) plays).0)

  pub inner_commits : CommitNothing inner
  inner_commits =
      let (quiet, e, one) = played script (without_undone rest) plays in
      (same_from_push (filter is_commit inner) [] (Committed c place) e
      (sym (filter-append is_commit inner (Committed c place ∷ [])) ∙ with_undone is_commit (λ c. refl) rest ∙ one)).0

-- The stance after one more entry, or None if `row` does not allow the entry.
abbrev stance_step : Option Stance → Entry → Option Stance
stance_step stance e = option_and_then (λ s. row s s.phase e) stance

none_stays : (es : List Entry) → fold stance_step None es ≡ None
none_stays [] = refl
none_stays (e ∷ es) = none_stays es

pub stance_front : (es fs : List Entry) → is_some (stance_after (es ++ fs)) ≡ true → is_some (stance_after es) ≡ true
stance_front es fs some = at (stance_after es) (ap is_some (sym (fold-append stance_step (Some closed_stance) es fs)) ∙ some)
  where
    at : (o : Option Stance) → is_some (fold stance_step o fs) ≡ true → is_some o ≡ true
    at None some = absurd (false≢true (sym (ap is_some (none_stays fs)) ∙ some))
    at (Some s) some = refl

-- The number of the transaction that began last, updated for one more entry. `ended_txns` lists
-- this number for each Committed entry.
abbrev pub next_txn : Option ℕ → Entry → Option ℕ
next_txn o (Began c t) = Some t
next_txn o _ = o

abbrev pub ended_txns : Option ℕ → List Entry → List ℕ
ended_txns o [] = []
ended_txns o (e ∷ es) = cons_option (cond (is_commit e) (next_txn o e) None) (ended_txns (next_txn o e) es)

pub cons_append : {X : Type 0} (o : Option X) (xs ys : List X) → cons_option o (xs ++ ys) ≡ cons_option o xs ++ ys
cons_append None xs ys = refl
cons_append (Some x) xs ys = refl

pub ended-append : (o : Option ℕ) (xs ys : List Entry) → ended_txns o (xs ++ ys) ≡ ended_txns o xs ++ ended_txns (fold next_txn o xs) ys
ended-append o [] ys = refl
ended-append o (x ∷ xs) ys = rw (ended-append (next_txn o x) xs ys, cons_append)

pub record IsRead (c : ℕ) (h : List Entry) : Type 0 where
  pub last : txn_in h c ≡ fold next_txn None (own c h)
  pub all : commits_of c h ≡ ended_txns None (own c h)

at-next : (g : List Entry) (e : Entry) → txn_at g e ≡ next_txn (txn_in g (caller_of e)) e
at-next g (Began c t) = ap (λ b. cond b (Some t) (txn_in g c)) (eq-eqb c c refl)
at-next g _ = refl

txn_stays : (g : List Entry) (e : Entry) (c : ℕ) → (caller_of e == c) ≡ false → txn_after (txn_in g) e c ≡ txn_in g c
txn_stays g (Began d t) c other = ap (λ b. cond b (Some t) (txn_in g c)) other
txn_stays g _ c other = refl

read_push : (c : ℕ) (g : List Entry) (e : Entry) → IsRead c g → IsRead c (g ++ e ∷ [])
read_push c g e r = elim (cases_eq (caller_of e) c) [
  | inl mine ↦
      let at : txn_at g e ≡ next_txn (fold next_txn None (own c g)) e = at-next g e ∙ ap (λ o. next_txn o e) (ap (txn_in g) mine ∙ r.last) in
      record {
        last = ap (λ f. f c) (txn_in-push g e) ∙ rw (own-push_in c g e mine, fold-append, ← at, ← mine);
        all = rw (own-push_in c g e mine, ended-append, txns_of-push (is_commit_of c) g e, eq-eqb _ c mine, and-true, at, r.all);
      }
  | inr other ↦
      let apart : (caller_of e == c) ≡ false = ne_eqb (caller_of e) c other in
      record {
        last = ap (λ f. f c) (txn_in-push g e) ∙ rw (own-push_out c g e apart, txn_stays g e c apart) r.last;
        all = rw (own-push_out c g e apart, txns_of-push (is_commit_of c) g e, apart, and-false, append-nil) r.all;
      }
]

pub are_read : (c : ℕ) (h : List Entry) → IsShaped h → IsRead c h
are_read c = by_entries (IsRead c) (λ g e shape callers shaped r. read_push c g e r) (record { last = refl; all = refl })

-- Entries that commit nothing yield no committed transaction.
pub quiet_txns : (o : Option ℕ) (es : List Entry) → CommitNothing es → ended_txns o es ≡ []
quiet_txns o [] quiet = refl
quiet_txns o (Committed c p ∷ es) quiet = absurd (cc quiet)
quiet_txns o (e ∷ es) quiet = quiet_txns (next_txn o e) es quiet

-- Entries that begin no transaction leave the present transaction unchanged.
pub same_txn : (o : Option ℕ) (es : List Entry) → BeginNothing es → fold next_txn o es ≡ o
same_txn o [] quiet = refl
same_txn o (Began c t ∷ es) quiet = absurd (cc quiet)
same_txn o (e ∷ es) quiet = same_txn o es quiet
