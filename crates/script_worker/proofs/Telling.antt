-- What a caller's accounts of its scripts say about the history.
use Rattle.std.proofs.Common.{zero, suc, ◌≡◌, ℕ, ◌+◌, ◌-◌, true, List, [], ◌∷◌, ◌++◌, length, length-append, slice_get, Some, sym, ap, ◌∙◌}
use Rattle.std.proofs.Common.{inl, inr, arith, eqb-true, ◌*◌, ◌≤◌, cond, append_assoc, fold, filter, filter_map, None, Option, refl}
use Rattle.script_worker.proofs.Vocabulary.{Action, AllByRecursion, AreAccounts, AreTrue, Began, by_entries, Callers, commits, commits_are}
use Rattle.script_worker.proofs.Vocabulary.{Committed, cons_option, ends_in, ends_in-push, Entry, filter-append, has_committed, HasCome}
use Rattle.script_worker.proofs.Vocabulary.{how_many, in_or_out, is_commit, is_numbered, is_shaped, IsAccount, IsShaped, length-commits, of}
use Rattle.script_worker.proofs.Vocabulary.{of-push_in, of-push_out, Outcome, own, replies_in, RepliesHold, same_from_push, shaped_number}
use Rattle.script_worker.proofs.Vocabulary.{Told, txn_at, txns_of, txns_of-push}
use Rattle.script_worker.proofs.Reading.{inner_begins, inner_commits, next_txn, cons_append, ended_txns, ended-append, are_read, quiet_txns}
use Rattle.script_worker.proofs.Reading.{same_txn}
use Rattle.script_worker.proofs.{Chunks.how_many-append, Every.get_empty, Every.get_last}
use Rattle.script_worker.specs.Accounts as accounts

-- An element of a list keeps its position when other elements are appended.
get_front : {X : Type 0} (xs ys : List X) (i : ℕ) (x : X) → slice_get xs i ≡ Some x → slice_get (xs ++ ys) i ≡ Some x
get_front [] ys i x is = absurd (cc (get_empty i, is))
get_front (y ∷ xs) ys zero x is = is
get_front (y ∷ xs) ys (suc i) x is = get_front xs ys i x is

-- The commit number of a committed transaction is its position among the commits, counted from 1.
abbrev IsPlaced : List Entry → Type 0
IsPlaced h = (t c p : ℕ) (front : List Entry) → of t h ≡ front ++ Committed c p ∷ [] → slice_get (txns_of is_commit h) (p - 1) ≡ Some t

placed_push : (g : List Entry) (e : Entry) → IsShaped g → Callers g → is_shaped g e ≡ true → IsPlaced g → IsPlaced (g ++ e ∷ [])
placed_push g e shape callers shaped placed t c p front is = elim (in_or_out (txn_at g e) t) [
  | inl at ↦
      let same : e ≡ Committed c p = (same_from_push (of t g) front e (Committed c p) (sym (of-push_in t g e at) ∙ is)).1 in
      let numbered : is_numbered g (Committed c p) ≡ true = rw same at (shaped_number g e shaped) in
      let number : p ≡ how_many is_commit g + 1 = eqb-true p (how_many is_commit g + 1) numbered in
      let count : length (txns_of is_commit g) ≡ how_many is_commit g = rw (← commits_are g shape) (length-commits g shape) in
      let last : p - 1 ≡ length (txns_of is_commit g) = omega arith in
      rw (txns_of-push is_commit g e, at, same, last) (get_last (txns_of is_commit g) t)
  | inr out ↦
      rw (txns_of-push is_commit g e) (get_front (txns_of is_commit g) _ (p - 1) t (placed t c p front (sym (of-push_out t g e out) ∙ is)))
]

pub committed_placed : (h : List Entry) → IsShaped h → (t c p : ℕ) (front : List Entry) → of t h ≡ front ++ Committed c p ∷ [] → slice_get (commits h) (p - 1) ≡ Some t
committed_placed h shape t c p front is =
    rw (commits_are h shape) (by_entries IsPlaced placed_push none h shape t c p front is)
  where
    none : IsPlaced []
    none t c p front is = absurd (omega (arith, length-append front (Committed c p ∷ []), ap length is))

-- The outcome of one account agrees with the history, wherever the account stands among the
-- caller's own entries.
module _ (c tries : ℕ) (h : List Entry) (shape : IsShaped h) (replies : RepliesHold h) where
  has_come : (script : List Action) (outcome : Outcome) (front here later : List Entry) → own c h ≡ front ++ (here ++ later) → IsAccount c tries script outcome here → HasCome c h script outcome
  has_come script (accounts.Committed txn place told) front here later own_is (before, part, here_is, quiet, p) =
      let own_then : own c h ≡ (front ++ before) ++ ((Began c txn ∷ p.inner ++ Committed c place ∷ []) ++ later) =
      rw (own_is, here_is, p.whole) (simp append_assoc) in
      let plays = rw p.whole at p.plays in
      let quiet_inside = inner_begins c script txn place p.inner plays in
      let whole : of txn h ≡ Began c txn ∷ p.inner ++ Committed c place ∷ [] =
      (has_committed c txn place h (front ++ before) p.inner later shape replies own_then quiet_inside).whole in
      record {
        inner = p.inner;
        whole = whole;
        plays = rw whole plays;
        committed = ap (ends_in is_commit) whole ∙ ends_in-push is_commit (Began c txn ∷ p.inner) (Committed c place);
        placed = committed_placed h shape txn c place (Began c txn ∷ p.inner) whole;
        replied = ap replies_in (whole ∙ sym p.whole) ∙ p.replied;
      }
  has_come script outcome front here later own_is account = tt

  have_come : (tolds : List Told) (front es : List Entry) → own c h ≡ front ++ es → AreAccounts c tries tolds es → AllByRecursion (λ told. HasCome c h told.script told.outcome) tolds
  have_come [] front es own_is all = tt
  have_come (told ∷ tolds) front es own_is (here, later, es_is, account, rest) = (
    has_come told.script told.outcome front here later (rw es_is at own_is) account,
    have_come tolds (front ++ here) later (rw (es_is, ← append_assoc front here later) at own_is) rest,
  )

-- The Committed entries in an account are those of the account's outcome. `commits_told` is the
-- same lemma for several accounts.
account_commits : (c tries : ℕ) (script : List Action) (outcome : Outcome) (here : List Entry) → IsAccount c tries script outcome here → filter is_commit here ≡ cons_option (accounts.commit_in c outcome) []
account_commits c tries script (accounts.Committed txn place replies) here (before, part, here_is, quiet, p) =
    let silent = inner_commits c script txn place p.inner (rw p.whole at p.plays) in
    rw (here_is, p.whole, filter-append, quiet, filter-append is_commit p.inner (Committed c place ∷ []), silent)
account_commits c tries script accounts.Busy here busy = busy.nothing
account_commits c tries script outcome here quiet = quiet

commits_told : (c tries : ℕ) (tolds : List Told) (es : List Entry) → AreAccounts c tries tolds es → filter is_commit es ≡ filter_map (λ told. accounts.commit_in c told.outcome) tolds
commits_told c tries [] es none = ap (filter is_commit) none
commits_told c tries (told ∷ tolds) es (here, later, es_is, account, rest) =
    rw (es_is, filter-append, account_commits c tries told.script told.outcome here account, commits_told c tries tolds later rest)
    (sym (cons_append (accounts.commit_in c told.outcome) [] (filter_map (λ told. accounts.commit_in c told.outcome) tolds)))

-- For each account with the outcome Busy, the entries have at least `tries + 1` Busy entries.
busy_told : (c tries : ℕ) (tolds : List Told) (es : List Entry) → AreAccounts c tries tolds es
    → length (filter (λ told. accounts.is_busy_outcome told.outcome) tolds) * (tries + 1) ≤ how_many accounts.is_busy es
busy_told c tries [] es none = omega arith
busy_told c tries (told ∷ tolds) es (here, later, es_is, account, rest) =
    rw (es_is, how_many-append accounts.is_busy here later)
    (at told.outcome account (busy_told c tries tolds later rest))
  where
    busy : List Told
    busy = filter (λ told. accounts.is_busy_outcome told.outcome) tolds

    at : (outcome : Outcome) → IsAccount c tries told.script outcome here → length busy * (tries + 1) ≤ how_many accounts.is_busy later
        → length (cond (accounts.is_busy_outcome outcome) (told ∷ busy) busy) * (tries + 1) ≤ how_many accounts.is_busy here + how_many accounts.is_busy later
    at accounts.Busy account below = omega (arith, account.enough)
    at outcome account below = omega arith

-- The committed transactions that are read from an account are those of the account's outcome.
-- `txns_told` is the same lemma for several accounts.
account_txns : (c tries : ℕ) (script : List Action) (outcome : Outcome) (here : List Entry) (o : Option ℕ) → IsAccount c tries script outcome here → ended_txns o here ≡ cons_option (accounts.committed_txn outcome) []
account_txns c tries script (accounts.Committed txn place replies) here o (before, part, here_is, quiet, p) =
    let plays = rw p.whole at p.plays in
    rw (here_is, p.whole, ended-append, quiet_txns o before quiet, ended-append (Some txn) p.inner (Committed c place ∷ []))
    (λ i. quiet_txns (Some txn) p.inner (inner_commits c script txn place p.inner plays) i
    ++ cons_option (same_txn (Some txn) p.inner (inner_begins c script txn place p.inner plays) i) [])
account_txns c tries script accounts.Busy here o busy = quiet_txns o here busy.nothing
account_txns c tries script outcome here o quiet = quiet_txns o here quiet

txns_told : (c tries : ℕ) (tolds : List Told) (es : List Entry) (o : Option ℕ) → AreAccounts c tries tolds es → ended_txns o es ≡ filter_map (λ told. accounts.committed_txn told.outcome) tolds
txns_told c tries [] es o none = ap (ended_txns o) none
txns_told c tries (told ∷ tolds) es o (here, later, es_is, account, rest) =
    let others = txns_told c tries tolds later (fold next_txn o here) rest in
    rw (es_is, ended-append, account_txns c tries told.script told.outcome here o account, others)
    (sym (cons_append (accounts.committed_txn told.outcome) [] (filter_map (λ told. accounts.committed_txn told.outcome) tolds)))

-- If a caller's own entries are the accounts of its scripts, the outcomes of these scripts agree
-- with the history: `AreTrue` holds.
pub accounts_true : (c tries : ℕ) (h : List Entry) (tolds : List Told) → IsShaped h → RepliesHold h → AreAccounts c tries tolds (own c h) → AreTrue c tries h tolds
accounts_true c tries h tolds shape replies all = record {
  each = have_come c tries h shape replies tolds [] (own c h) refl all;
  entries_are = commits_told c tries tolds (own c h) all;
  txns_are = (are_read c h shape).all ∙ txns_told c tries tolds (own c h) None all;
  busy = busy_told c tries tolds (own c h) all;
}
