-- How a caller's accounts change when one more script is over, and which scripts the caller's
-- committed transactions play.
use Rattle.std.proofs.Common.{◌≡◌, ℕ, suc, ◌+◌, ◌*◌, ◌%◌, ◌<◌, ◌≤◌, List, [], ◌∷◌, ◌++◌, append_assoc, append-nil, length, slice_get}
use Rattle.std.proofs.Common.{filter_map, Some, refl, ap, ◌∙◌, arith, mod-eq_of_lt}
use Rattle.script_worker.proofs.Vocabulary.{Action, add-mul-mod_self_right, AllByRecursion, AreAccounts, AreTrue, commits_of, Entry, every}
use Rattle.script_worker.proofs.Vocabulary.{HasCome, IsAccount, Outcome, PlayRising, slice_get_within, tolds_of}
use Rattle.script_worker.proofs.Every.{get-every, get_empty}
use Rattle.script_worker.specs.Accounts.{committed_txn}

pub tolds_of-none : (scripts : List (List Action)) → tolds_of scripts [] ≡ []
tolds_of-none [] = refl
tolds_of-none (script ∷ scripts) = refl

-- If one more outcome is appended, `tolds_of` appends the pair of the next script and this outcome.
pub tolds_of-push : (scripts : List (List Action)) (outcomes : List Outcome) (script : List Action) (outcome : Outcome) → slice_get scripts (length outcomes) ≡ Some script
    → tolds_of scripts (outcomes ++ outcome ∷ []) ≡ tolds_of scripts outcomes ++ record { script = script; outcome = outcome } ∷ []
tolds_of-push [] outcomes script outcome is = absurd (cc (get_empty (length outcomes), is))
tolds_of-push (first ∷ scripts) [] script outcome is = let same : first ≡ script = cc is in rw (same, tolds_of-none scripts)
tolds_of-push (first ∷ scripts) (o ∷ outcomes) script outcome is = ap (λ ts. record { script = first; outcome = o } ∷ ts) (tolds_of-push scripts outcomes script outcome is)

pub no_account : (c tries : ℕ) (scripts : List (List Action)) → AreAccounts c tries (tolds_of scripts []) []
no_account c tries scripts = rw (tolds_of-none scripts)

pub account_more : (c tries : ℕ) (scripts : List (List Action)) (outcomes : List Outcome) (script : List Action) (outcome : Outcome) (es chunk : List Entry) → slice_get scripts (length outcomes) ≡ Some script
    → AreAccounts c tries (tolds_of scripts outcomes) es → IsAccount c tries script outcome chunk → AreAccounts c tries (tolds_of scripts (outcomes ++ outcome ∷ [])) (es ++ chunk)
account_more c tries [] outcomes script outcome es chunk is told account = absurd (cc (get_empty (length outcomes), is))
account_more c tries (first ∷ scripts) [] script outcome es chunk is none account =
    let same : first ≡ script = cc is in
    (chunk, [], rw (none, append-nil), rw same account, no_account c tries scripts)
account_more c tries (first ∷ scripts) (o ∷ outcomes) script outcome es chunk is (here, later, es_is, account_here, rest) account =
    let others = account_more c tries scripts outcomes script outcome later chunk is rest account in
    (here, later ++ chunk, rw (es_is, append_assoc), account_here, others)

-- Each committed transaction of a caller plays one of the caller's scripts. Later transactions play
-- scripts with greater numbers.
module _ (callers c : ℕ) (below : c < callers) (scripts : List (List Action)) (h : List Entry) where
  abbrev number : ℕ → ℕ
  number k = c + k * callers

  -- The scripts `xs` are scripts `k`, `k + 1`, .. of the caller, counted from 0.
  abbrev AreFrom : List (List Action) → ℕ → Type 0
  AreFrom xs k = (j : ℕ) (script : List Action) → slice_get xs j ≡ Some script → slice_get scripts (number (k + j)) ≡ Some script

  later : (x : List Action) (xs : List (List Action)) (k : ℕ) → AreFrom (x ∷ xs) k → AreFrom xs (suc k)
  later x xs k from j script is =
      let same : suc k + j ≡ k + suc j = omega arith in
      ap (λ i. slice_get scripts (number i)) same ∙ from (suc j) script is

  next_number : (k : ℕ) → suc (number k) ≤ number (suc k)
  next_number k = omega (arith, below)

  rising : (xs : List (List Action)) (outcomes : List Outcome) (k low : ℕ) → AreFrom xs k → low ≤ number k
      → AllByRecursion (λ told. HasCome c h told.script told.outcome) (tolds_of xs outcomes)
      → PlayRising callers scripts c h low (length scripts) (filter_map (λ told. committed_txn told.outcome) (tolds_of xs outcomes))
  rising [] outcomes k low from le all = tt
  rising (x ∷ xs) [] k low from le all = tt
  rising (x ∷ xs) (Outcome.Committed txn place replies ∷ outcomes) k low from le (come, all) =
      let here : k ≡ k + 0 = omega arith in
      let there : slice_get scripts (number k) ≡ Some x = ap (λ i. slice_get scripts (number i)) here ∙ from 0 x refl in
      let mine : number k % callers ≡ c = add-mul-mod_self_right c k callers ∙ mod-eq_of_lt below in
      let within = slice_get_within scripts (number k) x there in
      let others = rising xs outcomes (suc k) (suc (number k)) (later x xs k from) (next_number k) all in
      (number k, x, le, within, record { mine = mine; there = there }, come.plays, others)
  rising (x ∷ xs) (o ∷ outcomes) k low from le (come, all) =
      rising xs outcomes (suc k) low (later x xs k from) (omega (arith, le, next_number k)) all

  pub true_plays : (tries : ℕ) (outcomes : List Outcome) → AreTrue c tries h (tolds_of (every callers c scripts) outcomes) → PlayRising callers scripts c h 0 (length scripts) (commits_of c h)
  true_plays tries outcomes trues =
      rw trues.txns_are (rising (every callers c scripts) outcomes 0 0 first (omega arith) trues.each)
    where
      first : AreFrom (every callers c scripts) 0
      first j script is =
          let same : 0 + j ≡ j = omega arith in
          rw (same, ← get-every callers (omega arith) scripts c j) is
