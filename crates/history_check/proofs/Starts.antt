-- The callers before the first entry, and how many of them are in a transaction.
use Rattle.std.proofs.Common.{◌≡◌, ℕ, false, suc, zero, ◌+◌, ◌<◌, ◌≤◌, cond, List, [], ◌∷◌, ◌++◌, length, refl, ap, sym, subst, ◌∙◌, Some, arith, max}
use Rattle.std.specs.Prelude.{slice_get}
use Rattle.std.specs.Option.{IfSome}
use Rattle.std.specs.List.{All, fold, range_with_len, count_by}
use Rattle.std.proofs.lemmas.List.Elements.{All-nil, All-head, All-tail}
use Rattle.std.proofs.lemmas.List.Sums.{length-filter, sum_by-cons}
use mathlib.Core.List.{IsPrefix}
use Rattle.txn_words.specs.declared.entry.Entry.{Entry}
use Rattle.txn_words.specs.Kinds.{caller_of}
use Rattle.txn_words.specs.Shape.{closed_stance, stance_after, own}
use Rattle.txn_trace.specs.Legal.{runs, is_running, callers_in, running}
use Rattle.txn_trace.proofs.Counts.{length-open_txns}
use Rattle.history_check.specs.declared.caller.Caller.{Caller}
use Rattle.history_check.specs.declared.callers.Callers.{Callers}
use Rattle.history_check.specs.Callers.{stance_of, log_in, Sits, HaveEntered}

-- A caller that has done nothing.
abbrev pub IsFresh : Caller → Type 0
IsFresh caller = (stance_of caller ≡ closed_stance) × (log_in caller ≡ []) × (caller.has_begun ≡ false)

fresh_sits : (callers : List Caller) → All IsFresh callers → (c k : ℕ) → IfSome (slice_get callers k) (Sits [] c)
fresh_sits [] all c k = tt
fresh_sits (x ∷ xs) all c zero = let fresh = All-head IsFresh x xs all in record { stance = ap Some (sym fresh.0); log = sym fresh.1; begun = sym fresh.2 }
fresh_sits (x ∷ xs) all c (suc k) = fresh_sits xs (All-tail IsFresh x xs all) c k

not_empty : (g : List Entry) (e : Entry) → IsPrefix (g ++ e ∷ []) [] → ⊥
not_empty [] e p = cc (p.1)
not_empty (x ∷ g) e p = cc (p.1)

pub entered-none : (callers : Callers) → All IsFresh callers.table.items → callers.began ≡ 0 → callers.committed ≡ 0 → HaveEntered [] callers
entered-none callers fresh none_began none_committed = record {
  shape = λ g e p. absurd (not_empty g e p);
  below = All-nil (λ e. caller_of e < 64);
  begins = none_began;
  commits = none_committed;
  stances = λ c. fresh_sits callers.table.items fresh c c;
}

-- The table and the history agree on how many callers are in a transaction.
count_by-sits : (h : List Entry) (callers : List Caller) (start : ℕ) → ((k : ℕ) → IfSome (slice_get callers k) (Sits h (start + k)))
    → count_by (λ (caller : Caller). runs (stance_of caller).phase) callers ≡ count_by (λ c. is_running (stance_after (own c h))) (range_with_len start (length callers))
count_by-sits h [] start sits = refl
count_by-sits h (x ∷ xs) start sits =
    let here : start + 0 ≡ start = omega arith in
    let head : Sits h start x = subst (λ c. Sits h c x) here (sits 0) in
    let rest = count_by-sits h xs (start + 1) (λ k. let next : start + suc k ≡ start + 1 + k = omega arith in subst (λ c. IfSome (slice_get xs k) (Sits h c)) next (sits (suc k))) in
    sum_by-cons (λ (caller : Caller). cond (runs (stance_of caller).phase) 1 0) x xs
    ∙ (λ i. cond (is_running (sym head.stance i)) 1 0 + rest i)
    ∙ sym (sum_by-cons (λ c. cond (is_running (stance_after (own c h))) 1 0) start (range_with_len (start + 1) (length xs)))

callers_below : (n : ℕ) (h : List Entry) → n ≤ 64 → All (λ e. caller_of e < 64) h → fold (λ n e. max n (caller_of e + 1)) n h ≤ 64
callers_below n [] within all = within
callers_below n (e ∷ h) within all =
    let head = All-head (λ e. caller_of e < 64) e h all in
    callers_below (max n (caller_of e + 1)) h (omega arith) (All-tail (λ e. caller_of e < 64) e h all)

pub running_is : (h : List Entry) (callers : Callers) → HaveEntered h callers → count_by (λ (caller : Caller). runs (stance_of caller).phase) callers.table.items ≡ length (running (callers_in h) h)
running_is h callers entered =
    let all : length callers.table.items ≡ 64 = sym callers.table.ok.0 ∙ callers.all in
    let some : 0 ≤ 64 = omega arith in
    count_by-sits h callers.table.items 0 (λ k. let same : k ≡ 0 + k = omega arith in subst (λ c. IfSome (slice_get callers.table.items k) (Sits h c)) same (entered.stances k))
    ∙ ap (λ n. count_by (λ c. is_running (stance_after (own c h))) (range_with_len 0 n)) all ∙ sym (length-filter (λ c. is_running (stance_after (own c h))) (range_with_len 0 64))
    ∙ sym (length-open_txns 64 h entered.shape (callers_below 0 h some entered.below)) ∙ length-open_txns (callers_in h) h entered.shape (omega arith)
