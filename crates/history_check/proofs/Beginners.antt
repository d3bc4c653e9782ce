-- Which callers have begun a transaction, and what the table of callers says about this.
use Rattle.std.proofs.Common.{◌≡◌, ℕ, ◌<◌, ◌≤◌, ◌&&◌, ◌||◌, Bool, true, false, List, [], ◌∷◌, refl, ap, ◌∙◌, arith}
use Rattle.std.specs.List.{All}
use Rattle.std.proofs.lemmas.Bool.{ne_eqb}
use Rattle.std.proofs.lemmas.List.Elements.{All-head, All-tail}
use Rattle.txn_words.specs.declared.entry.Entry.{Entry}
use Rattle.txn_words.specs.Kinds.{caller_of, is_began}
use Rattle.txn_trace.specs.Locks.{has_begun}

-- If all callers of a history have numbers below 64, no caller with the number 64 or above has
-- begun a transaction.
pub none_begun : (c : ℕ) → 64 ≤ c → (h : List Entry) → All (λ e. caller_of e < 64) h → has_begun c h ≡ false
none_begun c above [] all = refl
none_begun c above (e ∷ h) all =
    let head = All-head (λ e. caller_of e < 64) e h all in
    ap (λ b. (is_began e && b) || has_begun c h) (ne_eqb (caller_of e) c (λ is. absurd (let same : caller_of e ≡ c = is in omega arith)))
    ∙ ap (λ b. b || has_begun c h) (never (is_began e)) ∙ none_begun c above h (All-tail (λ e. caller_of e < 64) e h all)
  where
    never : (b : Bool) → (b && false) ≡ false
    never true = refl
    never false = refl
