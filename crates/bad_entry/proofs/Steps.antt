-- Loops over a history, and what each next entry adds to their results.
use Rattle.std.proofs.Common.{◌≡◌, ℕ, ◌+◌, ◌<◌, ◌≤◌, List, [], ◌∷◌, ◌++◌, length, take, drop, get_or, Option, ap, sym, ◌∙◌, arith}
use Rattle.std.specs.Option.{option_or}
use Rattle.std.proofs.lemmas.List.{drop_all, drop_more, length-take-le, take_more}
use Rattle.txn_words.specs.declared.entry.Entry.{Entry}
use Rattle.txn_words.specs.Map.{get}
use Rattle.txn_trace.specs.Serial.{serial}
use Rattle.bad_entry.specs.Commits.{settling_commit}
use Rattle.bad_entry.specs.Places.{last_from}

pub next_take : (i : ℕ) (h : List Entry) (e d : Entry) → i < length h → e ≡ d → d ≡ get_or h i d → take (i + 1) h ≡ take i h ++ e ∷ []
next_take i h e d below same at = take_more h i d below ∙ ap (λ x. take i h ++ x ∷ []) (sym (same ∙ at))

pub next_drop : (i : ℕ) (h : List Entry) (e d : Entry) → i < length h → e ≡ d → d ≡ get_or h i d → drop i h ≡ e ∷ drop (i + 1) h
next_drop i h e d below same at = drop_more h i d below ∙ ap (λ x. x ∷ drop (i + 1) h) (sym (same ∙ at))

pub last_at_end : {X : Type 0} (test : List Entry → Entry → Option X) (i : ℕ) (h : List Entry) (last found : Option X) → length h ≤ i → last_from test (take i h) (drop i h) last ≡ found → last ≡ found
last_at_end test i h last found none is = ap (λ r. last_from test (take i h) r last) (sym (drop_all i h none)) ∙ is

-- The index and the caller of the entry `e` after `g`, if `e` is a commit that changes the key's
-- value. `last_commit` is the last result of `commit_at` over a history.
abbrev pub commit_at : ℕ → List Entry → Entry → Option (ℕ × ℕ)
commit_at k g e = settling_commit (length g) e (get (serial g) k) (get (serial (g ++ e ∷ [])) k)

pub commit_next : (k i : ℕ) (h : List Entry) (e d : Entry) (last found : Option (ℕ × ℕ)) (before after : Option ℕ) → i < length h → e ≡ d → d ≡ get_or h i d
    → before ≡ get (serial (take i h)) k → after ≡ get (serial (take i h ++ e ∷ [])) k → last_from (commit_at k) (take i h) (drop i h) last ≡ found
    → last_from (commit_at k) (take (i + 1) h) (drop (i + 1) h) (option_or (settling_commit i e before after) last) ≡ found
commit_next k i h e d last found before after below same at before_is after_is is =
    let few : i ≤ length h = omega arith in
    let here : settling_commit i e before after ≡ commit_at k (take i h) e = (λ j. settling_commit (sym (length-take-le i h few) j) e (before_is j) (after_is j)) in
    (λ j. last_from (commit_at k) (next_take i h e d below same at j) (drop (i + 1) h) (option_or (here j) last))
    ∙ ap (λ r. last_from (commit_at k) (take i h) r last) (sym (next_drop i h e d below same at)) ∙ is
