-- A caller's own entries in a history, with their positions (`marks`), and the measure of a
-- history.
use Rattle.std.proofs.Common.{◌≡◌, ◌≢◌, ℕ, ◌+◌, ◌%◌, ◌^◌, ◌==◌, Bool, true, false, cond, List, [], ◌∷◌, ◌++◌, length, sym, refl, ap, subst, ◌∙◌, arith, append-nil, length-append, eq-eqb}
use mathlib.Core.Logic.{dite}
use native.Mathlib.Decide.{ℕ_discrete}
use Rattle.txn_words.specs.declared.entry.Entry.{Entry}
use Rattle.txn_words.specs.Kinds.{caller_of}
use Rattle.txn_words.specs.Shape.{own}
use Rattle.txn_trace.proofs.Callers.{not_equal}
use Rattle.striped_map.specs.declared.view.View.{View}
use Rattle.striped_map.specs.declared.keep.Keep.{Keep}
use Rattle.striped_map.specs.declared.keep.Keep.TheVariants.{Nothing, Commits, Entries}
use Rattle.striped_map.specs.Rule.{measure, HasSeen}
use Rattle.striped_map.specs.Steps.{Marked, bare, marks, placed, seeing}
use Rattle.striped_map.specs.Adding.{Grows}

abbrev pub Mark : Type 0
Mark = ℕ × Entry

-- The marks of two lists of entries, one after the other.
pub marks-append : (c i : ℕ) (xs ys : List Entry) → marks c i (xs ++ ys) ≡ marks c i xs ++ marks c (i + length xs) ys
marks-append c i [] ys = ap (λ (k : ℕ). marks c k ys) (omega arith)
marks-append c i (e ∷ xs) ys = at (caller_of e == c) (marks-append c (i + 1) xs ys ∙ ap (λ (k : ℕ). marks c (i + 1) xs ++ marks c k ys) (omega arith))
  where
    at : (b : Bool) → marks c (i + 1) (xs ++ ys) ≡ marks c (i + 1) xs ++ marks c (i + length (e ∷ xs)) ys → cond b ((i % 2 ^ 64, bare e) ∷ marks c (i + 1) (xs ++ ys)) (marks c (i + 1) (xs ++ ys)) ≡ cond b ((i % 2 ^ 64, bare e) ∷ marks c (i + 1) xs) (marks c (i + 1) xs) ++ marks c (i + length (e ∷ xs)) ys
    at true rest = ap (λ (l : List Mark). (i % 2 ^ 64, bare e) ∷ l) rest
    at false rest = rest

some_none : (e : Entry) (es : List Entry) → e ∷ es ≡ [] → ⊥
some_none e es is = let long : length (e ∷ es) ≡ 0 = ap length is in omega arith

-- A caller with no entries has no marks.
pub marks-none : (c i : ℕ) (es : List Entry) → own c es ≡ [] → marks c i es ≡ []
marks-none c i [] none = refl
marks-none c i (e ∷ es) none = at (caller_of e == c) (λ z. marks-none c (i + 1) es z) none
  where
    at : (b : Bool) → (own c es ≡ [] → marks c (i + 1) es ≡ []) → cond b (e ∷ own c es) (own c es) ≡ [] → cond b ((i % 2 ^ 64, bare e) ∷ marks c (i + 1) es) (marks c (i + 1) es) ≡ []
    at true rest z = absurd (some_none e (own c es) z)
    at false rest z = rest z

-- If no other caller has entries in a list, the caller's marks are all entries of the list.
pub marks-all : (c i : ℕ) (es : List Entry) → ((d : ℕ) → d ≢ c → own d es ≡ []) → marks c i es ≡ placed i es
marks-all c i [] others = refl
marks-all c i (e ∷ es) others = dite (ℕ_discrete (caller_of e) c)
    (λ (same : caller_of e ≡ c). ap (λ b. cond b ((i % 2 ^ 64, bare e) ∷ marks c (i + 1) es) (marks c (i + 1) es)) (eq-eqb (caller_of e) c same)
    ∙ ap (λ (l : List Mark). (i % 2 ^ 64, bare e) ∷ l) (marks-all c (i + 1) es (λ d ne. sym (ap (λ b. cond b (e ∷ own d es) (own d es)) (not_equal d (caller_of e) (λ z. ne (z ∙ same)))) ∙ others d ne)))
    (λ ne. absurd (some_none e (own (caller_of e) es) (sym (ap (λ b. cond b (e ∷ own (caller_of e) es) (own (caller_of e) es)) (eq-eqb (caller_of e) (caller_of e) refl)) ∙ others (caller_of e) ne)))

-- Positions count modulo 2^64.
pub placed_as : (i j : ℕ) (es : List Entry) → i % 2 ^ 64 ≡ j % 2 ^ 64 → placed i es ≡ placed j es
placed_as i j [] same = refl
placed_as i j (e ∷ es) same = ap (λ (k : ℕ). (k, bare e) ∷ placed (i + 1) es) same ∙ ap (λ (l : List Mark). (j % 2 ^ 64, bare e) ∷ l) (placed_as (i + 1) (j + 1) es (omega arith))

-- If the rest of a history has no entries of the caller, the rest does not change the marks.
pub marks_seen : (c : ℕ) (seen rest : List Entry) → own c rest ≡ [] → marks c 0 (seen ++ rest) ≡ marks c 0 seen
marks_seen c seen rest none = marks-append c 0 seen rest ∙ ap (λ (l : List Mark). marks c 0 seen ++ l) (marks-none c (0 + length seen) rest none) ∙ append-nil (marks c 0 seen)

-- A caller without entries has none to mark.
pub none_marked : (c d : ℕ) (log : List Entry) → d ≡ c → own c log ≡ [] → marks d 0 log ≡ []
none_marked c d log same none = ap (λ (k : ℕ). marks k 0 log) same ∙ marks_seen c [] log none

-- The measure of the empty history.
pub measure_nil : (keep : Keep) → measure keep [] ≡ 0
measure_nil Nothing = refl
measure_nil Commits = refl
measure_nil Entries = refl

-- If a map keeps its entries, the measure grows by their number.
pub measure_all : (log es : List Entry) (keep : Keep) (k : ℕ) → keep ≡ Entries → length es ≡ k → measure keep (log ++ es) ≡ measure keep log + k
measure_all log es keep k all long = subst (λ (x : Keep). measure x (log ++ es) ≡ measure x log + k) (sym all) (length-append log es ∙ ap (λ (n : ℕ). length log + n) long)

-- If a map does not keep its entries, entries without a commit do not change the measure.
pub measure_quiet : (n c : ℕ) (P : ℕ → Type 0) (log es : List Entry) (keep : Keep) → (keep ≡ Entries → ⊥) → Grows n c P 0 log es → measure keep (log ++ es) ≡ measure keep log
measure_quiet n c P log es Nothing plain grows = refl
measure_quiet n c P log es Commits plain grows = grows.commits ∙ (omega arith)
measure_quiet n c P log es Entries plain grows = absurd (plain refl)

-- An atomic addition to the word of ticks finds the length of the history.
pub length_found : (log es : List Entry) (keep : Keep) (found : ℕ) → keep ≡ Entries → found ≡ measure keep log % 2 ^ 64 → (found + length es) % 2 ^ 64 ≡ length (log ++ es) % 2 ^ 64
length_found log es keep found all is =
    let at : found ≡ length log % 2 ^ 64 = subst (λ (k : Keep). found ≡ measure k log % 2 ^ 64) all is in
    let long = length-append log es in omega arith

-- An atomic addition to the word of ticks finds the position of the first entry that it adds.
pub marked : (n : ℕ) (log es : List Entry) (v : View) → HasSeen n log v → v.acts ≡ true → ((d : ℕ) → d ≢ v.number → own d es ≡ [])
    → (keep : Keep) (found : ℕ) → keep ≡ Entries → found ≡ measure keep log % 2 ^ 64 → Marked v found es (seeing v (log ++ es))
marked n log es v h acting others keep found all is =
    let c : ℕ = v.number in
    let at : found ≡ length log % 2 ^ 64 = subst (λ (k : Keep). found ≡ measure k log % 2 ^ 64) all is in
    marks-append c 0 log es
    ∙ ap (λ (l : List Mark). marks c 0 log ++ l) (marks-all c (0 + length log) es others ∙ placed_as (0 + length log) found es (omega arith))
    ∙ ap (λ (l : List Mark). l ++ placed found es) (ap (marks c 0) h.goes ∙ marks_seen c v.seen h.rest (h.others acting))
