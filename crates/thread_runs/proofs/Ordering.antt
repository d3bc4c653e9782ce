-- Merges rows into one list by taking one element from each row in turn. Each row is in reverse:
-- its last element comes first.
use Rattle.std.proofs.Common.{◌≡◌, ℕ, ◌+◌, ◌*◌, ◌/◌, ◌%◌, ◌<◌, List, [], ◌∷◌, ◌++◌, append_assoc, length, length-append, reverse, set, Some}
use Rattle.std.proofs.Common.{refl, sym, ap, ◌∙◌, inl, inr, arith, slice_get, slice_index_or, append-nil, length-set}
use Rattle.thread_runs.proofs.Vocabulary.{Each, every-fewer, every-hit, every-length, every-miss, get_within, number_at, one_remainder}
use Rattle.script_worker.proofs.Vocabulary.{cases_eq, every, length-reverse, nil_from_length, reverse-append, slice_get_read}
use Rattle.script_worker.proofs.Vocabulary.{slice_get_within}
use Rattle.boost_core.proofs.SideRefusals.{set_here}
use Rattle.thread_runs.proofs.Lists.{get_set_other}

-- The merged list `out` has taken some elements of row `i`. The elements that remain are those of
-- row `i` of `left`.
abbrev pub HasLeft : {R X : Type 0} → (R → List X) → ℕ → List R → List X → ℕ → R → Type 0
HasLeft {R} items n left out i was = (row : R) × (slice_get left i ≡ Some row) ×
    (reverse (items was) ≡ every n i out ++ reverse (items row))

pub record IsLeft {R X : Type 0} (items : R → List X) (n : ℕ) (rows left : List R) (out : List X) : Type 0 where
  pub as_many : length left ≡ length rows
  pub each : Each (HasLeft items n left out) rows

-- The positions of a row are those whose remainder modulo `n` is the row's number. Each row has as
-- many elements as `ys` has at the row's positions.
abbrev pub AreWholeRows : {R X Y : Type 0} → (R → List X) → ℕ → List R → List Y → Type 0
AreWholeRows items n rows ys = Each (λ c row. length (items row) ≡ length (every n c ys)) rows

-- If one more element is taken from the next row and appended to `out`, `IsLeft` still holds.
pub left_more : {R X : Type 0} (items : R → List X) (n : ℕ) (rows left : List R) (out : List X) (c : ℕ) (row row' : R) (x : X) → 0 < n → length rows ≡ n → c ≡ length out % n → slice_get left c ≡ Some row → items row ≡ items row' ++ x ∷ []
    → IsLeft items n rows left out → IsLeft items n rows (set left c row') (out ++ x ∷ [])
left_more items n rows left out c row row' x some as_many turn is popped so_far =
    record { as_many = length-set left c row' ∙ so_far.as_many; each = by }
  where
    by : Each (HasLeft items n (set left c row') (out ++ x ∷ [])) rows
    by i was in_rows =
        let k = length out / n in
        let at : length out ≡ c + k * n = rw turn (number_at (length out) n) in
        let low : c < n = omega (arith, turn, some) in
        let below : i < n = omega (arith, as_many, slice_get_within rows i was in_rows) in
        let (old, there, rest) = so_far.each i was in_rows in elim (cases_eq c i) [
          | inl same ↦
              let mine : old ≡ row = cc (is, there, same) in
              let left_is = rw (mine, popped, reverse-append (items row') (x ∷ []), ← same) at rest in
              let there' = set_here left c row' (slice_get_within left c row is) in
              rw (← same) (row', there', rw (every-hit n some out x c k at, append_assoc) left_is)
          | inr apart ↦ (
            old,
            get_set_other left c i row' apart ∙ there,
            rw (every-miss n some out x i (λ j is_at. apart (one_remainder n c i k j low below (sym at ∙ is_at)))) rest,
          )
        ]

-- If `out` is shorter than `ys`, the next row has an element that is not yet in `out`.
left_some : {R X Y : Type 0} (items : R → List X) (n : ℕ) (rows left : List R) (out : List X) (ys : List Y) (c : ℕ) (row : R) → 0 < n
    → length rows ≡ n → c ≡ length out % n → length out < length ys → AreWholeRows items n rows ys
    → slice_get left c ≡ Some row → IsLeft items n rows left out → 0 < length (items row)
left_some items n rows left out ys c row some as_many turn fewer whole is so_far =
    let (was, in_rows) = get_within rows c (omega (arith, as_many, turn, some)) in
    let (old, there, rest) = so_far.each c was in_rows in
    let same : old ≡ row = cc (is, there) in
    let parts = simp (length-append, length-reverse) at (ap length (rw same at rest)) in
    let less : length (every n c out) < length (every n c ys) = rw turn (every-fewer n some out ys fewer) in
    omega (arith, parts, less, whole c was in_rows)

-- Row `k`, from which the code takes the next element, has an element that is not yet in `out`. Its
-- number `k` is the length of `out` modulo the number of rows.
pub row_at : {R X Y : Type 0} (items : R → List X) (rows left : List R) (out : List X) (ys : List Y) (number workers k : ℕ) (row : R)
    → k ≡ number % workers → 0 < length rows → workers ≡ length rows → length out ≡ number → number < length ys
    → AreWholeRows items (length rows) rows ys → IsLeft items (length rows) rows left out → row ≡ slice_index_or left k row
    → (k ≡ length out % length rows) × (slice_get left k ≡ Some row) × (0 < length (items row))
row_at items rows left out ys number workers k row turn some as_many at fewer whole so_far is =
    let next : k ≡ length out % length rows = turn ∙ (λ i. sym at i % as_many i) in
    let there = slice_get_read left (length left) k row refl (omega (arith, turn, some, as_many, so_far.as_many)) is in
    (next, there, left_some items (length rows) rows left out ys k row some refl next (rw at fewer) whole there so_far)

-- If `out` is as long as `ys`, it has all elements of each row.
pub left_all : {R X Y : Type 0} (items : R → List X) (n : ℕ) (rows left : List R) (out : List X) (ys : List Y) → length out ≡ length ys → AreWholeRows items n rows ys → IsLeft items n rows left out
    → Each (λ c row. every n c out ≡ reverse (items row)) rows
left_all items n rows left out ys same whole so_far c was is =
    let (row, there, rest) = so_far.each c was is in
    let parts : length (items was) ≡ length (every n c out) + length (reverse (items row)) = sym (length-reverse (items was)) ∙ ap length rest ∙ length-append (every n c out) (reverse (items row)) in
    let none : length (reverse (items row)) ≡ 0 = omega (arith, parts, whole c was is, every-length n out ys c same) in
    sym (rest ∙ ap (λ xs. every n c out ++ xs) (nil_from_length (reverse (items row)) none) ∙ append-nil (every n c out))
