-- Shows that bytes can be judged line by line, because a line feed cuts them into a line and the
-- lines of the rest, and a last line feed adds no entry.
use Rattle.std.proofs.Common.{◌≡◌, ℕ, suc, ◌+◌, ◌-◌, ◌<◌, Bool, true, false, cond, nat_le, List, [], ◌∷◌, ◌++◌, length, take, drop, get_or, Option, Some, None, Result, Ok, Err, refl, sym, ap, ◌∙◌, append_assoc, append-nil, add-one, arith, take-append-drop, length-take-le, get_or-take, drop-cons, length-append, length-drop}
use Rattle.std.specs.List.{position, position_or_len, onto_first}
use Rattle.std.proofs.lemmas.Bool.{eqb-true, ltb-false}
use Rattle.std.proofs.lemmas.Bool.Decides.{nat_tests}
use Rattle.std.proofs.lemmas.List.{take_all}
use Rattle.std.proofs.lemmas.List.Elements.{All-head, All-tail, All-append}
use Rattle.std.proofs.lemmas.List.Sums.{fails_before_first}
use Rattle.std.proofs.lemmas.List.Quantifiers.{position-Some}
use Rattle.std.proofs.lemmas.List.Splits.{slice_split-cons_yes, slice_split-cons_no, slice_split_at}
use Rattle.txn_words.specs.declared.entry.Entry.{Entry}
use Rattle.piece_files.specs.declared.file_fault.FileFault.{FileFault}
use Rattle.piece_files.specs.declared.file_fault.FileFault.TheVariants.{Limit}
use Rattle.txn_files.specs.EntryLine.{entry_on}
use Rattle.txn_files.specs.EntryLines.{history_from, history_of_lines, split_lines}
use Rattle.judge_engine.specs.Breaks.{is_break, IsUnbroken}
use Rattle.judge_engine.specs.LineReads.{those}
use Rattle.judge_engine.specs.Watchers.{ahead, HasWatched}

-- ---- the place of the first line feed

cut_off : (b : Bool) (n : ℕ) → cond b (Some n) None ≡ None → b ≡ false
cut_off true n e = absurd (cc)
cut_off false n e = refl

pub unbroken_whole : (xs : List ℕ) → position is_break xs ≡ None → IsUnbroken xs
unbroken_whole xs none k d lt =
    let far = ltb-false (position_or_len is_break xs) (length xs) (cut_off _ _ none) in
    fails_before_first is_break xs k d (omega (arith, far, lt))

pub unbroken_front : (xs : List ℕ) (i : ℕ) → position is_break xs ≡ Some i → IsUnbroken (take i xs)
unbroken_front xs i e k d lt =
    let p = position-Some is_break xs i d e in
    let before : k < i = omega (arith, lt, length-take-le i xs (omega (arith, p.0))) in
    rw (get_or-take i xs k d before) (p.2 k before)

pub broken_at : (xs : List ℕ) (i : ℕ) → position is_break xs ≡ Some i → (i < length xs) × (xs ≡ take i xs ++ 10 ∷ drop (i + 1) xs)
broken_at xs i e =
    let p = position-Some is_break xs i 0 e in
    let ten : get_or xs i 0 ≡ 10 = eqb-true (get_or xs i 0) 10 p.1 in
    let rest : drop i xs ≡ 10 ∷ drop (i + 1) xs = drop-cons xs i 0 p.0 ∙ ap (λ y. y ∷ drop (suc i) xs) ten ∙ ap (λ n. 10 ∷ drop n xs) (sym (add-one i)) in
    (p.0, sym (take-append-drop i xs) ∙ ap (λ ys. take i xs ++ ys) rest)

-- If a line and its line feed are moved from the rest of a chunk to the part that is done, the two
-- parts still make up the chunk.
pub cut_line : (chunk done rest : List ℕ) (i n : ℕ) → chunk ≡ done ++ rest → position is_break rest ≡ Some i → n ≡ length rest → chunk ≡ (done ++ (take i rest ++ 10 ∷ [])) ++ take (n - (i + 1)) (drop (i + 1) rest)
cut_line chunk done rest i n is e long =
    let b = broken_at rest i e in
    let whole : take (n - (i + 1)) (drop (i + 1) rest) ≡ drop (i + 1) rest = take_all (n - (i + 1)) (drop (i + 1) rest) (omega (arith, length-drop (i + 1) rest, long)) in
    let same : (done ++ (take i rest ++ 10 ∷ [])) ++ drop (i + 1) rest ≡ done ++ (take i rest ++ 10 ∷ drop (i + 1) rest) = simp append_assoc in
    is ∙ ap (λ r. done ++ r) b.1 ∙ sym same ∙ ap (λ d. (done ++ (take i rest ++ 10 ∷ [])) ++ d) (sym whole)

-- ---- lines

pub line_then : (xs ys : List ℕ) → IsUnbroken xs → split_lines (xs ++ 10 ∷ ys) ≡ xs ∷ split_lines ys
line_then xs ys h = slice_split_at is_break xs 10 ys h refl

first_split : (x : ℕ) (xs : List ℕ) (b : Bool) → is_break x ≡ b → (first : List ℕ) (rest : List (List ℕ)) → split_lines xs ≡ first ∷ rest → (f : List ℕ) × (r : List (List ℕ)) × (split_lines (x ∷ xs) ≡ f ∷ r)
first_split x xs true e first rest is = ([], split_lines xs, slice_split-cons_yes is_break x xs e)
first_split x xs false e first rest is = (x ∷ first, rest, slice_split-cons_no is_break x xs e ∙ ap (onto_first x) is)

-- `split_lines` returns at least one line.
pub some_line : (xs : List ℕ) → (first : List ℕ) × (rest : List (List ℕ)) × (split_lines xs ≡ first ∷ rest)
some_line [] = ([], [], refl)
some_line (x ∷ xs) = let s = some_line xs in first_split x xs (is_break x) refl s.0 s.1 s.2

-- If a text begins with bytes that have no line feed, its first line begins with them.
pub line_begins : (xs more : List ℕ) → IsUnbroken xs → (first : List ℕ) × (rest : List (List ℕ)) × (split_lines (xs ++ more) ≡ (xs ++ first) ∷ rest)
line_begins [] more h = some_line more
line_begins (x ∷ xs) more h =
    let s = line_begins xs more (All-tail (λ byte. is_break byte ≡ false) x xs h) in
    (s.0, s.1, slice_split-cons_no is_break x (xs ++ more) (All-head (λ byte. is_break byte ≡ false) x xs h) ∙ ap (onto_first x) s.2)

onto_more : (x : ℕ) (xs : List ℕ) (first : List ℕ) (rest lines : List (List ℕ)) → split_lines xs ≡ first ∷ rest → onto_first x (split_lines xs ++ lines) ≡ onto_first x (split_lines xs) ++ lines
onto_more x xs first rest lines is = rw is refl

last_break : (x : ℕ) (xs : List ℕ) (b : Bool) → is_break x ≡ b → split_lines (xs ++ 10 ∷ []) ≡ split_lines xs ++ [] ∷ [] → split_lines ((x ∷ xs) ++ 10 ∷ []) ≡ split_lines (x ∷ xs) ++ [] ∷ []
last_break x xs true e is = slice_split-cons_yes is_break x (xs ++ 10 ∷ []) e ∙ ap (λ ls. [] ∷ ls) is ∙ sym (ap (λ ls. ls ++ [] ∷ []) (slice_split-cons_yes is_break x xs e))
last_break x xs false e is =
    let s = some_line xs in
    slice_split-cons_no is_break x (xs ++ 10 ∷ []) e ∙ ap (onto_first x) is ∙ onto_more x xs s.0 s.1 ([] ∷ []) s.2 ∙ sym (ap (λ ls. ls ++ [] ∷ []) (slice_split-cons_no is_break x xs e))

-- A last line feed adds an empty line.
lines_ended : (xs : List ℕ) → split_lines (xs ++ 10 ∷ []) ≡ split_lines xs ++ [] ∷ []
lines_ended [] = refl
lines_ended (x ∷ xs) = last_break x xs (is_break x) refl (lines_ended xs)

-- ---- entries

pub history-read : (n : ℕ) (line : List ℕ) (lines : List (List ℕ)) (found : Option Entry) → entry_on line ≡ Ok found → history_from n (line ∷ lines) ≡ ahead (those found) (history_from (n + 1) lines)
unfolding history_from
history-read n line lines None e = rw (history_from, e) refl
history-read n line lines (Some entry) e = rw (history_from, e) refl

pub history-refused : (n : ℕ) (line : List ℕ) (lines : List (List ℕ)) (fault : FileFault) → entry_on line ≡ Err fault → history_from n (line ∷ lines) ≡ ([], Some (n, fault))
unfolding history_from
history-refused n line lines fault e = rw (history_from, e) refl

pub history-none : (n : ℕ) → history_from n [] ≡ ([], None)
unfolding history_from
history-none n = refl

blank_line : entry_on [] ≡ Ok None
unfolding entry_on
blank_line = refl

-- A line of more than 1,000 bytes is refused.
pub long_line : (line : List ℕ) → 1000 < length line → entry_on line ≡ Err Limit
unfolding entry_on
long_line line more = let long : nat_le (length line) 1000 ≡ false = grind (arith, nat_tests, more) in rw long refl

-- An empty last line has no entry and is not refused.
pub history-empty : (n : ℕ) → history_from n ([] ∷ []) ≡ ([], None)
history-empty n = history-read n [] [] None blank_line ∙ ap (ahead []) (history-none (n + 1))

empty_last : (n : ℕ) (line : List ℕ) (lines : List (List ℕ)) (found : Result (Option Entry) FileFault) → entry_on line ≡ found → history_from (n + 1) (lines ++ [] ∷ []) ≡ history_from (n + 1) lines → history_from n (line ∷ (lines ++ [] ∷ [])) ≡ history_from n (line ∷ lines)
empty_last n line lines (Ok found) e is = history-read n line (lines ++ [] ∷ []) found e ∙ ap (ahead (those found)) is ∙ sym (history-read n line lines found e)
empty_last n line lines (Err fault) e is = history-refused n line (lines ++ [] ∷ []) fault e ∙ sym (history-refused n line lines fault e)

history-ended : (n : ℕ) (lines : List (List ℕ)) → history_from n (lines ++ [] ∷ []) ≡ history_from n lines
history-ended n [] = history-empty n ∙ sym (history-none n)
history-ended n (line ∷ lines) = empty_last n line lines (entry_on line) refl (history-ended (n + 1) lines)

-- One more line feed at the end changes neither the entries nor the refused line.
pub last_line : (bytes : List ℕ) → history_of_lines (bytes ++ 10 ∷ []) ≡ history_of_lines bytes
last_line bytes = ap (history_from 1) (lines_ended bytes) ∙ history-ended 1 (split_lines bytes)

-- ---- the place of a watcher

ahead-ahead : (h t : List Entry) (more : List Entry × Option (ℕ × FileFault)) → ahead h (ahead t more) ≡ ahead (h ++ t) more
ahead-ahead h t more = ap (λ (es : List Entry). (es, more.1)) (sym (append_assoc h t more.0))

ahead-last : (h : List Entry) (o : Option (ℕ × FileFault)) → ahead h ([], o) ≡ (h, o)
ahead-last h o = ap (λ (es : List Entry). (es, o)) (append-nil h)

pub stands_first : HasWatched [] [] [] 1 None
stands_first = (λ k d lt. absurd (omega (arith, lt)), λ more. refl)

module _ (bytes : List ℕ) (h : List Entry) (part : List ℕ) (n : ℕ) where
  pub stands_refused : (refused : ℕ × FileFault) (piece other : List ℕ) (m : ℕ) → HasWatched bytes h part n (Some refused) → HasWatched (bytes ++ piece) h other m (Some refused)
  stands_refused refused piece other m s more = ap history_of_lines (append_assoc bytes piece more) ∙ s (piece ++ more)

  module _ (piece : List ℕ) (unbroken : IsUnbroken piece) (s : HasWatched bytes h part n None) where
    joined : (more : List ℕ) → history_of_lines ((bytes ++ piece) ++ more) ≡ ahead h (history_from n (split_lines ((part ++ piece) ++ more)))
    joined more = ap history_of_lines (append_assoc bytes piece more) ∙ s.1 (piece ++ more) ∙ ap (λ l. ahead h (history_from n (split_lines l))) (sym (append_assoc part piece more))

    both : IsUnbroken (part ++ piece)
    both = All-append (λ byte. is_break byte ≡ false) part piece s.0 unbroken

    pub stands_held : HasWatched (bytes ++ piece) h (part ++ piece) n None
    stands_held = (both, joined)

    pub stands_long : (other : List ℕ) (m : ℕ) → 1000 < length (part ++ piece) → HasWatched (bytes ++ piece) h other m (Some (n, Limit))
    stands_long other m long more =
        let l = line_begins (part ++ piece) more both in
        let longer : 1000 < length ((part ++ piece) ++ l.0) = omega (arith, long, length-append (part ++ piece) l.0) in
        joined more ∙ ap (λ ls. ahead h (history_from n ls)) l.2 ∙ ap (ahead h) (history-refused n ((part ++ piece) ++ l.0) l.1 Limit (long_line _ longer)) ∙ ahead-last h (Some (n, Limit))

    ended : (more : List ℕ) → history_of_lines ((bytes ++ (piece ++ 10 ∷ [])) ++ more) ≡ ahead h (history_from n ((part ++ piece) ∷ split_lines more))
    ended more =
        let same : (bytes ++ (piece ++ 10 ∷ [])) ++ more ≡ (bytes ++ piece) ++ 10 ∷ more = simp append_assoc in
        ap history_of_lines same ∙ joined (10 ∷ more) ∙ ap (λ ls. ahead h (history_from n ls)) (line_then (part ++ piece) more both)

    pub stands_read : (found : Option Entry) → entry_on (part ++ piece) ≡ Ok found → HasWatched (bytes ++ (piece ++ 10 ∷ [])) (h ++ those found) [] (n + 1) None
    stands_read found e = (λ k d lt. absurd (omega (arith, lt)), λ more. ended more ∙ ap (ahead h) (history-read n (part ++ piece) (split_lines more) found e) ∙ ahead-ahead h (those found) (history_from (n + 1) (split_lines more)))

    pub stands_wrong : (fault : FileFault) (other : List ℕ) (m : ℕ) → entry_on (part ++ piece) ≡ Err fault → HasWatched (bytes ++ (piece ++ 10 ∷ [])) h other m (Some (n, fault))
    stands_wrong fault other m e more = ended more ∙ ap (ahead h) (history-refused n (part ++ piece) (split_lines more) fault e) ∙ ahead-last h (Some (n, fault))
