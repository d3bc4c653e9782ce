-- Shows that the loop reads the pieces of an array as `pieces_from` does, because what it has read
-- stays right with one more element (`IsRead`), and nothing changes after a fault.
use Rattle.std.proofs.Common.{◌≡◌, ℕ, suc, ◌+◌, ◌<◌, ◌≤◌, List, [], ◌∷◌, ◌++◌, length, take, Bool, true, false, not, cond, Option, Some, None, option_and_then, Result, Ok, Err, refl, sym, ap, ◌∙◌, arith}
use Rattle.std.proofs.lemmas.List.{length-append, take_all, take-append-le}
use Rattle.serde_json.specs.Data.{Data}
use Rattle.piece_files.specs.declared.part.Part.{Part}
use Rattle.piece_files.specs.declared.file_fault.FileFault.{FileFault}
use Rattle.piece_files.specs.declared.file_fault.FileFault.TheVariants.{Piece}
use Rattle.piece_files.specs.Elements.{elements_of}
use Rattle.piece_files.specs.Faults.{◌>>=◌, or_fault}
use Rattle.std.specs.Option.{option_or}
use Rattle.std.specs.Bool.{then_some}
use Rattle.piece_files.specs.Pieces.{piece_at, pieces_from, old_of}
use Rattle.piece_files.specs.Tokens.{outcome, FindsOld}

-- Adds the piece `last` after the pieces `read`. If `read` is a fault, the result is this fault.
-- Otherwise, if `last` is a fault, the result is that fault.
abbrev with_last : {P : Type 0} → Result (List P) FileFault → Result P FileFault → Result (List P) FileFault
with_last read last = read >>= λ ps. (last >>= λ p. Ok (ps ++ p ∷ []))

last_alone : {P : Type 0} (last : Result P FileFault) → (last >>= λ p. Ok (p ∷ [])) ≡ with_last (Ok []) last
last_alone (Err e) = refl
last_alone (Ok p) = refl

first_stays : {P : Type 0} (first : Result P FileFault) (others : Result (List P) FileFault) (last : Result P FileFault)
    → (first >>= λ f. (with_last others last >>= λ ps. Ok (f ∷ ps))) ≡ with_last (first >>= λ f. (others >>= λ ps. Ok (f ∷ ps))) last
first_stays (Err e) others last = refl
first_stays (Ok f) (Err e) last = refl
first_stays (Ok f) (Ok ps) (Err e) = refl
first_stays (Ok f) (Ok ps) (Ok p) = refl

pieces-last : {P : Type 0} (of : List Data → Option P) (part : Part) (i j : ℕ) (ds : List Data) (d : Data) → j ≡ i + length ds
    → pieces_from of part i (ds ++ d ∷ []) ≡ with_last (pieces_from of part i ds) (piece_at of part j d)
unfolding pieces_from
pieces-last of part i j [] d at = let here : j ≡ i = omega (arith, at) in rw here (last_alone (piece_at of part i d))
pieces-last of part i j (e ∷ ds) d at =
    let later : j ≡ suc i + length ds = omega (arith, at) in
    rw (pieces-last of part (suc i) j ds d later) (first_stays (piece_at of part i e) (pieces_from of part (suc i) ds) (piece_at of part j d))

-- The pieces that were read from the elements `ds`. If `are_all` is false, they are the pieces
-- before the first element that is no piece. All these pieces are counted, and the first `most` of
-- them are kept.
pub record IsRead {P : Type 0} (of : List Data → Option P) (part : Part) (most : ℕ) (are_all : Bool) (pieces : List P) (count : ℕ) (ds : List Data) : Type 0 where
  pub all : List P
  pub found : pieces_from of part 0 ds ≡ outcome part are_all all
  pub each : are_all ≡ true → length all ≡ length ds
  pub counted : count ≡ length all
  pub kept : pieces ≡ take most all

pub nothing_read : {P : Type 0} (of : List Data → Option P) (part : Part) (most : ℕ) → IsRead of part most true [] 0 []
unfolding pieces_from
nothing_read of part most = record { all = []; found = refl; each = λ e. refl; counted = refl; kept = sym (take_all most [] (omega arith)) }

true≢false : {Q : Type 0} → false ≡ true → Q
true≢false e = absurd (grind (arith, e))

piece_read : {P : Type 0} (of : List Data → Option P) (part : Part) (most : ℕ) (pieces kept : List P) (count : ℕ) (ds : List Data) (d : Data) (p : P)
    → Some p ≡ option_and_then of (elements_of d) → (h : IsRead of part most true pieces count ds) → kept ≡ take most (h.all ++ p ∷ []) → IsRead of part most true kept (count + 1) (ds ++ d ∷ [])
piece_read of part most pieces kept count ds d p is h keeps =
    let here : piece_at of part (length ds) d ≡ Ok p = ap (or_fault (Piece part (length ds))) (sym is) in
    record {
      all = h.all ++ p ∷ [];
      found = pieces-last of part 0 (length ds) ds d (omega arith) ∙ rw (h.found, here) refl;
      each = λ e. rw (length-append h.all (p ∷ []), length-append ds (d ∷ []), h.each refl) refl;
      counted = rw (length-append h.all (p ∷ []), h.counted) refl;
      kept = keeps;
    }

all_kept : {P : Type 0} (most count : ℕ) (pieces all : List P) (p : P) → count < most → count ≡ length all → pieces ≡ take most all → pieces ++ p ∷ [] ≡ take most (all ++ p ∷ [])
all_kept most count pieces all p lt counted kept =
    let here : length all ≤ most = omega (arith, lt, counted) in
    let there : length (all ++ p ∷ []) ≤ most = rw length-append (omega (arith, lt, counted)) in
    ap (λ (ps : List _). ps ++ p ∷ []) (kept ∙ take_all most all here) ∙ sym (take_all most (all ++ p ∷ []) there)

none_kept : {P : Type 0} (most count : ℕ) (pieces all : List P) (p : P) → most ≤ count → count ≡ length all → pieces ≡ take most all → pieces ≡ take most (all ++ p ∷ [])
none_kept most count pieces all p le counted kept =
    let here : most ≤ length all = omega (arith, le, counted) in
    kept ∙ sym (take-append-le most all (p ∷ []) here)

-- ---- one more element: a piece that is kept or only counted, one after a fault, or no piece

pub keep_piece : {P : Type 0} (of : List Data → Option P) (part : Part) (most m : ℕ) (b : Bool) (pieces kept : List P) (count next : ℕ) (ds : List Data) (d : Data) (p : P) (o : Option P)
    → m ≡ most → b ≡ true → count < m → kept ≡ pieces ++ p ∷ [] → next ≡ count + 1 → o ≡ Some p → o ≡ option_and_then of (elements_of d) → IsRead of part most b pieces count ds → IsRead of part most b kept next (ds ++ d ∷ [])
keep_piece of part most m true pieces kept count next ds d p o same so room keeps after some is h =
    let lt : count < most = omega (arith, same, room) in
    rw (after, keeps) (piece_read of part most pieces (pieces ++ p ∷ []) count ds d p (sym some ∙ is) h (all_kept most count pieces h.all p lt h.counted h.kept))
keep_piece of part most m false pieces kept count next ds d p o same so room keeps after some is h = true≢false so

pub count_piece : {P : Type 0} (of : List Data → Option P) (part : Part) (most m : ℕ) (b : Bool) (pieces kept : List P) (count next : ℕ) (ds : List Data) (d : Data) (p : P) (o : Option P)
    → m ≡ most → b ≡ true → m ≤ count → kept ≡ pieces → next ≡ count + 1 → o ≡ Some p → o ≡ option_and_then of (elements_of d) → IsRead of part most b pieces count ds → IsRead of part most b kept next (ds ++ d ∷ [])
count_piece of part most m true pieces kept count next ds d p o same so full keeps after some is h =
    let le : most ≤ count = omega (arith, same, full) in
    rw (after, keeps) (piece_read of part most pieces pieces count ds d p (sym some ∙ is) h (none_kept most count pieces h.all p le h.counted h.kept))
count_piece of part most m false pieces kept count next ds d p o same so full keeps after some is h = true≢false so

pub drop_piece : {P : Type 0} (of : List Data → Option P) (part : Part) (most : ℕ) (b : Bool) (pieces : List P) (count : ℕ) (ds : List Data) (d : Data) → b ≡ false → IsRead of part most b pieces count ds → IsRead of part most b pieces count (ds ++ d ∷ [])
drop_piece of part most true pieces count ds d so h = true≢false (sym so)
drop_piece of part most false pieces count ds d so h =
    record {
      all = h.all;
      found = pieces-last of part 0 (length ds) ds d (omega arith) ∙ rw (h.found) refl;
      each = λ e. true≢false e;
      counted = h.counted;
      kept = h.kept;
    }

pub no_piece : {P : Type 0} (of : List Data → Option P) (part : Part) (most : ℕ) (b : Bool) (pieces : List P) (count : ℕ) (ds : List Data) (d : Data) (o : Option P)
    → o ≡ None → o ≡ option_and_then of (elements_of d) → IsRead of part most b pieces count ds → IsRead of part most false pieces count (ds ++ d ∷ [])
no_piece of part most true pieces count ds d o none is h =
    let here : piece_at of part (length ds) d ≡ Err (Piece part (length ds)) = ap (or_fault (Piece part (length ds))) (sym is ∙ none) in
    record {
      all = h.all;
      found = pieces-last of part 0 (length ds) ds d (omega arith) ∙ rw (h.found, here, h.each refl) refl;
      each = λ e. true≢false e;
      counted = h.counted;
      kept = h.kept;
    }
no_piece of part most false pieces count ds d o none is h = drop_piece of part most false pieces count ds d refl h

-- ---- the result in version 1

abbrev pub OldRead : {P : Type 0} → (List Data → Option P) → (P → Bool) → Part → Option ℕ → List Data → Type 0
OldRead of is_old part first ds = FindsOld part first (pieces_from (old_of is_old of) part 0 ds) (pieces_from of part 0 ds)

pub nothing_old : {P : Type 0} (of : List Data → Option P) (is_old : P → Bool) (part : Part) → OldRead of is_old part None []
unfolding pieces_from
nothing_old of is_old part = refl

-- If an element is no piece in version 1, the result of version 1 is a fault. No further element
-- changes this fault.
old_later : {P : Type 0} (of : List Data → Option P) (is_old : P → Bool) (part : Part) (i : ℕ) (ds : List Data) (d : Data) → OldRead of is_old part (Some i) ds → OldRead of is_old part (Some i) (ds ++ d ∷ [])
old_later of is_old part i ds d h =
    let last = piece_at (old_of is_old of) part (length ds) d in
    pieces-last (old_of is_old of) part 0 (length ds) ds d (omega arith) ∙ ap (λ read. with_last read last) h

old_same : {P : Type 0} (of : List Data → Option P) (is_old : P → Bool) (part : Part) (first : Option ℕ) (ds : List Data) (d : Data)
    → option_and_then (old_of is_old of) (elements_of d) ≡ option_and_then of (elements_of d) → OldRead of is_old part first ds → OldRead of is_old part first (ds ++ d ∷ [])
old_same of is_old part (Some i) ds d same h = old_later of is_old part i ds d h
old_same of is_old part None ds d same h =
    let last = piece_at of part (length ds) d in
    let one : piece_at (old_of is_old of) part (length ds) d ≡ last = ap (or_fault (Piece part (length ds))) same in
    pieces-last (old_of is_old of) part 0 (length ds) ds d (omega arith) ∙ ap (with_last (pieces_from (old_of is_old of) part 0 ds)) one
    ∙ ap (λ read. with_last read last) h ∙ sym (pieces-last of part 0 (length ds) ds d (omega arith))

none_old : {P : Type 0} (of : List Data → Option P) (is_old : P → Bool) (e : Option (List Data)) → option_and_then of e ≡ None → option_and_then (old_of is_old of) e ≡ None
none_old of is_old None h = refl
none_old of is_old (Some ds) h = ap (option_and_then (λ p. cond (is_old p) (Some p) None)) h

piece_old : {P : Type 0} (of : List Data → Option P) (is_old : P → Bool) (e : Option (List Data)) (p : P) → option_and_then of e ≡ Some p → option_and_then (old_of is_old of) e ≡ cond (is_old p) (Some p) None
piece_old of is_old None p h = absurd (cc h)
piece_old of is_old (Some ds) p h = ap (option_and_then (λ p. cond (is_old p) (Some p) None)) h

pub no_piece_old : {P : Type 0} (of : List Data → Option P) (is_old : P → Bool) (part : Part) (first : Option ℕ) (ds : List Data) (d : Data) (o : Option P)
    → o ≡ None → o ≡ option_and_then of (elements_of d) → OldRead of is_old part first ds → OldRead of is_old part first (ds ++ d ∷ [])
no_piece_old of is_old part first ds d o none is h =
    let nothing = sym is ∙ none in
    old_same of is_old part first ds d (none_old of is_old (elements_of d) nothing ∙ sym nothing) h

-- After an element that is no piece, no further element changes the result of either version.
pub drop_piece_old : {P : Type 0} (of : List Data → Option P) (is_old : P → Bool) (part : Part) (most : ℕ) (b : Bool) (pieces : List P) (count : ℕ) (first : Option ℕ) (ds : List Data) (d : Data)
    → b ≡ false → IsRead of part most b pieces count ds → OldRead of is_old part first ds → OldRead of is_old part first (ds ++ d ∷ [])
drop_piece_old of is_old part most true pieces count first ds d so read h = true≢false (sym so)
drop_piece_old of is_old part most false pieces count (Some i) ds d so read h = old_later of is_old part i ds d h
drop_piece_old of is_old part most false pieces count None ds d so read h =
    pieces-last (old_of is_old of) part 0 (length ds) ds d (omega arith) ∙ ap (λ r. with_last r (piece_at (old_of is_old of) part (length ds) d)) (h ∙ read.found)
    ∙ sym (pieces-last of part 0 (length ds) ds d (omega arith) ∙ ap (λ r. with_last r (piece_at of part (length ds) d)) read.found)

first_new : {P : Type 0} (of : List Data → Option P) (is_old : P → Bool) (part : Part) (most : ℕ) (pieces : List P) (count : ℕ) (ds : List Data) (d : Data)
    → option_and_then (old_of is_old of) (elements_of d) ≡ None → IsRead of part most true pieces count ds → OldRead of is_old part None ds → OldRead of is_old part (Some count) (ds ++ d ∷ [])
first_new of is_old part most pieces count ds d none read h =
    let here : length ds ≡ count = omega (arith, read.each refl, read.counted) in
    pieces-last (old_of is_old of) part 0 (length ds) ds d (omega arith) ∙ ap (λ r. with_last r (piece_at (old_of is_old of) part (length ds) d)) (h ∙ read.found)
    ∙ ap (λ o. with_last (Ok read.all) (or_fault (Piece part (length ds)) o)) none ∙ ap (λ i. Err (Piece part i)) here

pub piece_read_old : {P : Type 0} (of : List Data → Option P) (is_old : P → Bool) (part : Part) (most : ℕ) (b : Bool) (pieces : List P) (count : ℕ) (first : Option ℕ) (ds : List Data) (d : Data) (p : P) (o : Option P)
    → b ≡ true → o ≡ Some p → o ≡ option_and_then of (elements_of d) → IsRead of part most b pieces count ds → OldRead of is_old part first ds
    → OldRead of is_old part (option_or first (then_some (not (is_old p)) count)) (ds ++ d ∷ [])
piece_read_old of is_old part most false pieces count first ds d p o so some is read h = true≢false so
piece_read_old of is_old part most true pieces count (Some i) ds d p o so some is read h = old_later of is_old part i ds d h
piece_read_old of is_old part most true pieces count None ds d p o so some is read h =
    let there : option_and_then of (elements_of d) ≡ Some p = sym is ∙ some in
    let in_old = piece_old of is_old (elements_of d) p there in
    (elim (is_old p) as (λ old. option_and_then (old_of is_old of) (elements_of d) ≡ cond old (Some p) None → OldRead of is_old part (then_some (not old) count) (ds ++ d ∷ [])) [
      | true ↦ λ same. old_same of is_old part None ds d (same ∙ sym there) h
      | false ↦ λ none. first_new of is_old part most pieces count ds d none read h
    ]) in_old
