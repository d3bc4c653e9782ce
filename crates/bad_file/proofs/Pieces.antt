-- Lemmas about the entries that are read from a file: either all elements of `entries` are entries,
-- or one of them is the first that is not.
use Rattle.std.proofs.Common.{◌≡◌, ℕ, zero, suc, ◌+◌, ◌<◌, List, [], ◌∷◌, length, Bool, true, false, not, ◌&&◌, ◌||◌, Option, Some, None, if◌then◌else◌, refl, ap, sym, ◌∙◌, arith}
use Rattle.std.specs.Prelude.{IsSome, Result, Ok, Err, is_some, option_and_then, slice_get}
use Rattle.std.specs.List.{list_all}
use Rattle.std.proofs.lemmas.List.Elements.{All-head, All-tail}
use Rattle.serde_json.specs.Data.{Data}
use Rattle.txn_words.specs.declared.entry.Entry.{Entry}
use Rattle.piece_files.specs.declared.file_fault.FileFault.{FileFault}
use Rattle.piece_files.specs.declared.file_fault.FileFault.TheVariants.{Piece}
use Rattle.piece_files.specs.declared.part.Part.{Part}
use Rattle.piece_files.specs.Elements.{elements_of}
use Rattle.piece_files.specs.Faults.{◌>>=◌, or_fault}
use Rattle.piece_files.specs.Pieces.{old_of, pieces_from}
use Rattle.txn_files.specs.Entries.{entry_of, is_old_entry}
use Rattle.txn_files.specs.HistoryFile.{is_in_range}
use Rattle.bad_file.specs.Flaws.{AreEntries, IsEntry, entry_in}

-- Reads this value as an entry, if it is one.
abbrev pub piece_in : Bool → Bool → Data → Option Entry
piece_in o r d = option_and_then (entry_in o r) (elements_of d)

there : {A : Type 0} (x : Option A) → IsSome x → (a : A) × (x ≡ Some a)
there None is = absurd (cc is)
there (Some a) is = (a, refl)

-- ---- the entries that version 1 reads, and those that later versions read

old_read : (b : Bool) (e : Entry) → (if b then Some e else None) ≡ (if b && true then Some e else None)
old_read true e = refl
old_read false e = refl

old_reads : (x : Option Entry) → option_and_then (λ p. if is_old_entry p then Some p else None) x ≡ option_and_then (λ e. if (not true || is_old_entry e) && (not false || is_in_range e) then Some e else None) x
old_reads None = refl
old_reads (Some e) = old_read (is_old_entry e) e

new_reads : (x : Option Entry) → x ≡ option_and_then (λ e. if (not false || is_old_entry e) && (not false || is_in_range e) then Some e else None) x
new_reads None = refl
new_reads (Some e) = refl

pub old_pieces : (part : Part) (k : ℕ) (ds : List Data) → pieces_from (old_of is_old_entry entry_of) part k ds ≡ pieces_from (entry_in true false) part k ds
old_pieces part k ds = (λ i. pieces_from (λ xs. old_reads (entry_of xs) i) part k ds)

pub new_pieces : (part : Part) (k : ℕ) (ds : List Data) → pieces_from entry_of part k ds ≡ pieces_from (entry_in false false) part k ds
new_pieces part k ds = (λ i. pieces_from (λ xs. new_reads (entry_of xs) i) part k ds)

-- ---- the first element that is no entry

abbrev fault_at : Part → ℕ → Result (List Entry) FileFault
fault_at part n = Err (Piece part n)

pub first_bad : (o : Bool) (part : Part) (k i : ℕ) (ds : List Data) (e : Data) → slice_get ds i ≡ Some e → piece_in o false e ≡ None
    → ((j : ℕ) (x : Data) → j < i → slice_get ds j ≡ Some x → IsEntry o false x) → pieces_from (entry_in o false) part k ds ≡ Err (Piece part (k + i))
unfolding pieces_from
first_bad o part k i [] e at bad before = absurd (cc at)
first_bad o part k zero (d ∷ ds) e at bad before =
    let same : d ≡ e = cc at in
    let here : piece_in o false d ≡ None = ap (piece_in o false) same ∙ bad in
    let index : k ≡ k + zero = omega arith in
    ap (λ x. or_fault (Piece part k) x >>= λ first. pieces_from (entry_in o false) part (suc k) ds >>= λ others. Ok (first ∷ others)) here
    ∙ ap (fault_at part) index
first_bad o part k (suc i) (d ∷ ds) e at bad before =
    let first = there (piece_in o false d) (before zero d (omega arith) refl) in
    let later = first_bad o part (suc k) i ds e at bad (λ j x below is. before (suc j) x (omega arith) is) in
    let index : suc k + i ≡ k + suc i = omega arith in
    ap (λ x. or_fault (Piece part k) x >>= λ one. pieces_from (entry_in o false) part (suc k) ds >>= λ others. Ok (one ∷ others)) first.1
    ∙ ap (λ r. r >>= λ others. Ok (first.0 ∷ others)) later
    ∙ ap (fault_at part) index

-- All elements are entries, and are read as `pieces`.
pub record Pieced (o : Bool) (part : Part) (k : ℕ) (ds : List Data) : Type 0 where
  pub pieces : List Entry
  pub read : pieces_from (entry_in o false) part k ds ≡ Ok pieces
  pub count : length pieces ≡ length ds
  pub in_range : list_all is_in_range pieces ≡ list_all (λ d. is_some (piece_in o true d)) ds

chosen : (p : Entry) (b c : Bool) → is_some (if b && c then Some p else None) ≡ (b && c)
chosen p true true = refl
chosen p true false = refl
chosen p false c = refl

same_entry : (p e : Entry) → Some p ≡ Some e → p ≡ e
same_entry p e is = cc is

by_age : (p e : Entry) (b : Bool) → (if b && true then Some p else None) ≡ Some e → is_some (if b && is_in_range p then Some p else None) ≡ is_in_range e
by_age p e true same = chosen p true (is_in_range p) ∙ ap is_in_range (same_entry p e same)
by_age p e false same = absurd (cc same)

ranged : (o : Bool) (x : Option Entry) (e : Entry)
    → option_and_then (λ p. if (not o || is_old_entry p) && (not false || is_in_range p) then Some p else None) x ≡ Some e
    → is_some (option_and_then (λ p. if (not o || is_old_entry p) && (not true || is_in_range p) then Some p else None) x) ≡ is_in_range e
ranged o None e is = absurd (cc is)
ranged o (Some p) e is = by_age p e (not o || is_old_entry p) is

piece_ranged : (o : Bool) (x : Option (List Data)) (e : Entry) → option_and_then (entry_in o false) x ≡ Some e → is_some (option_and_then (entry_in o true) x) ≡ is_in_range e
piece_ranged o None e is = absurd (cc is)
piece_ranged o (Some xs) e is = ranged o (entry_of xs) e is

pub all_pieces : (o : Bool) (part : Part) (k : ℕ) (ds : List Data) → AreEntries o false ds → Pieced o part k ds
unfolding pieces_from
all_pieces o part k [] all = record { pieces = []; read = refl; count = refl; in_range = refl }
all_pieces o part k (d ∷ ds) all =
    let first = there (piece_in o false d) (All-head (IsEntry o false) d ds all) in
    let rest = all_pieces o part (suc k) ds (All-tail (IsEntry o false) d ds all) in
    record {
      pieces = first.0 ∷ rest.pieces;
      read = ap (λ x. or_fault (Piece part k) x >>= λ one. pieces_from (entry_in o false) part (suc k) ds >>= λ others. Ok (one ∷ others)) first.1
          ∙ ap (λ r. r >>= λ others. Ok (first.0 ∷ others)) rest.read;
      count = ap suc rest.count;
      in_range = (λ i. sym (piece_ranged o (elements_of d) first.0 first.1) i && rest.in_range i);
    }

-- ---- ranges

pub all_ranged : (o : Bool) (ds : List Data) → AreEntries o true ds → list_all (λ d. is_some (piece_in o true d)) ds ≡ true
all_ranged o [] all = refl
all_ranged o (d ∷ ds) all =
    (λ i. All-head (IsEntry o true) d ds all i && all_ranged o ds (All-tail (IsEntry o true) d ds all) i)

off_after : (a : Bool) → (a && false) ≡ false
off_after true = refl
off_after false = refl

pub one_off : (o : Bool) (i : ℕ) (ds : List Data) (e : Data) → slice_get ds i ≡ Some e → piece_in o true e ≡ None → list_all (λ d. is_some (piece_in o true d)) ds ≡ false
one_off o i [] e at bad = absurd (cc at)
one_off o zero (d ∷ ds) e at bad =
    let same : d ≡ e = cc at in
    ap (λ x. is_some x && list_all (λ d. is_some (piece_in o true d)) ds) (ap (piece_in o true) same ∙ bad)
one_off o (suc i) (d ∷ ds) e at bad = ap (λ b. is_some (piece_in o true d) && b) (one_off o i ds e at bad) ∙ off_after (is_some (piece_in o true d))
