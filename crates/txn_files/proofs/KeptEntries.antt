-- Shows that `kept_history_of` equals `history_of`, because an entry in range is small, so it is
-- not replaced, and an entry that is replaced is out of range.
use Rattle.std.proofs.Common.{◌≡◌, ℕ, suc, ◌<◌, Bool, true, false, cond, List, [], ◌∷◌, length, map, Some, None, option_map, inl, inr, refl, sym, ap, ap₂, ◌∙◌, arith}
use Rattle.std.specs.Prelude.{Option, option_and_then, ◌==◌, Result, Ok, Err, ◌&&◌, nat_le}
use Rattle.std.specs.List.{list_all}
use Rattle.std.proofs.lemmas.List.{length-map}
use Rattle.std.proofs.lemmas.Bool.{and_parts, cases_Bool, leb-true}
use Rattle.serde_json.specs.Data.{Data}
use Rattle.txn_words.specs.declared.entry.Entry.{Entry}
use Rattle.txn_words.specs.declared.entry.Entry.TheVariants as entries
use Rattle.txn_words.specs.declared.op.Op.TheVariants as ops
use Rattle.txn_words.specs.Packed.{is_small}
use Rattle.txn_words.proofs.Packing.{small_of}
use Rattle.piece_files.specs.declared.part.Part.{Part}
use Rattle.piece_files.specs.declared.file_fault.FileFault.{FileFault}
use Rattle.piece_files.specs.declared.file_fault.FileFault.TheVariants.{Piece, Limit}
use Rattle.piece_files.specs.Elements.{elements_of}
use Rattle.piece_files.specs.Faults.{◌>>=◌, or_fault}
use Rattle.piece_files.specs.Files.{version, all_of, contents, contents_from, contents_of, is_version}
use Rattle.piece_files.specs.Json.{array_member, json_of, number_named}
use Rattle.piece_files.specs.Tokens.{are_plain}
use Rattle.piece_files.specs.Pieces.{in_version, old_of, piece_at, pieces_from}
use Rattle.txn_files.specs.Entries.{entry_of, is_old_entry}
use Rattle.txn_files.specs.HistoryFile.{entries_from, history_file, history_of, is_history, is_in_range, kept, kept_file, kept_history_of, kept_of}
use Rattle.txn_files.proofs.PlainPieces.{no_entry}

-- ---- one entry

-- An entry that is not small is replaced by `Saved 65535` if version 1 has it, else by an Asked
-- entry of caller 65535. Both replacements are out of range, and version 1 has only the first.
replaced : (b : Bool) → is_in_range (cond b (entries.Saved 65535) (entries.Asked 65535 (ops.PutIf 0 None 0))) ≡ false
replaced true = refl
replaced false = refl

replaced_old : (b : Bool) → is_old_entry (cond b (entries.Saved 65535) (entries.Asked 65535 (ops.PutIf 0 None 0))) ≡ b
replaced_old true = refl
replaced_old false = refl

below : (n : ℕ) → nat_le n 63 ≡ true → n < 65536
below n e = let few = leb-true n 63 e in omega (arith, few)

-- An entry in range is small.
small_in_range : (e : Entry) → is_in_range e ≡ true → is_small e ≡ true
small_in_range (entries.Began c t) h = small_of (entries.Began c t) (below c h) (omega arith)
small_in_range (entries.Asked c op) h = small_of (entries.Asked c op) (below c h) (omega arith)
small_in_range (entries.Did c r) h = small_of (entries.Did c r) (below c h) (omega arith)
small_in_range (entries.Saved c) h = small_of (entries.Saved c) (below c h) (omega arith)
small_in_range (entries.Leave c n) h = small_of (entries.Leave c n) (below c h) (omega arith)
small_in_range (entries.Undone c) h = small_of (entries.Undone c) (below c h) (omega arith)
small_in_range (entries.Returned c n) h = small_of (entries.Returned c n) (below c h) (omega arith)
small_in_range (entries.Committed c p) h = small_of (entries.Committed c p) (below c h) (omega arith)
small_in_range (entries.Busy c op x) h =
    let both = and_parts (nat_le c 63) (nat_le x 63) h in
    small_of (entries.Busy c op x) (below c both.0) (below x both.1)
small_in_range (entries.Aborted c) h = small_of (entries.Aborted c) (below c h) (omega arith)

kept_small : (e : Entry) → is_small e ≡ true → kept e ≡ e
kept_small e small = ap (λ b. cond b e (cond (is_old_entry e) (entries.Saved 65535) (entries.Asked 65535 (ops.PutIf 0 None 0)))) small

kept_large : (e : Entry) → is_small e ≡ false → kept e ≡ cond (is_old_entry e) (entries.Saved 65535) (entries.Asked 65535 (ops.PutIf 0 None 0))
kept_large e large = ap (λ b. cond b e (cond (is_old_entry e) (entries.Saved 65535) (entries.Asked 65535 (ops.PutIf 0 None 0)))) large

kept_old : (e : Entry) → is_old_entry (kept e) ≡ is_old_entry e
kept_old e = elim (cases_Bool (is_small e)) [
  | inl small ↦ ap is_old_entry (kept_small e small)
  | inr large ↦ ap is_old_entry (kept_large e large) ∙ replaced_old (is_old_entry e)
]

out_of_range : (e : Entry) → is_small e ≡ false → is_in_range e ≡ false
out_of_range e large = elim (cases_Bool (is_in_range e)) [
  | inl within ↦ absurd (grind (arith, sym (small_in_range e within) ∙ large))
  | inr out ↦ out
]

kept_range : (e : Entry) → is_in_range (kept e) ≡ is_in_range e
kept_range e = elim (cases_Bool (is_small e)) [
  | inl small ↦ ap is_in_range (kept_small e small)
  | inr large ↦ ap is_in_range (kept_large e large) ∙ replaced (is_old_entry e) ∙ sym (out_of_range e large)
]

-- ---- all entries

all_kept_range : (es : List Entry) → list_all is_in_range (map kept es) ≡ list_all is_in_range es
all_kept_range [] = refl
all_kept_range (e ∷ es) = ap₂ (λ x y. x && y) (kept_range e) (all_kept_range es)

all_kept : (es : List Entry) → list_all is_in_range es ≡ true → map kept es ≡ es
all_kept [] h = refl
all_kept (e ∷ es) h =
    let both = and_parts (is_in_range e) (list_all is_in_range es) h in
    ap₂ (λ x xs. x ∷ xs) (kept_small e (small_in_range e both.0)) (all_kept es both.1)

abbrev answer : ℕ → ℕ → List Entry → Bool → Result (ℕ × List Entry × ℕ) FileFault
answer v s es b = cond b (Ok (s, es, v)) (Err Limit)

answered : (v s : ℕ) (es : List Entry) (b : Bool) → is_history s es ≡ b → answer v s (map kept es) b ≡ answer v s es b
answered v s es true h =
    let both = and_parts (nat_le 1 s && nat_le s 4096) (list_all is_in_range es) h in
    ap (λ (l : List Entry). Ok (s, l, v)) (all_kept es both.1)
answered v s es false h = refl

same_entries : (v : ℕ) (ns : List ℕ) (es : List Entry) → entries_from v ns (map kept es) ≡ entries_from v ns es
unfolding entries_from
same_entries v [] es = refl
same_entries v (s ∷ []) es =
    ap (λ b. answer v s (map kept es) (nat_le 1 s && nat_le s 4096 && b)) (all_kept_range es)
    ∙ answered v s es (is_history s es) refl
same_entries v (s ∷ n ∷ ns) es = refl

-- ---- reading

abbrev mapped : {P Q : Type 0} → (P → Q) → Result (List P) FileFault → Result (List Q) FileFault
mapped f r = r >>= λ ps. Ok (map f ps)

option_mapped : {P Q : Type 0} (f : P → Q) (fault : FileFault) (o : Option P) → or_fault fault (option_map f o) ≡ (or_fault fault o >>= λ p. Ok (f p))
option_mapped f fault None = refl
option_mapped f fault (Some p) = refl

module _ {P Q : Type 0} (f : P → Q) (of : List Data → Option P) (new_of : List Data → Option Q) (same : (ds : List Data) → new_of ds ≡ option_map f (of ds)) (part : Part) where
  element : (fault : FileFault) (o : Option (List Data)) → or_fault fault (option_and_then new_of o) ≡ (or_fault fault (option_and_then of o) >>= λ p. Ok (f p))
  element fault None = refl
  element fault (Some ds) = ap (or_fault fault) (same ds) ∙ option_mapped f fault (of ds)

  joined : (a : Result P FileFault) (b : Result (List P) FileFault) → ((a >>= λ p. Ok (f p)) >>= λ q. mapped f b >>= λ qs. Ok (q ∷ qs)) ≡ mapped f (a >>= λ p. b >>= λ ps. Ok (p ∷ ps))
  joined (Err e) b = refl
  joined (Ok p) (Err e) = refl
  joined (Ok p) (Ok ps) = refl

  pieces : (i : ℕ) (ds : List Data) → pieces_from new_of part i ds ≡ mapped f (pieces_from of part i ds)
  unfolding pieces_from
  pieces i [] = refl
  pieces i (d ∷ ds) =
      ap₂ (λ (a : Result Q FileFault) (b : Result (List Q) FileFault). a >>= λ q. b >>= λ qs. Ok (q ∷ qs)) (element (Piece part i) (elements_of d)) (pieces (suc i) ds)
      ∙ joined (piece_at of part i d) (pieces_from of part (suc i) ds)

  member_pieces : (r : Result (List Data) FileFault) → (r >>= pieces_from new_of part 0) ≡ mapped f (r >>= pieces_from of part 0)
  member_pieces (Err e) = refl
  member_pieces (Ok ds) = pieces 0 ds

same_new : (ds : List Data) → kept_of ds ≡ option_map kept (entry_of ds)
unfolding kept_of
same_new ds = refl

abbrev tested : Entry → Bool → Option Entry
tested e b = cond b (Some e) None

tested_old : (e : Entry) (b : Bool) → tested (kept e) b ≡ option_map kept (tested e b)
tested_old e true = refl
tested_old e false = refl

old_kept : (o : Option Entry) → option_and_then (λ p. tested p (is_old_entry p)) (option_map kept o) ≡ option_map kept (option_and_then (λ p. tested p (is_old_entry p)) o)
old_kept None = refl
old_kept (Some e) = ap (tested (kept e)) (kept_old e) ∙ tested_old e (is_old_entry e)

same_old : (ds : List Data) → old_of is_old_entry kept_of ds ≡ option_map kept (old_of is_old_entry entry_of ds)
same_old ds = ap (option_and_then (λ p. tested p (is_old_entry p))) (same_new ds) ∙ old_kept (entry_of ds)

-- ---- the whole file

abbrev Read : Type 0
Read = ℕ × List ℕ × List Entry

abbrev kept_read : Read → Result Read FileFault
kept_read file = Ok (file.0, file.1, map kept file.2)

chosen_version : (b : Bool) (old new : Result (List Entry) FileFault) → cond b (mapped kept old) (mapped kept new) ≡ mapped kept (cond b old new)
chosen_version true old new = refl
chosen_version false old new = refl

abbrev few : Bool → ℕ → List ℕ → List Entry → Result Read FileFault
few b v ns es = cond b (Ok (v, ns, es)) (Err Limit)

limited : (b : Bool) (v : ℕ) (ns : List ℕ) (es : List Entry) → few b v ns (map kept es) ≡ (few b v ns es >>= kept_read)
limited true v ns es = refl
limited false v ns es = refl

counted : (v : ℕ) (ns : List ℕ) (r : Result (List Entry) FileFault) (most : ℕ) → (mapped kept r >>= λ ps. few (is_version v && nat_le (length ps) most) v ns ps) ≡ ((r >>= λ ps. few (is_version v && nat_le (length ps) most) v ns ps) >>= kept_read)
counted v ns (Err e) most = refl
counted v ns (Ok es) most =
    ap (λ n. few (is_version v && nat_le n most) v ns (map kept es)) (length-map es kept)
    ∙ limited (is_version v && nat_le (length es) most) v ns es

from_kept : (most : ℕ) (v : Option ℕ) (ns : Option (List ℕ)) (old new : Result (List Entry) FileFault) → contents_from most v ns (mapped kept old) (mapped kept new) ≡ (contents_from most v ns old new >>= kept_read)
unfolding contents_from
from_kept most None ns old new = refl
from_kept most (Some v) None old new = refl
from_kept most (Some v) (Some ns) old new =
    ap (λ r. r >>= λ ps. few (is_version v && nat_le (length ps) most) v ns ps) (chosen_version (v == 1) old new)
    ∙ counted v ns (in_version v old new) most

of_kept : (d : Data) → contents_of kept_file d ≡ (contents_of history_file d >>= kept_read)
unfolding contents_of
of_kept d =
    let array = array_member (history_file.pieces) d in
    ap₂ (contents_from (history_file.most) (number_named version d) (all_of (map (λ name. number_named name d) (history_file.numbers))))
    (member_pieces kept (old_of is_old_entry entry_of) (old_of is_old_entry kept_of) same_old (history_file.part) array)
    (member_pieces kept entry_of kept_of same_new (history_file.part) array)
    ∙ from_kept _ _ _ _ _

json_kept : (r : Result Data FileFault) → (r >>= contents_of kept_file) ≡ ((r >>= contents_of history_file) >>= kept_read)
json_kept (Err e) = refl
json_kept (Ok d) = of_kept d

then_entries : (r : Result Read FileFault) → ((r >>= kept_read) >>= λ file. entries_from file.0 file.1 file.2) ≡ (r >>= λ file. entries_from file.0 file.1 file.2)
then_entries (Err e) = refl
then_entries (Ok file) = same_entries file.0 file.1 file.2

-- `kept_history_of` equals `history_of`: replacing the entries that cannot be packed does not
-- change what is read from a file.
pub same_history : (bytes : List ℕ) → kept_history_of bytes ≡ history_of bytes
same_history bytes =
    ap (λ r. r >>= λ file. entries_from file.0 file.1 file.2) (json_kept (json_of bytes))
    ∙ then_entries (contents history_file bytes)

-- If an array has more than 7 elements, or an element that is not plain, it is not an entry, so no
-- entry is kept for it.
pub none_kept : (ds : List Data) → are_plain 7 ds ≡ false → kept_of ds ≡ None
none_kept ds e = same_new ds ∙ ap (option_map kept) (no_entry ds e)
