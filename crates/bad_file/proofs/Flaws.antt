-- Shows that a flaw is found exactly if the file is refused, and is the cause of the refusal,
-- because each test of members, entries and ranges fails just where `history_in` gives its fault.
use Rattle.std.proofs.Common.{◌≡◌, ℕ, ◌+◌, List, [], ◌∷◌, length, Bool, true, false, ◌==◌, ◌&&◌, Option, Some, None, if◌then◌else◌, refl, ap, sym, subst, ◌∙◌, arith}
use Rattle.std.specs.Prelude.{MatchOption, Result, Ok, Err, codes, is_ok, is_some, nat_le, option_and_then, slice_get}
use Rattle.std.specs.List.{list_all}
use Rattle.std.specs.Option.{option_or}
use Rattle.std.proofs.lemmas.Option.{none-some}
use mathlib.Core.Logic.{inl, inr}
use Rattle.serde_json.specs.Data.{Data, null, boolean, number, string, array, object}
use Rattle.serde_json.specs.Find.{as_object}
use Rattle.txn_words.specs.declared.entry.Entry.{Entry as TheEntry}
use Rattle.txn_words.specs.Sizes.{max_stripes}
use Rattle.piece_files.specs.declared.file_fault.FileFault.{FileFault}
use Rattle.piece_files.specs.declared.file_fault.FileFault.TheVariants as faults
use Rattle.piece_files.specs.declared.part.Part.TheVariants as parts
use Rattle.piece_files.specs.Elements.{elements_of, whole_number}
use Rattle.piece_files.specs.Faults.{◌>>=◌, or_fault}
use Rattle.piece_files.specs.Files.{contents_from, contents_of, is_version, max_version, version}
use Rattle.piece_files.specs.Json.{json_of, number_named}
use Rattle.piece_files.specs.Pieces.{old_of, pieces_from}
use Rattle.txn_files.specs.Entries.{entry_of, is_old_entry}
use Rattle.txn_files.specs.HistoryFile.{entries_from, history_file, history_of, is_in_range, max_entries}
use Rattle.bad_file.specs.Flaws.{AreEntries, IsFlaw, IsFlawAt, IsFlawOfEntry, TellsOf, TellsFlaw, entry_in, flaw_at, flaw_in_members, history_in, is_old_file, is_one, wrong}
use Rattle.bad_file.specs.Meets.{are_few, in_range, is_met}
use Rattle.bad_file.specs.Places.{at, entries_of, entry_at}
use Rattle.bad_file.specs.declared.expected.Expected.{Expected}
use Rattle.bad_file.specs.declared.expected.Expected.TheVariants as expected
use Rattle.bad_file.specs.declared.flaw.Flaw.{Flaw}
use Rattle.bad_file.specs.declared.flaw.Flaw.TheVariants.{NotJson, TooLong}
use Rattle.bad_file.specs.declared.place.Place.{Place}
use Rattle.bad_file.specs.declared.place.Place.TheVariants.{File, Version, Stripes, Entries}
use Rattle.bad_file.proofs.Pieces.{Pieced, all_pieces, all_ranged, first_bad, new_pieces, old_pieces, one_off}

-- ---- what is expected of a member

there : {A : Type 0} (x : Option A) → is_some x ≡ true → (a : A) × (x ≡ Some a)
there None is = absurd (cc is)
there (Some a) is = (a, refl)

number_met : (least most : ℕ) (x : Option ℕ) → in_range false least most x ≡ is_some x
number_met least most None = refl
number_met least most (Some n) = refl

version_met : (x : Option Data) → is_met false (Some expected.Version) x ≡ is_some (option_and_then whole_number x)
version_met None = refl
version_met (Some d) = number_met 1 max_version (whole_number d)

stripes_met : (x : Option Data) → is_met false (Some expected.Stripes) x ≡ is_some (option_and_then whole_number x)
stripes_met None = refl
stripes_met (Some d) = number_met 1 max_stripes (whole_number d)

array_met : (x : Option (List Data)) → are_few false max_entries x ≡ is_some x
array_met None = refl
array_met (Some ds) = refl

entries_met : (x : Option Data) → is_met false (Some expected.Entries) x ≡ is_some (option_and_then elements_of x)
entries_met None = refl
entries_met (Some d) = array_met (elements_of d)

number_ranged : (least most n : ℕ) (x : Option ℕ) → x ≡ Some n → in_range true least most x ≡ (nat_le least n && nat_le n most)
number_ranged least most n None is = absurd (cc is)
number_ranged least most n (Some m) is = let same : m ≡ n = cc is in ap (λ (k : ℕ). nat_le least k && nat_le k most) same

version_ranged : (n : ℕ) (x : Option Data) → option_and_then whole_number x ≡ Some n → is_met true (Some expected.Version) x ≡ is_version n
version_ranged n None is = absurd (cc is)
version_ranged n (Some d) is = number_ranged 1 max_version n (whole_number d) is

stripes_ranged : (n : ℕ) (x : Option Data) → option_and_then whole_number x ≡ Some n → is_met true (Some expected.Stripes) x ≡ (nat_le 1 n && nat_le n max_stripes)
stripes_ranged n None is = absurd (cc is)
stripes_ranged n (Some d) is = number_ranged 1 max_stripes n (whole_number d) is

array_ranged : (ds : List Data) (x : Option (List Data)) → x ≡ Some ds → are_few true max_entries x ≡ nat_le (length ds) max_entries
array_ranged ds None is = absurd (cc is)
array_ranged ds (Some es) is = let same : es ≡ ds = cc is in ap (λ (xs : List Data). nat_le (length xs) max_entries) same

entries_ranged : (ds : List Data) (x : Option Data) → option_and_then elements_of x ≡ Some ds → is_met true (Some expected.Entries) x ≡ nat_le (length ds) max_entries
entries_ranged ds None is = absurd (cc is)
entries_ranged ds (Some d) is = array_ranged ds (elements_of d) is

is_object : (name : List ℕ) (d : Data) (n : ℕ) → number_named name d ≡ Some n → is_some (as_object d) ≡ true
is_object name null n is = absurd (cc is)
is_object name (boolean b) n is = absurd (cc is)
is_object name (number x) n is = absurd (cc is)
is_object name (string s) n is = absurd (cc is)
is_object name (array ds) n is = absurd (cc is)
is_object name (object ms) n is = refl

-- ---- the first member that is not what is expected

tested : {A : Type 0} (a : A) (b : Bool) → (if b then None else Some a) ≡ None → b ≡ true
tested a true same = refl
tested a false same = absurd (cc same)

none_at : (r : Bool) (d : Data) (place : Place) (e : Expected) → flaw_at r d place e ≡ None → is_met r (Some e) (at place d) ≡ true
none_at r d place e is = tested (wrong d place (Some e)) (is_met r (Some e) (at place d)) is

at_none : (r : Bool) (d : Data) (place : Place) (e : Expected) → is_met r (Some e) (at place d) ≡ true → flaw_at r d place e ≡ None
at_none r d place e is = ap (λ b. if b then None else Some (wrong d place (Some e))) is

neither : {A : Type 0} (x y : Option A) → option_or x y ≡ None → (x ≡ None) × (y ≡ None)
neither None y is = (refl, is)
neither (Some a) y is = absurd (cc is)

-- The version, the stripes and the entries of a file are as expected.
pub record Members (r : Bool) (d : Data) : Type 0 where
  pub version_is : is_met r (Some expected.Version) (at Version d) ≡ true
  pub stripes_is : is_met r (Some expected.Stripes) (at Stripes d) ≡ true
  pub entries_is : is_met r (Some expected.Entries) (at Entries d) ≡ true

members_are : (r : Bool) (d : Data) → flaw_in_members r d ≡ None → Members r d
members_are r d is =
    let last = flaw_at r d Entries expected.Entries in
    let later = option_or (flaw_at r d Stripes expected.Stripes) last in
    let one = neither (flaw_at r d File expected.Object) (option_or (flaw_at r d Version expected.Version) later) is in
    let two = neither (flaw_at r d Version expected.Version) later one.1 in
    let three = neither (flaw_at r d Stripes expected.Stripes) last two.1 in
    record {
      version_is = none_at r d Version expected.Version two.0;
      stripes_is = none_at r d Stripes expected.Stripes three.0;
      entries_is = none_at r d Entries expected.Entries three.1;
    }

no_flaw : (r : Bool) (d : Data) → is_some (as_object d) ≡ true → Members r d → flaw_in_members r d ≡ None
no_flaw r d whole m =
    (λ i. option_or (at_none r d File expected.Object whole i)
    (option_or (at_none r d Version expected.Version m.version_is i)
    (option_or (at_none r d Stripes expected.Stripes m.stripes_is i) (at_none r d Entries expected.Entries m.entries_is i))))

-- The numbers and the entries of a file whose members are of the right kind.
pub record Shape (d : Data) : Type 0 where
  pub version_no : ℕ
  pub stripes_no : ℕ
  pub entries : List Data
  pub version_is : number_named version d ≡ Some version_no
  pub stripes_is : number_named (codes "stripes") d ≡ Some stripes_no
  pub entries_are : entries_of d ≡ Some entries

pub shape_of : (d : Data) → flaw_in_members false d ≡ None → Shape d
shape_of d is =
    let m = members_are false d is in
    let v = there (number_named version d) (sym (version_met (at Version d)) ∙ m.version_is) in
    let s = there (number_named (codes "stripes") d) (sym (stripes_met (at Stripes d)) ∙ m.stripes_is) in
    let es = there (entries_of d) (sym (entries_met (at Entries d)) ∙ m.entries_is) in
    record { version_no = v.0; stripes_no = s.0; entries = es.0; version_is = v.1; stripes_is = s.1; entries_are = es.1 }

shape_is_right : (d : Data) → Shape d → flaw_in_members false d ≡ None
shape_is_right d shape =
    no_flaw false d (is_object version d shape.version_no shape.version_is) (record {
      version_is = version_met (at Version d) ∙ ap is_some shape.version_is;
      stripes_is = stripes_met (at Stripes d) ∙ ap is_some shape.stripes_is;
      entries_is = entries_met (at Entries d) ∙ ap is_some shape.entries_are;
    })

-- ---- what a file is refused for

array_is : (x : Option Data) (ds : List Data) → option_and_then elements_of x ≡ Some ds → or_fault faults.Member (option_and_then elements_of x) ≡ Ok ds
array_is x ds is = ap (or_fault faults.Member) is

-- The entries that are read from these elements, or a fault.
abbrev read_of : Bool → List Data → Result (List TheEntry) FileFault
read_of o ds = pieces_from (entry_in o false) parts.Entry 0 ds

-- If `taken` is true, the result is the version, the number of stripes and the entries. Otherwise
-- it is the fault `Limit`. `taken` means that the version and the number of entries are in range.
abbrev numbered : ℕ → ℕ → List TheEntry → Bool → Result (ℕ × List ℕ × List TheEntry) FileFault
numbered v s ps taken = if taken then Ok (v, s ∷ [], ps) else Err faults.Limit

-- The content of a file, given its numbers and the result of reading its entries.
abbrev file_from : ℕ → ℕ → Result (List TheEntry) FileFault → Result (ℕ × List TheEntry × ℕ) FileFault
file_from v s read =
    (read >>= λ ps. numbered v s ps (is_version v && nat_le (length ps) max_entries)) >>= λ file. entries_from file.0 file.1 file.2

in_age : (b : Bool) (ds : List Data) → (if b then pieces_from (old_of is_old_entry entry_of) parts.Entry 0 ds else pieces_from entry_of parts.Entry 0 ds) ≡ read_of b ds
in_age true ds = old_pieces parts.Entry 0 ds
in_age false ds = new_pieces parts.Entry 0 ds

pub age : (d : Data) (shape : Shape d) → is_old_file d ≡ (shape.version_no == 1)
age d shape = ap is_one shape.version_is

of_members : Option ℕ → Option ℕ → Option (List Data) → Result (ℕ × List TheEntry × ℕ) FileFault
of_members v s es =
    (contents_from max_entries v (option_and_then (λ n. Some (n ∷ [])) s)
    (or_fault faults.Member es >>= pieces_from (old_of is_old_entry entry_of) parts.Entry 0) (or_fault faults.Member es >>= pieces_from entry_of parts.Entry 0))
    >>= λ file. entries_from file.0 file.1 file.2

history_by : (d : Data) → history_in d ≡ of_members (number_named version d) (number_named (codes "stripes") d) (entries_of d)
unfolding contents_of of_members
history_by d = refl

members_read : (v s : ℕ) (ds : List Data) → of_members (Some v) (Some s) (Some ds) ≡ file_from v s (read_of (v == 1) ds)
unfolding of_members contents_from
members_read v s ds = ap (file_from v s) (in_age (v == 1) ds)

pub history_is : (d : Data) (shape : Shape d) → history_in d ≡ file_from shape.version_no shape.stripes_no (read_of (is_old_file d) shape.entries)
history_is d shape =
    history_by d ∙ (λ i. of_members (shape.version_is i) (shape.stripes_is i) (shape.entries_are i)) ∙ members_read shape.version_no shape.stripes_no shape.entries
    ∙ ap (λ b. file_from shape.version_no shape.stripes_no (read_of b shape.entries)) (sym (age d shape))

no_version : (s : Option ℕ) (es : Option (List Data)) → of_members None s es ≡ Err faults.Member
unfolding of_members contents_from
no_version s es = refl

no_stripes : (v : ℕ) (es : Option (List Data)) → of_members (Some v) None es ≡ Err faults.Member
unfolding of_members contents_from
no_stripes v es = refl

abbrev no_member : Result (List TheEntry) FileFault
no_member = Err faults.Member

either : (b : Bool) → (if b then no_member else no_member) ≡ no_member
either true = refl
either false = refl

no_entries : (v s : ℕ) → of_members (Some v) (Some s) None ≡ Err faults.Member
unfolding of_members contents_from
no_entries v s = ap (file_from v s) (either (v == 1))

by_members : (d : Data) (v s : Option ℕ) (es : Option (List Data)) → number_named version d ≡ v → number_named (codes "stripes") d ≡ s → entries_of d ≡ es
    → (flaw : Flaw) → flaw_in_members false d ≡ Some flaw → of_members v s es ≡ Err faults.Member
by_members d None s es a b c flaw is = no_version s es
by_members d (Some v) None es a b c flaw is = no_stripes v es
by_members d (Some v) (Some s) None a b c flaw is = no_entries v s
by_members d (Some v) (Some s) (Some ds) a b c flaw is =
    let none = shape_is_right d (record { version_no = v; stripes_no = s; entries = ds; version_is = a; stripes_is = b; entries_are = c }) in
    absurd (none-some flaw (sym none ∙ is))

pub member_wrong : (d : Data) (flaw : Flaw) → flaw_in_members false d ≡ Some flaw → TellsOf d (Some flaw)
member_wrong d flaw is = (faults.Member, history_by d ∙ by_members d _ _ _ refl refl refl flaw is, is)

-- ---- entries

bad_piece : (o r : Bool) (d e : Data) (i : ℕ) (flaw : Flaw) (x : Option (List Data)) → IsFlawOfEntry o r d i x flaw → option_and_then (entry_in o r) x ≡ None
bad_piece o r d e i flaw None is = refl
bad_piece o r d e i flaw (Some xs) is = is.2.refused

at_entries : (d : Data) (shape : Shape d) (i : ℕ) → entry_at i d ≡ slice_get shape.entries i
at_entries d shape i = ap (λ (x : Option (List Data)). option_and_then (λ ds. slice_get ds i) x) shape.entries_are

abbrev piece_fault : ℕ → Result (List TheEntry) FileFault
piece_fault n = Err (faults.Piece parts.Entry n)

pub entry_wrong : (d : Data) (shape : Shape d) (i : ℕ) (flaw : Flaw) → IsFlawAt (is_old_file d) false d i flaw → TellsOf d (Some flaw)
entry_wrong d shape i flaw is =
    let o = is_old_file d in
    let bad = bad_piece o false d is.entry i flaw (elements_of is.entry) is.here in
    let read : read_of o shape.entries ≡ Err (faults.Piece parts.Entry (0 + i)) =
    first_bad o parts.Entry 0 i shape.entries is.entry (sym (at_entries d shape i) ∙ is.is_there) bad (λ j x below there. is.before j x below (at_entries d shape j ∙ there)) in
    let index : 0 + i ≡ i = omega arith in
    (faults.Piece parts.Entry i, history_is d shape ∙ ap (file_from shape.version_no shape.stripes_no) (read ∙ ap piece_fault index), is)

-- ---- ranges

-- The content of a file whose entries were all read, given the results of three tests. `b`: the
-- version and the number of entries are in range. `c`: the number of stripes is in range. `e`: all
-- callers are in range.
abbrev by_tests : ℕ → ℕ → List TheEntry → (b c e : Bool) → Result (ℕ × List TheEntry × ℕ) FileFault
by_tests v s ps b c e = if b then (if c && e then Ok (s, ps, v) else Err faults.Limit) else Err faults.Limit

gated : (v s : ℕ) (ps : List TheEntry) (b : Bool) → (numbered v s ps b >>= λ file. entries_from file.0 file.1 file.2)
    ≡ by_tests v s ps b (nat_le 1 s && nat_le s max_stripes) (list_all is_in_range ps)
unfolding entries_from
gated v s ps true = refl
gated v s ps false = refl

two_true : (a b : Bool) → (a && b) ≡ true → (a ≡ true) × (b ≡ true)
two_true true b is = (refl, is)
two_true false b is = absurd (cc is)

both_true : (a b : Bool) → a ≡ true → b ≡ true → (a && b) ≡ true
both_true true b is also = also
both_true false b is also = is

out_by : (v s : ℕ) (ps : List TheEntry) (b c e : Bool) → (b ≡ true → c ≡ true → ⊥) → by_tests v s ps b c e ≡ Err faults.Limit
out_by v s ps b c e apart = elim b as (λ x. b ≡ x → by_tests v s ps x c e ≡ Err faults.Limit) [
  | true ↦ λ is. elim c as (λ y. c ≡ y → by_tests v s ps true y e ≡ Err faults.Limit) [
    | true ↦ λ also. absurd (apart is also)
    | false ↦ λ off. refl
  ] refl
  | false ↦ λ off. refl
] refl

callers_off : (v s : ℕ) (ps : List TheEntry) (b c e : Bool) → e ≡ false → by_tests v s ps b c e ≡ Err faults.Limit
callers_off v s ps true true e off = ap (λ (x : Bool). by_tests v s ps true true x) off
callers_off v s ps true false e off = refl
callers_off v s ps false c e off = refl

abbrev few : ℕ → List TheEntry → Bool
few v ps = is_version v && nat_le (length ps) max_entries

abbrev some_locks : ℕ → Bool
some_locks s = nat_le 1 s && nat_le s max_stripes

-- A file whose shape is right, and all of whose entries were read.
module _ (d : Data) (shape : Shape d) (all : Pieced (is_old_file d) parts.Entry 0 shape.entries) where
  tested_history : history_in d ≡ by_tests shape.version_no shape.stripes_no all.pieces (few shape.version_no all.pieces) (some_locks shape.stripes_no) (list_all is_in_range all.pieces)
  tested_history = history_is d shape ∙ ap (file_from shape.version_no shape.stripes_no) all.read ∙ gated shape.version_no shape.stripes_no all.pieces (few shape.version_no all.pieces)

  few_is : few shape.version_no all.pieces ≡ (is_version shape.version_no && nat_le (length shape.entries) max_entries)
  few_is = ap (λ n. is_version shape.version_no && nat_le n max_entries) all.count

  members_ranged : few shape.version_no all.pieces ≡ true → some_locks shape.stripes_no ≡ true → flaw_in_members true d ≡ None
  members_ranged a b =
      let both = two_true (is_version shape.version_no) (nat_le (length shape.entries) max_entries) (sym few_is ∙ a) in
      no_flaw true d (is_object version d shape.version_no shape.version_is) (record {
        version_is = version_ranged shape.version_no (at Version d) shape.version_is ∙ both.0;
        stripes_is = stripes_ranged shape.stripes_no (at Stripes d) shape.stripes_is ∙ b;
        entries_is = entries_ranged shape.entries (at Entries d) shape.entries_are ∙ both.1;
      })

  ranged_members : flaw_in_members true d ≡ None → (few shape.version_no all.pieces ≡ true) × (some_locks shape.stripes_no ≡ true)
  ranged_members is =
      let m = members_are true d is in (
        few_is ∙ both_true (is_version shape.version_no) (nat_le (length shape.entries) max_entries) (sym (version_ranged shape.version_no (at Version d) shape.version_is) ∙ m.version_is) (sym (entries_ranged shape.entries (at Entries d) shape.entries_are) ∙ m.entries_is),
        sym (stripes_ranged shape.stripes_no (at Stripes d) shape.stripes_is) ∙ m.stripes_is,
      )

  pub range_wrong : (flaw : Flaw) → flaw_in_members true d ≡ Some flaw → TellsOf d (Some flaw)
  range_wrong flaw is = (
    faults.Limit,
    tested_history ∙ out_by shape.version_no shape.stripes_no all.pieces (few shape.version_no all.pieces) (some_locks shape.stripes_no) (list_all is_in_range all.pieces)
        (λ a b. none-some flaw (sym (members_ranged a b) ∙ is)),
    inl is,
  )

  pub caller_wrong : flaw_in_members true d ≡ None → (i : ℕ) (flaw : Flaw) → IsFlawAt (is_old_file d) true d i flaw → TellsOf d (Some flaw)
  caller_wrong none i flaw is =
      let o = is_old_file d in
      let bad = bad_piece o true d is.entry i flaw (elements_of is.entry) is.here in
      let off = all.in_range ∙ one_off o i shape.entries is.entry (sym (at_entries d shape i) ∙ is.is_there) bad in (
        faults.Limit,
        tested_history ∙ callers_off shape.version_no shape.stripes_no all.pieces (few shape.version_no all.pieces) (some_locks shape.stripes_no) (list_all is_in_range all.pieces) off,
        inr (none, (i, is)),
      )

  pub all_right : flaw_in_members true d ≡ None → AreEntries (is_old_file d) true shape.entries → TellsOf d None
  all_right none entries =
      let m = ranged_members none in
      let callers = all.in_range ∙ all_ranged (is_old_file d) shape.entries entries in
      let taken : history_in d ≡ Ok (shape.stripes_no, all.pieces, shape.version_no) =
      tested_history ∙ (λ i. by_tests shape.version_no shape.stripes_no all.pieces (m.0 i) (m.1 i) (callers i)) in
      ap is_ok taken

-- ---- the tests, one after the other

none_in : (x y : Option Flaw) → is_some x ≡ false → x ≡ y → y ≡ None
none_in None y off is = sym is
none_in (Some flaw) y off is = absurd (cc off)

pub members_tell : (d : Data) (found : Option Flaw) → is_some found ≡ true → found ≡ flaw_in_members false d → TellsOf d found
members_tell d None on is = absurd (cc on)
members_tell d (Some flaw) on is = member_wrong d flaw (sym is)

-- A file whose shape is right, with these entries.
abbrev shaped : (d : Data) (ds : List Data) → flaw_in_members false d ≡ None → entries_of d ≡ Some ds → Shape d
shaped d ds none are =
    let s = shape_of d none in
    record { version_no = s.version_no; stripes_no = s.stripes_no; entries = ds; version_is = s.version_is; stripes_is = s.stripes_is; entries_are = are }

-- The search through the elements has found the flaw `found`. If `found` is None, each element is
-- an entry.
abbrev pub IsFound : Bool → Bool → Data → List Data → Option Flaw → Type 0
IsFound o r d ds found = MatchOption found (AreEntries o r ds) (λ flaw. (i : ℕ) × IsFlawAt o r d i flaw)

-- The first test of the members has found no flaw.
module _ (d : Data) (o : Bool) (ds : List Data) (first : Option Flaw) (old : o ≡ is_old_file d) (are : entries_of d ≡ Some ds) (off : is_some first ≡ false) (first_is : first ≡ flaw_in_members false d) where
  abbrev shape : Shape d
  shape = shaped d ds (none_in first (flaw_in_members false d) off first_is) are

  pub entries_tell : (found : Option Flaw) → is_some found ≡ true → IsFound o false d ds found → TellsOf d found
  entries_tell None on is = absurd (cc on)
  entries_tell (Some flaw) on is = entry_wrong d shape is.0 flaw (subst (λ b. IsFlawAt b false d is.0 flaw) old is.1)

  pieced : (second : Option Flaw) → is_some second ≡ false → IsFound o false d ds second → Pieced (is_old_file d) parts.Entry 0 ds
  pieced None none is = all_pieces (is_old_file d) parts.Entry 0 ds (subst (λ b. AreEntries b false ds) old is)
  pieced (Some flaw) none is = absurd (cc none)

  pub ranges_tell : (second third : Option Flaw) → is_some second ≡ false → IsFound o false d ds second → is_some third ≡ true → third ≡ flaw_in_members true d → TellsOf d third
  ranges_tell second None none second_is on is = absurd (cc on)
  ranges_tell second (Some flaw) none second_is on is = range_wrong d shape (pieced second none second_is) flaw (sym is)

  pub callers_tell : (second third last : Option Flaw) → is_some second ≡ false → IsFound o false d ds second → is_some third ≡ false → third ≡ flaw_in_members true d → IsFound o true d ds last → TellsOf d last
  callers_tell second third None none second_is no_third third_is is =
      all_right d shape (pieced second none second_is) (none_in third (flaw_in_members true d) no_third third_is) (subst (λ b. AreEntries b true ds) old is)
  callers_tell second third (Some flaw) none second_is no_third third_is is =
      caller_wrong d shape (pieced second none second_is) (none_in third (flaw_in_members true d) no_third third_is) is.0 flaw (subst (λ b. IsFlawAt b true d is.0 flaw) old is.1)

-- ---- the bytes

pub too_long : (bytes : List ℕ) → json_of bytes ≡ Err faults.Limit → TellsFlaw bytes (Some TooLong)
too_long bytes is =
    (faults.Limit, ap (λ (r : Result Data FileFault). (r >>= contents_of history_file) >>= λ file. entries_from file.0 file.1 file.2) is, subst (λ r. IsFlaw faults.Limit r TooLong) (sym is) refl)

pub not_json : (bytes : List ℕ) (line column : ℕ) → json_of bytes ≡ Err faults.NotJson → TellsFlaw bytes (Some (NotJson line column))
not_json bytes line column is =
    (faults.NotJson, ap (λ (r : Result Data FileFault). (r >>= contents_of history_file) >>= λ file. entries_from file.0 file.1 file.2) is, subst (λ r. IsFlaw faults.NotJson r (NotJson line column)) (sym is) (line, column, refl))

of_value : (bytes : List ℕ) (d : Data) → json_of bytes ≡ Ok d → history_of bytes ≡ history_in d
of_value bytes d is = ap (λ (r : Result Data FileFault). (r >>= contents_of history_file) >>= λ file. entries_from file.0 file.1 file.2) is

pub told : (bytes : List ℕ) (d : Data) (found : Option Flaw) → json_of bytes ≡ Ok d → TellsOf d found → TellsFlaw bytes found
told bytes d None is tells = ap is_ok (of_value bytes d is) ∙ tells
told bytes d (Some flaw) is tells = (tells.0, of_value bytes d is ∙ tells.1, subst (λ r. IsFlaw tells.0 r flaw) (sym is) tells.2)
