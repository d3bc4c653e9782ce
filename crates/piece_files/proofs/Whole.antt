-- How the contents of a file, or its first fault, follow from what was found in its members
-- (`AreFound`).
use Rattle.std.proofs.Common.{◌≡◌, ℕ, zero, suc, ◌<◌, ◌≤◌, List, [], ◌∷◌, ◌++◌, length, map, take, get_or, Bool, true, false, ◌&&◌, nat_le, cond, Option, Some, None, option_map, option_and_then, Result, Ok, Err, refl, sym, ap, subst, ◌∙◌, arith}
use Rattle.std.specs.Option.{ok_or}
use Rattle.std.specs.Result.{IsErrAnd}
use Rattle.std.proofs.lemmas.Bool.Decides.{nat_tests}
use Rattle.std.proofs.lemmas.Bool.{le-leb}
use Rattle.std.proofs.lemmas.List.{take_all}
use Rattle.serde_json.specs.Data.{Data, null, boolean, number, string, array, object}
use Rattle.serde_json.specs.Find.{get, get_member}
use Rattle.piece_files.specs.declared.part.Part.{Part}
use Rattle.piece_files.specs.declared.piece.Pieces.{Pieces}
use Rattle.piece_files.specs.declared.file_fault.FileFault.{FileFault}
use Rattle.piece_files.specs.declared.file_fault.FileFault.TheVariants.{NotJson, Member, Piece, Limit, NoMemory}
use Rattle.piece_files.specs.Elements.{whole_number, elements_of}
use Rattle.piece_files.specs.Faults.{◌>>=◌, or_fault, FailsAs, Gives}
use Rattle.piece_files.specs.Files.{FileKind, version, all_of, contents_from, contents_of, is_version}
use Rattle.piece_files.specs.Json.{number_named}
use Rattle.piece_files.specs.Members.{AreFound, ArePiecesIn, FindsIn, last_number, members_within}
use Rattle.piece_files.specs.Pieces.{pieces_from, pieces_member, old_of, in_version}

-- ---- the numbers, if none is missing

pub all_but_one : (numbers : List (Option ℕ)) (i : ℕ) → i < length numbers → get_or numbers i None ≡ None → all_of numbers ≡ None
all_but_one [] i lt e = absurd (omega (arith, lt))
all_but_one (first ∷ numbers) zero lt e = rw e refl
all_but_one (None ∷ numbers) (suc i) lt e = refl
all_but_one (Some n ∷ numbers) (suc i) lt e = rw (all_but_one numbers i (omega (arith, lt)) e) refl

put_behind : (m n : ℕ) (o : Option (List ℕ)) → option_map (λ ns. m ∷ ns) (option_map (λ ns. ns ++ n ∷ []) o) ≡ option_map (λ ns. ns ++ n ∷ []) (option_map (λ ns. m ∷ ns) o)
put_behind m n None = refl
put_behind m n (Some ns) = refl

pub one_more : (numbers : List (Option ℕ)) (n : ℕ) → all_of (numbers ++ Some n ∷ []) ≡ option_map (λ ns. ns ++ n ∷ []) (all_of numbers)
one_more [] n = refl
one_more (None ∷ numbers) n = refl
one_more (Some m ∷ numbers) n = ap (option_map (λ ns. m ∷ ns)) (one_more numbers n) ∙ put_behind m n (all_of numbers)

-- ---- the first fault

pub fails_first : {A B : Type 0} (fault : FileFault) (r : Result A FileFault) (next : A → Result B FileFault) → FailsAs fault r → FailsAs fault (r >>= next)
fails_first NotJson r next h = ap (λ x. x >>= next) h
fails_first Member r next h = ap (λ x. x >>= next) h
fails_first (Piece part i) r next h = ap (λ x. x >>= next) h
fails_first Limit r next h = ap (λ x. x >>= next) h
fails_first NoMemory r next h = tt

-- If a function returns a fault by `?`, and the fault satisfies `FailsAs`, the function's result
-- satisfies `Gives`.
pub gives_fault : {X Y : Type 0} (seen : X → Y) (r : Result X FileFault) (fault : FileFault) (wanted : Result Y FileFault) → IsErrAnd r (λ e. e ≡ fault) → FailsAs fault wanted → Gives seen r wanted
gives_fault seen (Ok x) fault wanted and h = absurd and
gives_fault seen (Err e) fault wanted and h = subst (λ f. FailsAs f wanted) (sym and) h

-- If `ok_or o Member` is a fault, the option `o` is `None`, and the fault is `Member`.
missing : {A : Type 0} (o : Option A) (fault : FileFault) → Err fault ≡ ok_or o Member → (o ≡ None) × (fault ≡ Member)
missing None fault e = (refl, cc)
missing (Some x) fault e = absurd (grind (arith, e))

module _ {P : Type 0} (most : ℕ) (version : Option ℕ) (numbers : Option (List ℕ)) (old new : Result (List P) FileFault) where
  pub version_fault : (fault : FileFault) → Err fault ≡ ok_or version Member → FailsAs fault (contents_from most version numbers old new)
  unfolding contents_from
  version_fault fault e = let h = missing version fault e in rw (h.1, h.0) refl

  module _ (v : ℕ) (is : version ≡ Some v) where
    pub numbers_fault : (fault : FileFault) → Err fault ≡ ok_or numbers Member → FailsAs fault (contents_from most version numbers old new)
    unfolding contents_from
    numbers_fault fault e = let h = missing numbers fault e in rw (h.1, is, h.0) refl

    module _ (ns : List ℕ) (are : numbers ≡ Some ns) where
      pub pieces_fault : (fault : FileFault) → FailsAs fault (in_version v old new)
          → FailsAs fault (contents_from most version numbers old new)
      unfolding contents_from
      pieces_fault fault h = rw (is, are) (fails_first fault (in_version v old new) _ h)

      all_there : (all : List P) → in_version v old new ≡ Ok all → contents_from most version numbers old new ≡ cond (is_version v && nat_le (length all) most) (Ok (v, ns, all)) (Err Limit)
      unfolding contents_from
      all_there all same = rw (is, are, same) refl

      pub in_range : (all kept : List P) (count : ℕ) → in_version v old new ≡ Ok all → count ≡ length all → kept ≡ take most all → is_version v ≡ true → count ≤ most → contents_from most version numbers old new ≡ Ok (v, ns, kept)
      in_range all kept count same counted keeps is_read few =
          let short : length all ≤ most = omega arith in
          all_there all same ∙ rw (is_read, le-leb (length all) most short, keeps, take_all most all short) refl

      pub other_version : (all : List P) → in_version v old new ≡ Ok all → is_version v ≡ false → contents_from most version numbers old new ≡ Err Limit
      other_version all same other = all_there all same ∙ rw other refl

      pub too_many : (all : List P) (count : ℕ) → in_version v old new ≡ Ok all → count ≡ length all → is_version v ≡ true → most < count → contents_from most version numbers old new ≡ Err Limit
      too_many all count same counted is_read more =
          let long : nat_le (length all) most ≡ false = grind (arith, nat_tests, counted, more) in
          all_there all same ∙ rw (is_read, long) refl

-- ---- the contents of a file, from the members of its value

get-within : (name : List ℕ) (d : Data) → get name d ≡ get_member name (members_within d)
get-within name null = refl
get-within name (boolean b) = refl
get-within name (number n) = refl
get-within name (string s) = refl
get-within name (array ds) = refl
get-within name (object ms) = refl

number-within : (d : Data) (name : List ℕ) → number_named name d ≡ last_number (members_within d) name
number-within d name = ap (option_and_then whole_number) (get-within name d)

numbers-within : (d : Data) (names : List (List ℕ)) → map (λ name. number_named name d) names ≡ map (last_number (members_within d)) names
numbers-within d [] = refl
numbers-within d (name ∷ names) = rw (number-within d name, numbers-within d names) refl

pieces-within : {P : Type 0} (of : List Data → Option P) (is_old : P → Bool) (part : Part) (most : ℕ) (found : Option (Pieces P)) (o : Option Data) → ArePiecesIn of is_old part most found o
    → FindsIn part most found (or_fault Member (option_and_then elements_of o) >>= pieces_from (old_of is_old of) part 0) (or_fault Member (option_and_then elements_of o) >>= pieces_from of part 0)
pieces-within of is_old part most found None h = rw h (refl, refl)
pieces-within of is_old part most None (Some d) h = rw h (refl, refl)
pieces-within of is_old part most (Some p) (Some d) h = rw h.1 h.2

pub finds_pieces : {P : Type 0} (kind : FileKind P) (n : Option ℕ) (numbers : List (Option ℕ)) (pieces : Option (Pieces P)) (d : Data) → AreFound kind n numbers pieces (members_within d)
    → FindsIn kind.part kind.most pieces (pieces_member (old_of kind.is_old kind.of) kind.part kind.pieces d) (pieces_member kind.of kind.part kind.pieces d)
finds_pieces kind n numbers pieces d h =
    rw (get-within kind.pieces d) (pieces-within kind.of kind.is_old kind.part kind.most pieces (get_member kind.pieces (members_within d)) h.the_pieces)

pub contents_are : {P : Type 0} (kind : FileKind P) (n : Option ℕ) (numbers : List (Option ℕ)) (pieces : Option (Pieces P)) (d : Data) → AreFound kind n numbers pieces (members_within d)
    → contents_of kind d ≡ contents_from kind.most n (all_of numbers) (pieces_member (old_of kind.is_old kind.of) kind.part kind.pieces d) (pieces_member kind.of kind.part kind.pieces d)
unfolding contents_of
contents_are kind n numbers pieces d h =
    rw (number-within d version, numbers-within d kind.numbers, ← h.the_version, ← h.the_numbers) refl
