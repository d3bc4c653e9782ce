-- Shows what one more member changes of what was found in an object (`AreFound`), because the last
-- member with a name counts, and the names differ.
use Rattle.std.proofs.Common.{◌≡◌, ℕ, zero, suc, ◌+◌, ◌<◌, ◌≤◌, nat_lt, cond, List, [], ◌∷◌, length, map, replicate, get_or, Bool, true, false, ◌&&◌, not, bytes_eq, true≢false, Option, Some, None, option_and_then, refl, sym, ap, subst, ◌∙◌, arith}
use Rattle.std.proofs.Math.ListN.{set}
use Rattle.std.specs.List.{list_all, position, prefix_len}
use Rattle.std.proofs.lemmas.Slice.Eq.{bytes_eq-Decides}
use Rattle.std.proofs.lemmas.List.{length-map}
use Rattle.std.proofs.lemmas.Bool.Decides.{nat_tests}
use Rattle.std.proofs.lemmas.List.Quantifiers.{position-Some}
use Rattle.serde_json.specs.Data.{Data, Members, no_members, put}
use Rattle.serde_json.specs.Find.{get_member}
use Rattle.serde_json.proofs.Views.{get_member-put, get_member-put_other}
use Rattle.piece_files.specs.Elements.{whole_number}
use Rattle.piece_files.specs.declared.piece.Pieces.{Pieces}
use Rattle.piece_files.specs.Files.{FileKind, version, names_of, are_apart}
use Rattle.piece_files.specs.Members.{last_number, ArePiecesOf, ArePiecesIn, AreFound}

-- ---- names

same_from : (a b : List ℕ) → bytes_eq a b ≡ true → a ≡ b
same_from a b e = (bytes_eq-Decides a b).0 e

is_false : (b : Bool) → (b ≡ true → ⊥) → b ≡ false
is_false true none = absurd (none refl)
is_false false none = refl

pub apart_back : (a b : List ℕ) → bytes_eq a b ≡ false → bytes_eq b a ≡ false
apart_back a b e = is_false (bytes_eq b a) (λ same. true≢false (sym ((bytes_eq-Decides a b).1 (sym (same_from b a same))) ∙ e))

pub is_apart : (key name other : List ℕ) → key ≡ name → bytes_eq name other ≡ false → bytes_eq key other ≡ false
is_apart key name other same e = ap (λ k. bytes_eq k other) same ∙ e

-- Whether none of the names is the key.
abbrev pub is_none : List ℕ → List (List ℕ) → Bool
is_none key names = list_all (λ other. not (bytes_eq key other)) names

both_true : (a b : Bool) → a && b ≡ true → (a ≡ true) × (b ≡ true)
both_true true b e = (refl, e)
both_true false b e = absurd (true≢false (sym e))

not_true : (b : Bool) → not b ≡ true → b ≡ false
not_true true e = absurd (true≢false (sym e))
not_true false e = refl

-- ---- the last member with a name

pub last_here : (key name : List ℕ) (d : Data) (ms : Members) → key ≡ name → get_member name (put key d ms) ≡ Some d
last_here key name d ms same = ap (λ q. get_member q (put key d ms)) (sym same) ∙ get_member-put key d ms

pub last_other : (key name : List ℕ) (d : Data) (ms : Members) → bytes_eq key name ≡ false → get_member name (put key d ms) ≡ get_member name ms
last_other key name d ms e = get_member-put_other name key d ms (λ same. true≢false (sym ((bytes_eq-Decides key name).1 (sym same)) ∙ e))

pub number_here : (key name : List ℕ) (d : Data) (ms : Members) → key ≡ name → last_number (put key d ms) name ≡ whole_number d
number_here key name d ms same = ap (option_and_then whole_number) (last_here key name d ms same)

pub number_other : (key name : List ℕ) (d : Data) (ms : Members) → bytes_eq key name ≡ false → last_number (put key d ms) name ≡ last_number ms name
number_other key name d ms e = ap (option_and_then whole_number) (last_other key name d ms e)

-- ---- the numbers in the last members of some names

pub numbers_other : (key : List ℕ) (d : Data) (ms : Members) (names : List (List ℕ)) → is_none key names ≡ true → map (last_number (put key d ms)) names ≡ map (last_number ms) names
numbers_other key d ms [] e = refl
numbers_other key d ms (name ∷ names) e =
    let parts = both_true (not (bytes_eq key name)) (is_none key names) e in
    rw (number_other key name d ms (not_true (bytes_eq key name) parts.0), numbers_other key d ms names parts.1) refl

apart_at : (name : List ℕ) (names : List (List ℕ)) (i : ℕ) → i < length names → is_none name names ≡ true → bytes_eq name (get_or names i []) ≡ false
apart_at name [] i lt e = absurd (omega (arith, lt))
apart_at name (other ∷ names) zero lt e = not_true (bytes_eq name other) (both_true (not (bytes_eq name other)) (is_none name names) e).0
apart_at name (other ∷ names) (suc i) lt e = apart_at name names i (omega (arith, lt)) (both_true (not (bytes_eq name other)) (is_none name names) e).1

pub numbers_set : (key : List ℕ) (d : Data) (ms : Members) (names : List (List ℕ)) (i : ℕ) → i < length names → get_or names i [] ≡ key → are_apart names ≡ true
    → set (map (last_number ms) names) i (whole_number d) ≡ map (last_number (put key d ms)) names
numbers_set key d ms [] i lt same apart = absurd (omega (arith, lt))
numbers_set key d ms (name ∷ names) zero lt same apart =
    let none : is_none key names ≡ true = subst (λ k. is_none k names ≡ true) same (both_true (is_none name names) (are_apart names) apart).0 in
    rw (number_here key name d ms (sym same), numbers_other key d ms names none) refl
numbers_set key d ms (name ∷ names) (suc i) lt same apart =
    let parts = both_true (is_none name names) (are_apart names) apart in
    let differs : bytes_eq key name ≡ false = apart_back name key (ap (bytes_eq name) (sym same) ∙ apart_at name names i (omega (arith, lt)) parts.0) in
    rw (number_other key name d ms differs, ← numbers_set key d ms names i (omega (arith, lt)) same parts.1) refl

-- ---- the index of a key among names

prefix_len-map : {X Y : Type 0} (p : Y → Bool) (f : X → Y) (xs : List X) → prefix_len (λ x. p (f x)) xs ≡ prefix_len p (map f xs)
prefix_len-map p f [] = refl
prefix_len-map p f (x ∷ xs) = rw (prefix_len-map p f xs) refl

pub position-map : {X Y : Type 0} (p : Y → Bool) (f : X → Y) (xs : List X) → position (λ x. p (f x)) xs ≡ position p (map f xs)
position-map p f xs = rw (← prefix_len-map (λ y. not (p y)) f xs, length-map) refl

pub stands_at : (key : List ℕ) (names : List (List ℕ)) (i : ℕ) → position (λ name. bytes_eq name key) names ≡ Some i → (i < length names) × (get_or names i [] ≡ key)
stands_at key names i e =
    let at = position-Some (λ name. bytes_eq name key) names i [] e in
    (at.0, same_from (get_or names i []) key at.1)

turned_one : (key name : List ℕ) (rest back : Bool) → not (bytes_eq name key) && rest ≡ true → (rest ≡ true → back ≡ true) → not (bytes_eq key name) && back ≡ true
turned_one key name rest back e f =
    let parts = both_true (not (bytes_eq name key)) rest e in
    rw (apart_back name key (not_true (bytes_eq name key) parts.0)) (f parts.1)

turned : (key : List ℕ) (names : List (List ℕ)) → list_all (λ name. not (bytes_eq name key)) names ≡ true → is_none key names ≡ true
turned key [] e = refl
turned key (name ∷ names) e = turned_one key name (list_all (λ name. not (bytes_eq name key)) names) (is_none key names) e (turned key names)

one_passes : (b : Bool) (n m : ℕ) (rest : Bool) → suc n ≤ cond b (1 + m) 0 → (n ≤ m → rest ≡ true) → b && rest ≡ true
one_passes true n m rest le f = f (omega (arith, le))
one_passes false n m rest le f = absurd (omega (arith, le))

all_pass : {X : Type 0} (p : X → Bool) (xs : List X) → length xs ≤ prefix_len p xs → list_all p xs ≡ true
all_pass p [] le = refl
all_pass p (x ∷ xs) le = one_passes (p x) (length xs) (prefix_len p xs) (list_all p xs) le (all_pass p xs)

chosen_none : (b : Bool) (i : ℕ) → cond b (Some i) None ≡ None → b ≡ false
chosen_none true i e = absurd (grind (arith, e))
chosen_none false i e = refl

pub stands_nowhere : (key : List ℕ) (names : List (List ℕ)) → position (λ name. bytes_eq name key) names ≡ None → is_none key names ≡ true
stands_nowhere key names e =
    let m = prefix_len (λ name. not (bytes_eq name key)) names in
    let over : nat_lt m (length names) ≡ false = chosen_none (nat_lt m (length names)) m e in
    turned key names (all_pass (λ name. not (bytes_eq name key)) names (grind (arith, nat_tests, over)))

-- ---- what was found, after one more member

-- In files of this kind, the version, the pieces and the numbers have different names.
pub record Apart {P : Type 0} (kind : FileKind P) : Type 0 where
  pub first : bytes_eq version kind.pieces ≡ false
  pub from_version : is_none version kind.numbers ≡ true
  pub from_pieces : is_none kind.pieces kind.numbers ≡ true
  pub numbers : are_apart kind.numbers ≡ true

pub apart_of : {P : Type 0} (kind : FileKind P) → are_apart (names_of kind) ≡ true → Apart kind
apart_of kind e =
    let a = both_true (is_none version (kind.pieces ∷ kind.numbers)) (are_apart (kind.pieces ∷ kind.numbers)) e in
    let b = both_true (not (bytes_eq version kind.pieces)) (is_none version kind.numbers) a.0 in
    let c = both_true (is_none kind.pieces kind.numbers) (are_apart kind.numbers) a.1 in
    record { first = not_true (bytes_eq version kind.pieces) b.0; from_version = b.1; from_pieces = c.0; numbers = c.1 }

module _ {P : Type 0} (kind : FileKind P) (apart : Apart kind) (n : Option ℕ) (numbers : List (Option ℕ)) (pieces : Option (Pieces P)) (key : List ℕ) (d : Data) (ms : Members) where
  same_pieces : bytes_eq key kind.pieces ≡ false → AreFound kind n numbers pieces ms → ArePiecesIn kind.of kind.is_old kind.part kind.most pieces (get_member kind.pieces (put key d ms))
  same_pieces e h = subst (ArePiecesIn kind.of kind.is_old kind.part kind.most pieces) (sym (last_other key kind.pieces d ms e)) h.the_pieces

  pub take_version : bytes_eq key version ≡ true → (new : Option ℕ) → new ≡ whole_number d → AreFound kind n numbers pieces ms → AreFound kind new numbers pieces (put key d ms)
  take_version e new is h = let same = same_from key version e in record {
    the_version = is ∙ sym (number_here key version d ms same);
    the_numbers = h.the_numbers ∙ sym (numbers_other key d ms kind.numbers (ap (λ k. is_none k kind.numbers) same ∙ apart.from_version));
    the_pieces = same_pieces (is_apart key version kind.pieces same apart.first) h;
  }

  pub take_pieces : bytes_eq key kind.pieces ≡ true → (new : Option (Pieces P)) → ArePiecesOf kind.of kind.is_old kind.part kind.most new d → AreFound kind n numbers pieces ms → AreFound kind n numbers new (put key d ms)
  take_pieces e new are h = let same = same_from key kind.pieces e in record {
    the_version = h.the_version ∙ sym (number_other key version d ms (is_apart key kind.pieces version same (apart_back version kind.pieces apart.first)));
    the_numbers = h.the_numbers ∙ sym (numbers_other key d ms kind.numbers (ap (λ k. is_none k kind.numbers) same ∙ apart.from_pieces));
    the_pieces = subst (ArePiecesIn kind.of kind.is_old kind.part kind.most new) (sym (last_here key kind.pieces d ms same)) are;
  }

  pub take_number : bytes_eq key version ≡ false → bytes_eq key kind.pieces ≡ false → (i : ℕ) → position (λ name. bytes_eq name key) kind.numbers ≡ Some i → (new : Option ℕ) → new ≡ whole_number d
      → AreFound kind n numbers pieces ms → AreFound kind n (set numbers i new) pieces (put key d ms)
  take_number no_version no_pieces i at new is h =
      let there = stands_at key kind.numbers i at in
      record {
        the_version = h.the_version ∙ sym (number_other key version d ms no_version);
        the_numbers = rw (is, h.the_numbers) (numbers_set key d ms kind.numbers i there.0 there.1 apart.numbers);
        the_pieces = same_pieces no_pieces h;
      }

  pub take_other : bytes_eq key version ≡ false → bytes_eq key kind.pieces ≡ false → position (λ name. bytes_eq name key) kind.numbers ≡ None → AreFound kind n numbers pieces ms → AreFound kind n numbers pieces (put key d ms)
  take_other no_version no_pieces nowhere h = record {
    the_version = h.the_version ∙ sym (number_other key version d ms no_version);
    the_numbers = h.the_numbers ∙ sym (numbers_other key d ms kind.numbers (stands_nowhere key kind.numbers nowhere));
    the_pieces = same_pieces no_pieces h;
  }

no_numbers : (names : List (List ℕ)) (k : ℕ) → length names ≡ k → replicate k None ≡ map (last_number no_members) names
no_numbers [] zero e = refl
no_numbers [] (suc k) e = absurd (omega (arith, e))
no_numbers (name ∷ names) zero e = absurd (omega (arith, e))
no_numbers (name ∷ names) (suc k) e = ap (λ (rest : List (Option ℕ)). None ∷ rest) (no_numbers names k (omega (arith, e)))

-- Nothing is found in an object without members.
pub nothing_found : {P : Type 0} (kind : FileKind P) (k : ℕ) → length kind.numbers ≡ k → AreFound kind None (replicate k None) None no_members
nothing_found kind k e = record { the_version = refl; the_numbers = no_numbers kind.numbers k e; the_pieces = refl }
