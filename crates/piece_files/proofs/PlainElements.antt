-- The functions of `Elements.antt`, such as `number_at`, accept only plain elements. They reject
-- each list that has too many elements, or an element that is not plain.
use Rattle.std.proofs.Common.{◌≡◌, ℕ, zero, suc, List, [], ◌∷◌, length, Bool, true, false, ◌==◌, ◌&&◌, Option, Some, None, option_map, if◌then◌else◌, refl, ap, arith}
use Rattle.std.specs.Prelude.{⊤}
use Rattle.serde_json.specs.Data.{unsigned, negative, float, Data, null, boolean, number, string, array, object}
use Rattle.serde_json.specs.Find.{as_str}
use Rattle.piece_files.specs.Elements.{◌>>=◌, whole_number, number_at, leading_text, one_of, two_of, ends_here, optional, optional_at, optional_of}
use Rattle.piece_files.specs.Tokens.{is_plain, are_plain}
use Rattle.piece_files.proofs.ValueKinds.{never}

-- ---- the parts of a result that is `Some`

pub bound : {A B : Type 0} (o : Option A) (f : A → Option B) (b : B) → (o >>= f) ≡ Some b → (a : A) × (o ≡ Some a) × (f a ≡ Some b)
bound None f b e = absurd (grind (arith, e))
bound (Some a) f b e = (a, refl, e)

pub chosen : {A Q : Type 0} (b : Bool) (x y : Option A) {a : A} → (if b then x else y) ≡ Some a → (x ≡ Some a → Q) → (y ≡ Some a → Q) → Q
chosen true x y e f g = f e
chosen false x y e f g = g e

pub tested : {A : Type 0} (b : Bool) (x : A) {a : A} → (if b then Some x else None) ≡ Some a → b ≡ true
tested true x e = refl
tested false x e = never e

abbrev pub pick : {A : Type 0} → A → Option A → A
pick a None = a
pick a (Some b) = b

paired : {A : Type 0} (o : Option A) (ds : List Data) (p : A × List Data) → option_map (λ x. (x, ds)) o ≡ Some p → (o ≡ Some p.0) × (ds ≡ p.1)
paired None ds p e = never e
paired (Some x) ds p e = let same = ap (pick (x, ds)) e in (ap (λ q. Some q.0) same, ap (λ q. q.1) same)

-- ---- single elements

number_plain : (d : Data) (n : ℕ) → whole_number d ≡ Some n → is_plain d ≡ true
number_plain null n e = never e
number_plain (boolean b) n e = never e
number_plain (number (unsigned m)) n e = refl
number_plain (number (negative z)) n e = never e
number_plain (number (float x)) n e = never e
number_plain (string s) n e = never e
number_plain (array ds) n e = never e
number_plain (object ms) n e = never e

text_plain : (d : Data) (s : List ℕ) → as_str d ≡ Some s → is_plain d ≡ true
text_plain null s e = never e
text_plain (boolean b) s e = never e
text_plain (number x) s e = never e
text_plain (string t) s e = refl
text_plain (array ds) s e = never e
text_plain (object ms) s e = never e

optional_plain : (d : Data) (r : Option ℕ) → optional d ≡ Some r → is_plain d ≡ true
optional_plain null r e = refl
optional_plain (boolean b) r e = never e
optional_plain (number (unsigned m)) r e = refl
optional_plain (number (negative z)) r e = never e
optional_plain (number (float x)) r e = never e
optional_plain (string s) r e = never e
optional_plain (array ds) r e = never e
optional_plain (object ms) r e = never e

-- ---- lists of elements

pub none_left : (k : ℕ) (ds : List Data) → (length ds == 0) ≡ true → are_plain k ds ≡ true
unfolding are_plain
none_left k [] e = refl
none_left k (d ∷ ds) e = absurd (grind (arith, e))

both : (b : Bool) {x y : Bool} → b && x ≡ true → (x ≡ true → y ≡ true) → b && y ≡ true
both true e f = f e
both false e f = e

pub room : (k : ℕ) (ds : List Data) → are_plain k ds ≡ true → are_plain (suc k) ds ≡ true
unfolding are_plain
room k [] e = refl
room zero (d ∷ ds) e = absurd (grind (arith, e))
room (suc k) (d ∷ ds) e = both (is_plain d) e (λ rest. room k ds rest)

pub number_first : (k : ℕ) (ds : List Data) (p : ℕ × List Data) → number_at ds ≡ Some p → are_plain k p.1 ≡ true → are_plain (suc k) ds ≡ true
unfolding number_at are_plain
number_first k [] p e h = never e
number_first k (d ∷ ds) p e h = let parts = paired (whole_number d) ds p e in rw (number_plain d p.0 parts.0, parts.1) h

pub word_first : (k : ℕ) (ds : List Data) (p : List ℕ × List Data) → leading_text ds ≡ Some p → are_plain k p.1 ≡ true → are_plain (suc k) ds ≡ true
unfolding leading_text are_plain
word_first k [] p e h = never e
word_first k (d ∷ ds) p e h = let parts = paired (as_str d) ds p e in rw (text_plain d p.0 parts.0, parts.1) h

pub one_plain : (k : ℕ) (ds : List Data) (n : ℕ) → one_of ds ≡ Some n → are_plain (suc k) ds ≡ true
unfolding one_of
one_plain k ds n e = let a = bound (number_at ds) _ n e in number_first k ds a.0 a.1 (none_left k a.0.1 (tested _ _ a.2))

pub two_plain : (k : ℕ) (ds : List Data) (p : ℕ × ℕ) → two_of ds ≡ Some p → are_plain (suc (suc k)) ds ≡ true
unfolding two_of
two_plain k ds p e =
    let a = bound (number_at ds) _ p e in
    let b = bound (one_of a.0.1) _ p a.2 in
    number_first (suc k) ds a.0 a.1 (one_plain k a.0.1 b.0 b.1)

pub end_plain : (k : ℕ) (ds : List Data) (x : ⊤) → ends_here ds ≡ Some x → are_plain k ds ≡ true
unfolding ends_here
end_plain k ds x e = none_left k ds (tested _ _ e)

pub optional_first : (k : ℕ) (ds : List Data) (p : Option ℕ × List Data) → optional_at ds ≡ Some p → are_plain k p.1 ≡ true → are_plain (suc k) ds ≡ true
unfolding optional_at are_plain
optional_first k [] p e h = never e
optional_first k (d ∷ ds) p e h = let parts = paired (optional d) ds p e in rw (optional_plain d p.0 parts.0, parts.1) h

pub optional_all_plain : (k : ℕ) (ds : List Data) (r : Option ℕ) → optional_of ds ≡ Some r → are_plain (suc k) ds ≡ true
unfolding optional_of
optional_all_plain k ds r e = let a = bound (optional_at ds) _ r e in optional_first k ds a.0 a.1 (none_left k a.0.1 (tested _ _ a.2))

-- ---- a list with too many elements, or with one that is not plain, is no piece

pub unless : {P : Type 0} (o : Option P) (b : Bool) → ((p : P) → o ≡ Some p → b ≡ true) → b ≡ false → o ≡ None
unless None b f e = refl
unless (Some p) true f e = absurd (grind (arith, e))
unless (Some p) false f e = absurd (grind (arith, f p refl))

pub no_two : (ds : List Data) → are_plain 7 ds ≡ false → two_of ds ≡ None
no_two ds e = unless (two_of ds) (are_plain 7 ds) (two_plain 5 ds) e
