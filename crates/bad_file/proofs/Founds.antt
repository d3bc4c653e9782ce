-- Lemmas about the kind of a value, given how the value can be read.
use Rattle.std.proofs.Common.{◌≡◌, ℕ, List, length, true, false, Some, None, ap, refl}
use Rattle.std.specs.Prelude.{is_some, option_and_then}
use Rattle.serde_json.specs.Data.{Data, null, boolean, number, string, array, object, unsigned, negative, float}
use Rattle.serde_json.specs.Find.{as_bool, as_null, as_number, as_str, as_u64}
use Rattle.piece_files.specs.Elements.{elements_of}
use Rattle.bad_file.specs.Meets.{kind_of}
use Rattle.bad_file.specs.declared.found.Found.TheVariants as found

pub null_found : (d : Data) → is_some (as_null d) ≡ true → kind_of d ≡ found.Null
null_found null is = refl
null_found (boolean b) is = absurd (cc is)
null_found (number n) is = absurd (cc is)
null_found (string s) is = absurd (cc is)
null_found (array ds) is = absurd (cc is)
null_found (object ms) is = absurd (cc is)

pub bool_found : (d : Data) → is_some (as_bool d) ≡ true → kind_of d ≡ found.Bool
bool_found null is = absurd (cc is)
bool_found (boolean b) is = refl
bool_found (number n) is = absurd (cc is)
bool_found (string s) is = absurd (cc is)
bool_found (array ds) is = absurd (cc is)
bool_found (object ms) is = absurd (cc is)

pub number_found : (d : Data) (n : ℕ) → option_and_then as_u64 (as_number d) ≡ Some n → kind_of d ≡ found.Number n
number_found null n is = absurd (cc is)
number_found (boolean b) n is = absurd (cc is)
number_found (number (unsigned m)) n is = let same : m ≡ n = cc is in ap found.Number same
number_found (number (negative z)) n is = absurd (cc is)
number_found (number (float x)) n is = absurd (cc is)
number_found (string s) n is = absurd (cc is)
number_found (array ds) n is = absurd (cc is)
number_found (object ms) n is = absurd (cc is)

pub other_found : (d : Data) → option_and_then as_u64 (as_number d) ≡ None → is_some (as_number d) ≡ true → kind_of d ≡ found.OtherNumber
other_found null none is = absurd (cc is)
other_found (boolean b) none is = absurd (cc is)
other_found (number (unsigned m)) none is = absurd (cc none)
other_found (number (negative z)) none is = refl
other_found (number (float x)) none is = refl
other_found (string s) none is = absurd (cc is)
other_found (array ds) none is = absurd (cc is)
other_found (object ms) none is = absurd (cc is)

pub text_found : (d : Data) → is_some (as_str d) ≡ true → kind_of d ≡ found.Text
text_found null is = absurd (cc is)
text_found (boolean b) is = absurd (cc is)
text_found (number n) is = absurd (cc is)
text_found (string s) is = refl
text_found (array ds) is = absurd (cc is)
text_found (object ms) is = absurd (cc is)

length_of : {xs ys : List Data} → Some xs ≡ Some ys → length xs ≡ length ys
length_of {xs} {ys} is = let same : xs ≡ ys = cc is in ap length same

pub array_found : (d : Data) (ds : List Data) → elements_of d ≡ Some ds → kind_of d ≡ found.Array (length ds)
array_found null ds is = absurd (cc is)
array_found (boolean b) ds is = absurd (cc is)
array_found (number n) ds is = absurd (cc is)
array_found (string s) ds is = absurd (cc is)
array_found (array xs) ds is = ap (λ (n : ℕ). found.Array n) (length_of is)
array_found (object ms) ds is = absurd (cc is)

pub object_found : (d : Data) → is_some (as_null d) ≡ false → is_some (as_bool d) ≡ false → is_some (as_number d) ≡ false → is_some (as_str d) ≡ false → elements_of d ≡ None → kind_of d ≡ found.Object
object_found null a b c e f = absurd (cc a)
object_found (boolean x) a b c e f = absurd (cc b)
object_found (number n) a b c e f = absurd (cc c)
object_found (string s) a b c e f = absurd (cc e)
object_found (array ds) a b c e f = absurd (cc f)
object_found (object ms) a b c e f = refl
