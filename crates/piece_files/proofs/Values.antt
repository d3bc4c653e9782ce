-- The value that tokens begin with, for each kind of first token.
use Rattle.std.proofs.Common.{◌≡◌, ℕ, ◌-◌, ◌<◌, List, [], ◌∷◌, length, Bool, Option, Some, None, option_map, Result, Ok, Err, OnErr, refl, ap, ◌∙◌, arith}
use Rattle.json.specs.Token.{Token}
use Rattle.json.specs.Json.{items, members, value, parse_map}
use Rattle.json.proofs.Grammar.{value_is, value-begin_array, value-begin_object}
use Rattle.serde_json.specs.Data.{Num, null, boolean, number, string, array, object, Items}
use Rattle.serde_json.specs.Find.{as_u64}
use Rattle.serde_json.specs.Read.{of_json, converted, number_of}
use Rattle.piece_files.specs.Tokens.{value_at, items_at, members_at}
use Rattle.piece_files.proofs.Turns.{as_array_of, as_object_of}

pub in_any_error : {A E P : Type 0} (r : Result A E) → P → OnErr r P
in_any_error (Ok a) p = tt
in_any_error (Err e) p = p

pub error_leads : {A E P Q : Type 0} (r : Result A E) → (P → Q) → OnErr r P → OnErr r Q
error_leads (Ok a) f p = tt
error_leads (Err e) f p = f p

pub value_at-none : (n : ℕ) → value_at n [] ≡ None
value_at-none n = ap (converted of_json) (value_is n [])

pub value_at-null : (n : ℕ) (ts : List Token) → value_at n (Token.null ∷ ts) ≡ Some (null, ts)
value_at-null n ts = ap (converted of_json) (value_is n (Token.null ∷ ts))

pub value_at-boolean : (n : ℕ) (b : Bool) (ts : List Token) → value_at n (Token.boolean b ∷ ts) ≡ Some (boolean b, ts)
value_at-boolean n b ts = ap (converted of_json) (value_is n (Token.boolean b ∷ ts))

pub value_at-string : (n : ℕ) (s : List ℕ) (ts : List Token) → value_at n (Token.string s ∷ ts) ≡ Some (string s, ts)
value_at-string n s ts = ap (converted of_json) (value_is n (Token.string s ∷ ts))

found_number : (x : Option Num) (o : Option ℕ) → option_map as_u64 x ≡ Some o → (y : Num) × (x ≡ Some y) × (as_u64 y ≡ o)
found_number None o e = absurd (grind (arith, e))
found_number (Some y) o e = (y, refl, grind (arith, e))

no_number : (x : Option Num) → option_map as_u64 x ≡ None → x ≡ None
no_number None e = refl
no_number (Some y) e = absurd (grind (arith, e))

pub value_at-number : (n : ℕ) (s : List ℕ) (ts : List Token) (o : Option ℕ) → option_map as_u64 (number_of s) ≡ Some o → (x : Num) × (value_at n (Token.number s ∷ ts) ≡ Some (number x, ts)) × (as_u64 x ≡ o)
value_at-number n s ts o e =
    let x = found_number (number_of s) o e in
    (x.0, ap (converted of_json) (value_is n (Token.number s ∷ ts)) ∙ ap (λ y. option_map (λ d. (d, ts)) (option_map number y)) x.1, x.2)

pub value_at-no_number : (n : ℕ) (s : List ℕ) (ts : List Token) → option_map as_u64 (number_of s) ≡ None → value_at n (Token.number s ∷ ts) ≡ None
value_at-no_number n s ts e = ap (converted of_json) (value_is n (Token.number s ∷ ts)) ∙ ap (λ y. option_map (λ d. (d, ts)) (option_map number y)) (no_number (number_of s) e)

pub value_at-end_object : (n : ℕ) (ts : List Token) → value_at n (Token.end_object ∷ ts) ≡ None
value_at-end_object n ts = ap (converted of_json) (value_is n (Token.end_object ∷ ts))

pub value_at-end_array : (n : ℕ) (ts : List Token) → value_at n (Token.end_array ∷ ts) ≡ None
value_at-end_array n ts = ap (converted of_json) (value_is n (Token.end_array ∷ ts))

pub value_at-key : (n : ℕ) (s : List ℕ) (ts : List Token) → value_at n (Token.key s ∷ ts) ≡ None
value_at-key n s ts = ap (converted of_json) (value_is n (Token.key s ∷ ts))

pub value_at-bad : (n : ℕ) (ts : List Token) → value_at n (Token.bad ∷ ts) ≡ None
value_at-bad n ts = ap (converted of_json) (value_is n (Token.bad ∷ ts))

pub value_at-array : (n : ℕ) (ts : List Token) → 0 < n → value_at n (Token.begin_array ∷ ts) ≡ parse_map array (items_at (n - 1) ts)
value_at-array n ts some = ap (converted of_json) (value-begin_array n ts some) ∙ as_array_of (items (value (n - 1)) (length ts) ts)

pub value_at-object : (n : ℕ) (ts : List Token) → 0 < n → value_at n (Token.begin_object ∷ ts) ≡ parse_map object (members_at (n - 1) ts)
value_at-object n ts some = ap (converted of_json) (value-begin_object n ts some) ∙ as_object_of (members (value (n - 1)) (length ts) ts)

pub too_deep_array : (n : ℕ) (ts : List Token) → n ≡ 0 → value_at n (Token.begin_array ∷ ts) ≡ None
unfolding value
too_deep_array n ts none = rw none refl

pub too_deep_object : (n : ℕ) (ts : List Token) → n ≡ 0 → value_at n (Token.begin_object ∷ ts) ≡ None
unfolding value
too_deep_object n ts none = rw none refl

-- ---- functions that put the elements read so far in front of the next ones

pub none_before : (r : Option (Items × List Token)) → r ≡ parse_map (λ ds. ds) r
none_before None = refl
none_before (Some p) = refl

pub one_before : (front next : Items → Items) (r : Option (Items × List Token)) → parse_map front (parse_map next r) ≡ parse_map (λ ds. front (next ds)) r
one_before front next None = refl
one_before front next (Some p) = refl
