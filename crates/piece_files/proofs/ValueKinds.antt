-- Shows which kinds of values cannot begin with a given token, because the first token decides
-- whether a value is plain, an array or an object.
use Rattle.std.proofs.Common.{◌≡◌, ℕ, zero, suc, ◌-◌, List, ◌∷◌, Bool, true, false, Option, Some, None, option_map, refl, sym, ap, ◌∙◌, arith}
use Rattle.json.specs.Token.{Token}
use Rattle.json.specs.Json.{parse_map}
use Rattle.json.proofs.Grammar.{value_is}
use Rattle.serde_json.specs.Data.{Num, unsigned, negative, float, Data, null, boolean, number, string, array, object, Items, Members, no_members}
use Rattle.serde_json.specs.Find.{as_u64}
use Rattle.serde_json.specs.Read.{of_json, converted, number_of}
use Rattle.piece_files.specs.Elements.{elements_of}
use Rattle.piece_files.specs.Members.{members_within}
use Rattle.piece_files.specs.Tokens.{value_at, items_at, members_at, is_whole, is_plain}
use Rattle.piece_files.proofs.Values.{value_at-null, value_at-boolean, value_at-string, value_at-array, value_at-object, value_at-end_object, value_at-end_array, value_at-key, value_at-bad, too_deep_array, too_deep_object}

pub never : {A Q : Type 0} {a : A} → None ≡ Some a → Q
never e = absurd (grind (arith, e))

abbrev data_or : Data → Option (Data × List Token) → Data
data_or d None = d
data_or d (Some p) = p.0

same : (d e : Data) (ts r : List Token) → ◌≡◌ {A = Option (Data × List Token)} (Some (d, ts)) (Some (e, r)) → e ≡ d
same d e ts r is = sym (ap (data_or d) is)

mapped : {A : Type 0} (f : A → Data) (o : Option (A × List Token)) (d : Data) (r : List Token) → parse_map f o ≡ Some (d, r) → (a : A) × (d ≡ f a)
mapped f None d r e = never e
mapped f (Some p) d r e = (p.0, same (f p.0) d p.1 r e)

-- The value `d` can begin with this token.
abbrev pub Begins : Token → Data → Type 0
Begins Token.begin_object d = (ms : Members) × (d ≡ object ms)
Begins Token.end_object d = ⊥
Begins Token.begin_array d = (ds : Items) × (d ≡ array ds)
Begins Token.end_array d = ⊥
Begins (Token.key s) d = ⊥
Begins (Token.string s) d = d ≡ string s
Begins (Token.number s) d = (x : Num) × (d ≡ number x)
Begins (Token.boolean b) d = d ≡ boolean b
Begins Token.null d = d ≡ null
Begins Token.bad d = ⊥

number_begins : (o : Option Num) (ts : List Token) (d : Data) (r : List Token) → option_map {U = Data × List Token} (λ d. (d, ts)) (option_map number o) ≡ Some (d, r) → (x : Num) × (d ≡ number x)
number_begins None ts d r e = never e
number_begins (Some x) ts d r e = (x, same (number x) d ts r e)

begins : (n : ℕ) (t : Token) (ts r : List Token) (d : Data) → value_at n (t ∷ ts) ≡ Some (d, r) → Begins t d
begins zero Token.begin_object ts r d e = never (sym (too_deep_object 0 ts refl) ∙ e)
begins (suc n) Token.begin_object ts r d e = mapped object (members_at (suc n - 1) ts) d r (sym (value_at-object (suc n) ts (omega arith)) ∙ e)
begins n Token.end_object ts r d e = never (sym (value_at-end_object n ts) ∙ e)
begins zero Token.begin_array ts r d e = never (sym (too_deep_array 0 ts refl) ∙ e)
begins (suc n) Token.begin_array ts r d e = mapped array (items_at (suc n - 1) ts) d r (sym (value_at-array (suc n) ts (omega arith)) ∙ e)
begins n Token.end_array ts r d e = never (sym (value_at-end_array n ts) ∙ e)
begins n (Token.key s) ts r d e = never (sym (value_at-key n s ts) ∙ e)
begins n (Token.string s) ts r d e = same (string s) d ts r (sym (value_at-string n s ts) ∙ e)
begins n (Token.number s) ts r d e = number_begins (number_of s) ts d r (sym (ap (converted of_json) (value_is n (Token.number s ∷ ts))) ∙ e)
begins n (Token.boolean b) ts r d e = same (boolean b) d ts r (sym (value_at-boolean n b ts) ∙ e)
begins n Token.null ts r d e = same null d ts r (sym (value_at-null n ts) ∙ e)
begins n Token.bad ts r d e = never (sym (value_at-bad n ts) ∙ e)

-- ---- the tokens that begin a plain value, an array or an object

abbrev pub can_be_plain : Token → Bool
can_be_plain Token.begin_object = false
can_be_plain Token.end_object = false
can_be_plain Token.begin_array = false
can_be_plain Token.end_array = false
can_be_plain (Token.key s) = false
can_be_plain (Token.string s) = true
can_be_plain (Token.number s) = true
can_be_plain (Token.boolean b) = false
can_be_plain Token.null = true
can_be_plain Token.bad = false

abbrev pub opens_array : Token → Bool
opens_array Token.begin_object = false
opens_array Token.end_object = false
opens_array Token.begin_array = true
opens_array Token.end_array = false
opens_array (Token.key s) = false
opens_array (Token.string s) = false
opens_array (Token.number s) = false
opens_array (Token.boolean b) = false
opens_array Token.null = false
opens_array Token.bad = false

abbrev pub opens_object : Token → Bool
opens_object Token.begin_object = true
opens_object Token.end_object = false
opens_object Token.begin_array = false
opens_object Token.end_array = false
opens_object (Token.key s) = false
opens_object (Token.string s) = false
opens_object (Token.number s) = false
opens_object (Token.boolean b) = false
opens_object Token.null = false
opens_object Token.bad = false

true_is_false : {Q : Type 0} → true ≡ false → Q
true_is_false e = absurd (grind (arith, e))

no_plain : (t : Token) (d : Data) → Begins t d → can_be_plain t ≡ false → is_plain d ≡ false
no_plain Token.begin_object d h other = ap is_plain h.1
no_plain Token.end_object d h other = absurd h
no_plain Token.begin_array d h other = ap is_plain h.1
no_plain Token.end_array d h other = absurd h
no_plain (Token.key s) d h other = absurd h
no_plain (Token.string s) d h other = true_is_false other
no_plain (Token.number s) d h other = true_is_false other
no_plain (Token.boolean b) d h other = ap is_plain h
no_plain Token.null d h other = true_is_false other
no_plain Token.bad d h other = absurd h

no_array : (t : Token) (d : Data) → Begins t d → opens_array t ≡ false → elements_of d ≡ None
no_array Token.begin_object d h other = ap elements_of h.1
no_array Token.end_object d h other = absurd h
no_array Token.begin_array d h other = true_is_false other
no_array Token.end_array d h other = absurd h
no_array (Token.key s) d h other = absurd h
no_array (Token.string s) d h other = ap elements_of h
no_array (Token.number s) d h other = ap elements_of h.1
no_array (Token.boolean b) d h other = ap elements_of h
no_array Token.null d h other = ap elements_of h
no_array Token.bad d h other = absurd h

no_object : (t : Token) (d : Data) → Begins t d → opens_object t ≡ false → members_within d ≡ no_members
no_object Token.begin_object d h other = true_is_false other
no_object Token.end_object d h other = absurd h
no_object Token.begin_array d h other = ap members_within h.1
no_object Token.end_array d h other = absurd h
no_object (Token.key s) d h other = absurd h
no_object (Token.string s) d h other = ap members_within h
no_object (Token.number s) d h other = ap members_within h.1
no_object (Token.boolean b) d h other = ap members_within h
no_object Token.null d h other = ap members_within h
no_object Token.bad d h other = absurd h

pub is_not_plain : (n : ℕ) (t : Token) (ts r : List Token) (d : Data) → value_at n (t ∷ ts) ≡ Some (d, r) → can_be_plain t ≡ false → is_plain d ≡ false
is_not_plain n t ts r d e other = no_plain t d (begins n t ts r d e) other

pub is_not_array : (n : ℕ) (t : Token) (ts r : List Token) (d : Data) → value_at n (t ∷ ts) ≡ Some (d, r) → opens_array t ≡ false → elements_of d ≡ None
is_not_array n t ts r d e other = no_array t d (begins n t ts r d e) other

pub is_not_object : (n : ℕ) (t : Token) (ts r : List Token) (d : Data) → value_at n (t ∷ ts) ≡ Some (d, r) → opens_object t ≡ false → members_within d ≡ no_members
is_not_object n t ts r d e other = no_object t d (begins n t ts r d e) other

pub is_unsigned : (x : Num) (n : ℕ) → as_u64 x ≡ Some n → x ≡ unsigned n
is_unsigned (unsigned m) n e = grind (arith, e)
is_unsigned (negative z) n e = never e
is_unsigned (float y) n e = never e

pub is_not_whole : (x : Num) → as_u64 x ≡ None → is_whole x ≡ false
is_not_whole (unsigned m) e = never (sym e)
is_not_whole (negative z) e = refl
is_not_whole (float y) e = refl
