-- Shows what the reader of JSON makes of bytes in plain form, because each number, null, text,
-- comma and bracket of this form is one token, and white space is none.
use Rattle.std.proofs.Common.{◌≡◌, ℕ, suc, ◌+◌, ◌-◌, ◌^◌, ◌<◌, ◌≤◌, Bool, true, false, cond, List, [], ◌∷◌, ◌++◌, length, take, drop, get_or, map, Some, None, option_map, inl, inr, refl, sym, ap, ap₂, subst, ◌∙◌, add-one, append_assoc, append-nil, arith, drop-cons, take-append-drop}
use Rattle.std.specs.Prelude.{Option, IfSome, option_and_then, ◌==◌, ◌||◌}
use Rattle.std.specs.Char.{is_ascii_digit}
use Rattle.std.specs.List.{All, prefix_len}
use Rattle.std.specs.Str.Parse.{AllDigits, IsNumeral, digits_value}
use Rattle.std.proofs.Math.Seq.{drop-length}
use Rattle.std.proofs.lemmas.Bool.{eqb-true, eqb-false, ne_eqb, ltb-false, le-leb, or_cases, or_parts, not-true}
use Rattle.std.proofs.lemmas.List.{drop-drop, drop_all, map-append}
use Rattle.std.proofs.lemmas.List.Elements.{All-head, All-tail}
use Rattle.std.proofs.lemmas.Str.Parse.{digit_from_value}
use Rattle.json.specs.Token as spec
use Rattle.json.specs.Token.{Token}
use Rattle.json.specs.Text.{content, plain}
use Rattle.json.specs.Word.{after_digits, after_exponent, after_fraction, after_number, after_whole, ends_word, is_space, word}
use Rattle.json.specs.Lex.{Lexeme, token, comma, colon, Place, fresh, after_value, after_comma, after_key, begins_colon, between, in_string, lex, may_begin, punctuate, string_token, tokens}
use Rattle.json.specs.Json.{after_end_array, if_last, parse_map, read_key, value}
use Rattle.json.specs.Print.{IsNumber, escape, escape_byte}
use Rattle.json.specs.Run.{is_plain}
use Rattle.json.proofs.Grammar.{left as tokens_left, skip_value-shorter}
use Rattle.json.proofs.Printed.Numbers.{in_word-ended, lex-number}
use Rattle.json.proofs.Printed.Strings.{content-escape, escape_byte_plain, lex-escape}
use Rattle.serde_json.specs.Data.{Data, Members, array, item, no_members, null, number, object, put, string, unsigned}
use Rattle.serde_json.specs.Find.{as_u64}
use Rattle.serde_json.specs.Read.{max_depth, number_of, of_json, read}
use Rattle.piece_files.specs.Plain.{data_of}
use Rattle.piece_files.specs.PlainBytes.{tokens_at, PassesSpace, EndsValue, Comma, Closes, Finishes, OpensArray, OpensObject, IsValue, IsKey, AreLeft, Begin, Follow, AreTaken, AreMembers, AreMembersTaken}
use Rattle.piece_files.specs.Tokens.{items_from, value_at}
use Rattle.piece_files.specs.declared.plain.Plain.{Plain}
use Rattle.piece_files.proofs.Numerals.{number_of-digits, number_of-unsigned}
use Rattle.piece_files.proofs.Turns.{item_turn, items_over, member_turn, members_over, read_before}
use Rattle.piece_files.proofs.ValueKinds.{is_unsigned}
use Rattle.piece_files.proofs.Values.{value_at-array, value_at-null, value_at-number, value_at-object, value_at-string}

no_place : {Q : Type 0} → false ≡ true → Q
no_place e = absurd (grind (arith, e))

pub its_some : {X : Type 0} (P : X → Type 0) (o : Option X) (x : X) → o ≡ Some x → IfSome o P → P x
its_some P o x e h = subst (λ p. IfSome p P) e h

-- ---- bytes at a place

pub one_off : (bytes : List ℕ) (i j x : ℕ) → j ≡ i + 1 → i < length bytes → get_or bytes i 0 ≡ x → drop i bytes ≡ x ∷ drop j bytes
one_off bytes i j x next within is = drop-cons bytes i 0 within ∙ ap₂ (λ y n. y ∷ drop n bytes) is (sym (next ∙ add-one i))

pub text_off : (bytes : List ℕ) (i j k n : ℕ) → j ≡ i + 1 → n ≡ k + 1 → j ≤ k → k < length bytes → get_or bytes i 0 ≡ 34 → get_or bytes k 0 ≡ 34 → drop i bytes ≡ 34 ∷ (take (k - j) (drop j bytes) ++ 34 ∷ drop n bytes)
text_off bytes i j k n first next far within opens closes =
    let end : j + (k - j) ≡ k = omega arith in
    one_off bytes i j 34 first (omega arith) opens
    ∙ ap (λ r. 34 ∷ r) (sym (take-append-drop (k - j) (drop j bytes))
    ∙ ap (λ r. take (k - j) (drop j bytes) ++ r) (drop-drop (k - j) j bytes ∙ ap (λ m. drop m bytes) end ∙ one_off bytes k n 34 next within closes))

-- ---- white space

blank_as : (x y : ℕ) (bytes : List ℕ) → x ≡ y → (lex between (y ∷ bytes) ≡ lex between bytes) × (ends_word (y ∷ bytes) ≡ true) → (lex between (x ∷ bytes) ≡ lex between bytes) × (ends_word (x ∷ bytes) ≡ true)
blank_as x y bytes e h = subst (λ z. (lex between (z ∷ bytes) ≡ lex between bytes) × (ends_word (z ∷ bytes) ≡ true)) (sym e) h

blank : (x : ℕ) (bytes : List ℕ) → is_space x ≡ true → (lex between (x ∷ bytes) ≡ lex between bytes) × (ends_word (x ∷ bytes) ≡ true)
unfolding lex
blank x bytes e = elim (or_cases _ (x == 13) e) [
  | inr last ↦ blank_as x 13 bytes (eqb-true x 13 last) (refl, refl)
  | inl before ↦ elim (or_cases _ (x == 10) before) [
    | inr last ↦ blank_as x 10 bytes (eqb-true x 10 last) (refl, refl)
    | inl first ↦ elim (or_cases (x == 32) (x == 9) first) [
      | inl is ↦ blank_as x 32 bytes (eqb-true x 32 is) (refl, refl)
      | inr is ↦ blank_as x 9 bytes (eqb-true x 9 is) (refl, refl)
    ]
  ]
]

pub nothing_passed : (bytes : List ℕ) → PassesSpace bytes bytes
nothing_passed bytes = record { same = refl; ended = λ e. e }

pub one_passed : (bytes before rest : List ℕ) (x : ℕ) → before ≡ x ∷ rest → is_space x ≡ true → PassesSpace bytes before
    → PassesSpace bytes rest
one_passed bytes before rest x first space h =
    let b = blank x rest space in
    record { same = h.same ∙ ap (lex between) first ∙ b.0; ended = λ e. h.ended (ap ends_word first ∙ b.1) }

-- ---- the bytes after a value

-- If all bytes between `at` and `end` are white space, and `end` is the end of the bytes, only
-- white space follows after `at`.
pub all_passed : (bytes : List ℕ) (at end : ℕ) → PassesSpace (drop at bytes) (drop end bytes) → end ≡ length bytes
    → PassesSpace (drop at bytes) []
all_passed bytes at end h last = subst (PassesSpace (drop at bytes)) (drop_all end bytes (omega (arith, last))) h

pub comma_comes : (bytes found rest next : List ℕ) → PassesSpace bytes found → found ≡ 44 ∷ rest → PassesSpace rest next → Comma bytes next
unfolding lex punctuate
comma_comes bytes found rest next h first more =
    let is : lex between bytes ≡ comma ∷ lex between next = h.same ∙ ap (lex between) first ∙ ap (λ (ls : List Lexeme). comma ∷ ls) more.same in
    record {
      ends = record { ended = h.ended (ap ends_word first); no_colon = ap begins_colon is };
      left = ap (punctuate after_value) is;
    }

pub closing : (bytes found rest : List ℕ) → PassesSpace bytes found → found ≡ 93 ∷ rest → Closes bytes rest
unfolding lex punctuate
closing bytes found rest h first =
    let is : lex between bytes ≡ token spec.end_array ∷ lex between rest = h.same ∙ ap (lex between) first in
    record {
      ends = record { ended = h.ended (ap ends_word first); no_colon = ap begins_colon is };
      left = ap (punctuate after_value) is;
    }

pub finishing : (bytes found rest : List ℕ) → PassesSpace bytes found → found ≡ 125 ∷ rest → PassesSpace rest [] → Finishes bytes
unfolding lex punctuate
finishing bytes found rest h first more =
    let is : lex between bytes ≡ token spec.end_object ∷ [] = h.same ∙ ap (lex between) first ∙ ap (λ (ls : List Lexeme). token spec.end_object ∷ ls) more.same in
    record {
      ends = record { ended = h.ended (ap ends_word first); no_colon = ap begins_colon is };
      left = ap (punctuate after_value) is;
    }

pub opening : (bytes rest next : List ℕ) → bytes ≡ 91 ∷ rest → PassesSpace rest next → OpensArray bytes next
unfolding lex
opening bytes rest next first more = ap (lex between) first ∙ ap (λ (ls : List Lexeme). token spec.begin_array ∷ ls) more.same

pub opening_object : (bytes found rest next : List ℕ) → PassesSpace bytes found → found ≡ 123 ∷ rest → PassesSpace rest next
    → OpensObject bytes next
unfolding lex
opening_object bytes found rest next h first more = h.same ∙ ap (lex between) first ∙ ap (λ (ls : List Lexeme). token spec.begin_object ∷ ls) more.same

-- ---- single tokens where a value may begin

placed_number : (p : Place) (s : List ℕ) (ls : List Lexeme) → may_begin p ≡ true → punctuate p (token (spec.number s) ∷ ls) ≡ spec.number s ∷ punctuate after_value ls
unfolding punctuate
placed_number fresh s ls may = refl
placed_number after_value s ls may = no_place may
placed_number after_comma s ls may = refl
placed_number after_key s ls may = no_place may

placed_null : (p : Place) (ls : List Lexeme) → may_begin p ≡ true → punctuate p (token spec.null ∷ ls) ≡ spec.null ∷ punctuate after_value ls
unfolding punctuate
placed_null fresh ls may = refl
placed_null after_value ls may = no_place may
placed_null after_comma ls may = refl
placed_null after_key ls may = no_place may

placed_text : (p : Place) (s : List ℕ) (ls : List Lexeme) → may_begin p ≡ true → begins_colon ls ≡ false → punctuate p (token (spec.string s) ∷ ls) ≡ spec.string s ∷ punctuate after_value ls
unfolding punctuate
placed_text fresh s ls may other = rw other refl
placed_text after_value s ls may other = no_place may
placed_text after_comma s ls may other = rw other refl
placed_text after_key s ls may other = no_place may

placed_key : (p : Place) (s : List ℕ) (ls : List Lexeme) → may_begin p ≡ true → punctuate p (token (spec.string s) ∷ colon ∷ ls) ≡ spec.key s ∷ punctuate fresh ls
unfolding punctuate
placed_key fresh s ls may = refl
placed_key after_value s ls may = no_place may
placed_key after_comma s ls may = refl
placed_key after_key s ls may = no_place may

placed_array : (p : Place) (ls : List Lexeme) → may_begin p ≡ true → punctuate p (token spec.begin_array ∷ ls) ≡ spec.begin_array ∷ punctuate fresh ls
unfolding punctuate
placed_array fresh ls may = refl
placed_array after_value ls may = no_place may
placed_array after_comma ls may = refl
placed_array after_key ls may = no_place may

-- ---- a number

is_digit : (c : ℕ) → 48 ≤ c → c ≤ 57 → is_ascii_digit c ≡ true
is_digit c low high = rw (le-leb 48 c low, le-leb c 57 high) refl

all_digits : (s : List ℕ) → AllDigits 10 s → prefix_len is_ascii_digit s ≡ length s
all_digits [] h = refl
all_digits (c ∷ s) h = let r = digit_from_value c h.0 in rw (is_digit c r.0 r.1) (omega (arith, all_digits s h.1))

after_all : (c : ℕ) (s : List ℕ) → AllDigits 10 (c ∷ s) → (c ≡ 48 → s ≡ []) → (b : Bool) → (c == 48) ≡ b → after_whole (c ∷ s) ≡ Some []
after_all c s h zero true e = ap (λ b. cond b (Some s) (after_digits (c ∷ s))) e ∙ ap Some (zero (eqb-true c 48 e))
after_all c s h zero false e =
    ap (λ b. cond b (Some s) (after_digits (c ∷ s))) e ∙ ap (λ n. cond (n == 0) None (Some (drop n (c ∷ s)))) (all_digits (c ∷ s) h)
    ∙ ap (λ b. cond b None (Some (drop (length s) s))) (ne_eqb (length (c ∷ s)) 0 (λ none. omega (arith, none))) ∙ ap Some (drop-length s)

no_sign : (c : ℕ) (s : List ℕ) → AllDigits 10 (c ∷ s) → (c == 45) ≡ false
no_sign c s h = let r = digit_from_value c h.0 in ne_eqb c 45 (λ e. omega (arith, r.0, e))

is_number : (s : List ℕ) → IsNumeral 10 s → (get_or s 0 0 ≡ 48 → length s ≤ 1) → IsNumber s
unfolding after_number
is_number [] numeral zero = absurd (omega (arith, numeral.0))
is_number (c ∷ s) numeral zero =
    let alone : c ≡ 48 → s ≡ [] = λ e. no_more s (zero e) in
    ap (λ b. option_and_then after_exponent (option_and_then after_fraction (after_whole (cond b s (c ∷ s))))) (no_sign c s numeral.1)
    ∙ ap (λ o. option_and_then after_exponent (option_and_then after_fraction o)) (after_all c s numeral.1 alone (c == 48) refl)
  where
    no_more : (r : List ℕ) → suc (length r) ≤ 1 → r ≡ []
    no_more [] few = refl
    no_more (x ∷ r) few = absurd (omega (arith, few))

its_value : (s : List ℕ) (n : ℕ) → IsNumeral 10 s → n < 2 ^ 64 → n ≡ digits_value 10 s → option_map as_u64 (number_of s) ≡ Some (Some n)
its_value [] n numeral small is = absurd (omega (arith, numeral.0))
its_value (c ∷ s) n numeral small is = ap (option_map as_u64) (number_of-unsigned (c ∷ s) c s refl (no_sign c s numeral.1)) ∙ sym (number_of-digits (c ∷ s) n numeral small is)

pub number_is : (bytes s rest : List ℕ) (n : ℕ) → bytes ≡ s ++ rest → IsNumeral 10 s → (get_or s 0 0 ≡ 48 → length s ≤ 1) → n < 2 ^ 64 → n ≡ digits_value 10 s → (depth : ℕ) → IsValue depth bytes (number (unsigned n)) rest
number_is bytes s rest n whole numeral zero small is depth = λ e place may.
    let ls = lex between rest in
    let ts = punctuate after_value ls in
    let read : tokens_at place bytes ≡ spec.number s ∷ ts = ap (λ b. punctuate place (lex between b)) whole ∙ ap (punctuate place) (lex-number s rest (is_number s numeral zero) e.ended) ∙ placed_number place s ls may in
    let x = value_at-number depth s ts (Some n) (its_value s n numeral small is) in
    (ap (value_at depth) read ∙ x.1 ∙ ap (λ y. Some (number y, ts)) (is_unsigned x.0 n x.2), ap after_end_array read)

-- ---- null

lex-null : (rest : List ℕ) → ends_word rest ≡ true → lex between (110 ∷ 117 ∷ 108 ∷ 108 ∷ rest) ≡ token spec.null ∷ lex between rest
unfolding lex word
lex-null rest e = ap₂ (λ b l. token (cond b spec.null spec.bad) ∷ l) e (in_word-ended rest e)

pub null_is : (bytes rest : List ℕ) → bytes ≡ 110 ∷ 117 ∷ 108 ∷ 108 ∷ rest → (depth : ℕ) → IsValue depth bytes null rest
null_is bytes rest whole depth = λ e place may.
    let ls = lex between rest in
    let ts = punctuate after_value ls in
    let read : tokens_at place bytes ≡ spec.null ∷ ts = ap (λ b. punctuate place (lex between b)) whole ∙ ap (punctuate place) (lex-null rest e.ended) ∙ placed_null place ls may in
    (ap (value_at depth) read ∙ value_at-null depth ts, ap after_end_array read)

-- ---- a text, and a key

stands_alone : (x : ℕ) → is_plain x ≡ true → escape_byte x ≡ x ∷ []
stands_alone x e =
    let none = or_parts ((x == 34) || (x == 92)) _ (not-true _ e) in
    let tests = or_parts (x == 34) _ none.0 in
    escape_byte_plain x (eqb-false x 34 tests.0) (eqb-false x 92 tests.1) (ltb-false x 32 none.1)

escape_plain : (s : List ℕ) → All (λ byte. is_plain byte ≡ true) s → escape s ≡ s
escape_plain [] h = refl
escape_plain (x ∷ s) h = ap₂ (λ a b. a ++ b) (stands_alone x (All-head (λ byte. is_plain byte ≡ true) x s h)) (escape_plain s (All-tail (λ byte. is_plain byte ≡ true) x s h))

lex-text : (s rest : List ℕ) → All (λ byte. is_plain byte ≡ true) s → lex between (34 ∷ (s ++ 34 ∷ rest)) ≡ token (spec.string s) ∷ lex between rest
unfolding lex
lex-text s rest h =
    let same = sym (escape_plain s h) in
    ap₂ (λ o l. token (string_token o) ∷ l) (ap (λ t. content plain (t ++ 34 ∷ rest)) same ∙ content-escape s rest) (ap (λ t. lex in_string (t ++ 34 ∷ rest)) same ∙ lex-escape s rest)

-- If the bytes are a text without escapes, in quotes, the reader of JSON reads them as this text.
pub text_lexed : (bytes s rest : List ℕ) → bytes ≡ 34 ∷ (s ++ 34 ∷ rest) → All (λ byte. is_plain byte ≡ true) s → lex between bytes ≡ token (spec.string s) ∷ lex between rest
text_lexed bytes s rest whole h = ap (lex between) whole ∙ lex-text s rest h

pub text_is : (bytes s rest : List ℕ) → lex between bytes ≡ token (spec.string s) ∷ lex between rest → (depth : ℕ) → IsValue depth bytes (string s) rest
text_is bytes s rest is depth = λ e place may.
    let ls = lex between rest in
    let ts = punctuate after_value ls in
    let read : tokens_at place bytes ≡ spec.string s ∷ ts = ap (punctuate place) is ∙ placed_text place s ls may e.no_colon in
    (ap (value_at depth) read ∙ value_at-string depth s ts, ap after_end_array read)

pub key_is : (bytes s behind found rest next : List ℕ) → lex between bytes ≡ token (spec.string s) ∷ lex between behind → PassesSpace behind found → found ≡ 58 ∷ rest → PassesSpace rest next → IsKey bytes s next
unfolding lex
key_is bytes s behind found rest next is h first more = λ place may.
    let ended : lex between behind ≡ colon ∷ lex between next = h.same ∙ ap (lex between) first ∙ ap (λ (ls : List Lexeme). colon ∷ ls) more.same in
    ap (punctuate place) (is ∙ ap (λ (ls : List Lexeme). token (spec.string s) ∷ ls) ended) ∙ placed_key place s (lex between next) may

-- ---- the elements of an array

value_shorter : (depth : ℕ) (ts r : List Token) (d : Data) → value_at depth ts ≡ Some (d, r) → length r < length ts
value_shorter depth ts r d e = let b = read_before of_json (value depth ts) d r e in skip_value-shorter depth ts r (ap tokens_left b.1)

element_begins : (depth : ℕ) (bytes rest : List ℕ) (d : Data) (ds : List Data) (others : List Token) → IsValue depth bytes d rest → Follow depth rest ds others → Begin depth bytes (d ∷ ds) others
element_begins depth bytes rest d ds others is f = λ place may n enough.
    let ts = tokens_at place bytes in
    let r = tokens_at after_value rest in
    let v = is f.ends place may in
    let shorter = value_shorter depth ts r d v.0 in
    item_turn (value depth) n ts r d (omega (arith, enough, shorter)) v.1 v.0 ∙ ap (parse_map (item d)) (f.left (n - 1) (omega (arith, enough, shorter)))

pub comma_follows : (depth : ℕ) (bytes rest : List ℕ) (ds : List Data) (others : List Token) → Comma bytes rest → Begin depth rest ds others → Follow depth bytes ds others
comma_follows depth bytes rest ds others h b = record { ends = h.ends; left = subst (λ ts. AreLeft depth ts ds others) (sym h.left) (b after_comma refl) }

pub closed : (depth : ℕ) (bytes rest : List ℕ) → Closes bytes rest → Follow depth bytes [] (tokens_at after_value rest)
closed depth bytes rest h = record { ends = h.ends; left = λ n enough. items_over (value depth) n (tokens_at after_value bytes) (tokens_at after_value rest) enough (ap after_end_array h.left) }

pub nothing_taken : (depth : ℕ) (start : List ℕ) → AreTaken depth start [] start
nothing_taken depth start = λ es others b. b

one_taken : (depth : ℕ) (start bytes rest : List ℕ) (ds : List Data) (d : Data) (es : List Data) (others : List Token) → AreTaken depth start ds bytes → IsValue depth bytes d rest → Follow depth rest es others → Begin depth start ((ds ++ d ∷ []) ++ es) others
one_taken depth start bytes rest ds d es others taken is f =
    subst (λ fs. Begin depth start fs others) (sym (append_assoc ds (d ∷ []) es)) (taken (d ∷ es) others (element_begins depth bytes rest d es others is f))

pub taken_to_comma : (depth : ℕ) (start bytes rest next : List ℕ) (ds : List Data) (d : Data) → AreTaken depth start ds bytes → IsValue depth bytes d rest → Comma rest next → AreTaken depth start (ds ++ d ∷ []) next
taken_to_comma depth start bytes rest next ds d taken is h = λ es others b.
    one_taken depth start bytes rest ds d es others taken is (comma_follows depth rest next es others h b)

pub taken_to_bracket : (depth : ℕ) (start bytes rest behind : List ℕ) (ds : List Data) (d : Data) → AreTaken depth start ds bytes → IsValue depth bytes d rest → Closes rest behind → Begin depth start (ds ++ d ∷ []) (tokens_at after_value behind)
taken_to_bracket depth start bytes rest behind ds d taken is h =
    subst (λ fs. Begin depth start fs (tokens_at after_value behind)) (append-nil (ds ++ d ∷ [])) (one_taken depth start bytes rest ds d [] (tokens_at after_value behind) taken is (closed depth rest behind h))

its_data : (kept vs : List Plain) (v : Plain) → kept ≡ vs ++ v ∷ [] → map data_of vs ++ data_of v ∷ [] ≡ map data_of kept
its_data kept vs v is = sym (ap (map data_of) is ∙ map-append data_of vs (v ∷ []))

pub kept_to_comma : (depth : ℕ) (start bytes rest next : List ℕ) (kept vs : List Plain) (v : Plain) → kept ≡ vs ++ v ∷ [] → AreTaken depth start (map data_of vs) bytes → IsValue depth bytes (data_of v) rest → Comma rest next → AreTaken depth start (map data_of kept) next
kept_to_comma depth start bytes rest next kept vs v is taken value h =
    subst (λ ds. AreTaken depth start ds next) (its_data kept vs v is) (taken_to_comma depth start bytes rest next (map data_of vs) (data_of v) taken value h)

pub kept_to_bracket : (depth : ℕ) (start bytes rest behind : List ℕ) (kept vs : List Plain) (v : Plain) → kept ≡ vs ++ v ∷ [] → AreTaken depth start (map data_of vs) bytes → IsValue depth bytes (data_of v) rest → Closes rest behind → Begin depth start (map data_of kept) (tokens_at after_value behind)
kept_to_bracket depth start bytes rest behind kept vs v is taken value h =
    subst (λ ds. Begin depth start ds (tokens_at after_value behind)) (its_data kept vs v is) (taken_to_bracket depth start bytes rest behind (map data_of vs) (data_of v) taken value h)

-- ---- an array as a value, and as a whole text

pub array_is : (depth : ℕ) (bytes start rest : List ℕ) (ds : List Data) → 0 < depth → OpensArray bytes start → Begin (depth - 1) start ds (tokens_at after_value rest) → IsValue depth bytes (array (items_from ds)) rest
array_is depth bytes start rest ds some opens b = λ e place may.
    let ts = tokens_at fresh start in
    let read : tokens_at place bytes ≡ spec.begin_array ∷ ts = ap (punctuate place) opens ∙ placed_array place (lex between start) may in
    (ap (value_at depth) read ∙ value_at-array depth ts some ∙ ap (parse_map array) (b fresh refl (length ts) (omega arith)), ap after_end_array read)

read_from : (ts : List Token) (d : Data) → value_at max_depth ts ≡ Some (d, []) → option_and_then of_json (option_and_then (λ p. if_last p.0 p.1) (value max_depth ts)) ≡ Some d
read_from ts d e = let b = read_before of_json (value max_depth ts) d [] e in rw b.1 b.2

pub array_read : (text start behind : List ℕ) (ds : List Data) → OpensArray text start → Begin 126 start ds (tokens_at after_value behind) → PassesSpace behind [] → read text ≡ Some (array (items_from ds))
unfolding lex punctuate
array_read text start behind ds opens b more =
    let ts = tokens_at fresh start in
    let over : tokens_at after_value behind ≡ [] = ap (punctuate after_value) more.same in
    let all = b fresh refl (length ts) (omega arith) ∙ ap (λ r. Some (items_from ds, r)) over in
    let found : value_at max_depth (spec.begin_array ∷ ts) ≡ Some (array (items_from ds), []) = value_at-array max_depth ts (omega arith) ∙ ap (parse_map array) all in
    let read_tokens : tokens text ≡ spec.begin_array ∷ ts = ap (punctuate fresh) opens in
    ap (λ us. option_and_then of_json (option_and_then (λ p. if_last p.0 p.1) (value max_depth us))) read_tokens ∙ read_from (spec.begin_array ∷ ts) (array (items_from ds)) found

-- ---- the members of an object

member_begins : (bytes behind rest : List ℕ) (k : List ℕ) (d : Data) (old all : Members) → IsKey bytes k behind → IsValue 126 behind d rest → EndsValue rest → AreMembers (tokens_at after_value rest) (put k d old) all
    → (place : Place) → may_begin place ≡ true → AreMembers (tokens_at place bytes) old all
member_begins bytes behind rest k d old all key is ends h = λ place may n enough.
    let ts = tokens_at place bytes in
    let s = tokens_at fresh behind in
    let r = tokens_at after_value rest in
    let first : ts ≡ spec.key k ∷ s = key place may in
    let named : read_key ts ≡ Some (Some k, s) = ap read_key first in
    let v = (is ends fresh refl).0 in
    let shorter = value_shorter 126 s r d v in
    let fewer = ap length first in
    member_turn (value 126) old n k ts s r d (omega (arith, enough, fewer)) named v ∙ h (n - 1) (omega (arith, enough, fewer, shorter))

pub no_members_taken : (text start : List ℕ) → OpensObject text start → AreMembersTaken text no_members start
unfolding punctuate
no_members_taken text start opens = λ all h.
    let ts = tokens_at fresh start in
    let found : value_at max_depth (spec.begin_object ∷ ts) ≡ Some (object all, []) = value_at-object max_depth ts (omega arith) ∙ ap (parse_map object) (h fresh refl (length ts) (omega arith)) in
    let read_tokens : tokens text ≡ spec.begin_object ∷ ts = ap (punctuate fresh) opens in
    ap (λ us. option_and_then of_json (option_and_then (λ p. if_last p.0 p.1) (value max_depth us))) read_tokens ∙ read_from (spec.begin_object ∷ ts) (object all) found

module _ (text bytes behind rest : List ℕ) (k : List ℕ) (d : Data) (old : Members) (taken : AreMembersTaken text old bytes) (key : IsKey bytes k behind) (is : IsValue 126 behind d rest) where
  pub member_to_comma : (next : List ℕ) → Comma rest next → AreMembersTaken text (put k d old) next
  member_to_comma next h = λ all b.
      taken all (member_begins bytes behind rest k d old all key is h.ends (subst (λ ts. AreMembers ts (put k d old) all) (sym h.left) (b after_comma refl)))

  pub member_to_end : Finishes rest → read text ≡ Some (object (put k d old))
  member_to_end h =
      let all = put k d old in
      taken all (member_begins bytes behind rest k d old all key is h.ends (λ n enough. members_over (value 126) all n (tokens_at after_value rest) [] enough (ap read_key h.left)))

-- ---- lemmas for `read_plain` of each kind of piece

pub piece_found : {P : Type 0} (of : List Data → Option P) (B : List Data → Type 0) (r : Option P) (ds : List Data) → B ds → r ≡ of ds → IfSome r (λ piece. (es : List Data) × B es × (Some piece ≡ of es))
piece_found of B None ds b e = tt
piece_found of B (Some p) ds b e = (ds, b, e)

pub always : {P Q : Type 0} (r : Option P) → Q → IfSome r (λ piece. Q)
always None q = tt
always (Some p) q = q
