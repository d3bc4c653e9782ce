-- Lemmas about elements that are read one after the other, and kept if they are plain.
use Rattle.std.proofs.Common.{◌≡◌, ℕ, zero, suc, ◌≤◌, List, [], ◌∷◌, ◌++◌, length, Bool, true, false, ◌&&◌, Option, Some, None, refl, ap, arith}
use Rattle.std.proofs.lemmas.List.{map-append, length-map}
use Rattle.json.specs.Token.{Token}
use Rattle.json.specs.Json.{parse_map}
use Rattle.serde_json.specs.Data.{Data, Items, no_items, item}
use Rattle.piece_files.specs.declared.plain.Plain.{Plain}
use Rattle.piece_files.specs.Tokens.{is_plain, are_plain, items_from, IsPlain, AreElements}

-- Items, with the elements of a list put in front of them.
abbrev pub before : List Data → Items → Items
before [] rest = rest
before (d ∷ ds) rest = item d (before ds rest)

pub before-none : (ds : List Data) → before ds no_items ≡ items_from ds
before-none [] = refl
before-none (d ∷ ds) = ap (item d) (before-none ds)

before-last : (ds : List Data) (d : Data) (rest : Items) → before ds (item d rest) ≡ before (ds ++ d ∷ []) rest
before-last [] d rest = refl
before-last (e ∷ ds) d rest = ap (item e) (before-last ds d rest)

pub one_more : (ds : List Data) (d : Data) (r : Option (Items × List Token)) → parse_map (before ds) (parse_map (item d) r) ≡ parse_map (before (ds ++ d ∷ [])) r
one_more ds d None = refl
one_more ds d (Some p) = ap (λ rest. Some (rest, p.1)) (before-last ds d p.0)

pub nothing_before : (r : Option (Items × List Token)) → r ≡ parse_map (before []) r
nothing_before None = refl
nothing_before (Some p) = refl

-- ---- lists with an element that is not plain, or with too many elements

and_false : (b : Bool) {x : Bool} → x ≡ false → b && x ≡ false
and_false true e = e
and_false false e = refl

or_later : (b x y : Bool) → (x ≡ false → y ≡ false) → b && x ≡ false → b && y ≡ false
or_later true x y f e = f e
or_later false x y f e = refl

pub stays_wrong : (n : ℕ) (ds : List Data) (d : Data) → are_plain n ds ≡ false → are_plain n (ds ++ d ∷ []) ≡ false
unfolding are_plain
stays_wrong n [] d e = absurd (grind (arith, e))
stays_wrong zero (x ∷ ds) d e = refl
stays_wrong (suc n) (x ∷ ds) d e = or_later (is_plain x) (are_plain n ds) (are_plain n (ds ++ d ∷ [])) (stays_wrong n ds d) e

pub wrong_last : (n : ℕ) (ds : List Data) (d : Data) → is_plain d ≡ false → are_plain n (ds ++ d ∷ []) ≡ false
unfolding are_plain
wrong_last zero [] d e = refl
wrong_last (suc n) [] d e = rw e refl
wrong_last zero (x ∷ ds) d e = refl
wrong_last (suc n) (x ∷ ds) d e = and_false (is_plain x) (wrong_last n ds d e)

pub one_too_many : (n : ℕ) (ds : List Data) (d : Data) → n ≤ length ds → are_plain n (ds ++ d ∷ []) ≡ false
unfolding are_plain
one_too_many zero [] d le = refl
one_too_many (suc n) [] d le = absurd (omega (arith, le))
one_too_many zero (x ∷ ds) d le = refl
one_too_many (suc n) (x ∷ ds) d le = and_false (is_plain x) (one_too_many n ds d (omega (arith, le)))

later : (b : Bool) {x y : Bool} → b && x ≡ true → (x ≡ true → y ≡ true) → b && y ≡ true
later true e f = f e
later false e f = e

plain_last : (n : ℕ) (ds : List Data) (d : Data) → suc (length ds) ≤ n → is_plain d ≡ true → are_plain n ds ≡ true → are_plain n (ds ++ d ∷ []) ≡ true
unfolding are_plain
plain_last zero ds d lt e h = absurd (omega (arith, lt))
plain_last (suc n) [] d lt e h = rw e refl
plain_last (suc n) (x ∷ ds) d lt e h = later (is_plain x) h (λ rest. plain_last n ds d (omega (arith, lt)) e rest)

pub nothing_kept : (most : ℕ) → AreElements most true [] []
unfolding are_plain
nothing_kept zero = (refl, refl)
nothing_kept (suc n) = (refl, refl)

pub keep_one : (most : ℕ) (b : Bool) (vs : List Plain) (ds : List Data) (v : Plain) (d : Data) → IsPlain (Some v) d → suc (length vs) ≤ most → AreElements most b vs ds → AreElements most b (vs ++ v ∷ []) (ds ++ d ∷ [])
keep_one most true vs ds v d e lt h = let few : suc (length ds) ≤ most = rw (← h.0, length-map) lt in (rw (map-append, e.0, h.0) refl, plain_last most ds d few e.1 h.1)
keep_one most false vs ds v d e lt h = stays_wrong most ds d h

pub keep_no_more : (most : ℕ) (b : Bool) (vs : List Plain) (ds : List Data) (d : Data) → most ≤ length vs → AreElements most b vs ds → AreElements most false vs (ds ++ d ∷ [])
keep_no_more most true vs ds d le h = one_too_many most ds d (rw (← h.0, length-map) le)
keep_no_more most false vs ds d le h = stays_wrong most ds d h

pub keep_none : (most : ℕ) (vs : List Plain) (ds : List Data) (d : Data) → is_plain d ≡ false → AreElements most false vs (ds ++ d ∷ [])
keep_none most vs ds d e = wrong_last most ds d e
