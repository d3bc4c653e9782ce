-- Shows that elements are an entry exactly if each is as expected, because `entry_of` reads the
-- elements that `accepts` expects, one after the other.
use Rattle.std.proofs.Common.{◌≡◌, ℕ, suc, List, [], ◌∷◌, ◌++◌, length, Bool, true, false, not, ◌==◌, ◌&&◌, ◌||◌, Option, Some, None, option_map, if◌then◌else◌, refl, ap, sym, ◌∙◌, arith}
use Rattle.std.specs.Prelude.{option_and_then, is_some, nat_le, codes}
use Rattle.std.specs.Str.{bytes_eq}
use Rattle.std.proofs.lemmas.Bool.{le-leb, ne_eqb}
use Rattle.serde_json.specs.Data.{Data}
use Rattle.serde_json.specs.Find.{as_str}
use Rattle.txn_words.specs.declared.entry.Entry.{Entry}
use Rattle.txn_words.specs.declared.entry.Entry.TheVariants.{Began, Asked, Did, Saved, Leave, Undone, Returned, Committed, Busy, Aborted}
use Rattle.txn_words.specs.declared.op.Op.{Op}
use Rattle.txn_words.specs.declared.op.Op.TheVariants.{Put, Take, Get, PutIf}
use Rattle.piece_files.specs.Elements.{◌>>=◌, whole_number, number_at, optional, optional_at, leading_text, one_of, ends_here, optional_of}
use Rattle.txn_files.specs.Entries.{busy_of, entry_named, entry_of, is_old_entry, transaction_entry}
use Rattle.txn_files.specs.HistoryFile.{is_in_range, max_caller}
use Rattle.txn_files.specs.Operations.{is_old_op, op_at, op_of, put_if_at}
use Rattle.bad_file.specs.Flaws.{entry_in}
use Rattle.bad_file.specs.Following.{expected_after, after_entry_name, after_op_name, after_word, op_name}
use Rattle.bad_file.specs.Meets.{in_range, is_entry_name, is_named, is_as_expected, is_old_op_name, is_op_name}
use Rattle.bad_file.specs.declared.expected.Expected.{Expected}
use Rattle.bad_file.specs.declared.expected.Expected.TheVariants.{EntryName, Caller, Number, NumberOrNull}

-- True if the elements are exactly those that are expected. The flag `o` says that the version is
-- 1. The flag `r` says that ranges are tested.
abbrev pub accepts : Bool → Bool → List Data → List Expected → Bool
accepts o r [] [] = true
accepts o r [] (e ∷ es) = false
accepts o r (d ∷ ds) [] = false
accepts o r (d ∷ ds) (e ∷ es) = is_as_expected r e d && accepts o r ds (expected_after o e d ++ es)

-- Tests a value that was read, together with the elements after it. The result is false if no value
-- was read.
abbrev then_test : {A : Type 0} → Option (A × List Data) → (A → List Data → Bool) → Bool
then_test None f = false
then_test (Some p) f = f p.0 p.1

-- ---- tests of one value

both_true : (b : Bool) → (b && true) ≡ b
both_true true = refl
both_true false = refl

both_false : (b : Bool) → (b && false) ≡ false
both_false true = refl
both_false false = refl

over : {A : Type 0} (x : Option A) (ds : List Data) (f : List Data → Bool) → (is_some x && f ds) ≡ then_test (option_map (λ a. (a, ds)) x) (λ a rest. f rest)
over None ds f = refl
over (Some a) ds f = refl

-- True if a caller is in range, or if ranges are not tested.
abbrev ok : Bool → ℕ → Bool
ok r c = not r || nat_le c max_caller

least : (n : ℕ) → nat_le 0 n ≡ true
least n = le-leb 0 n (omega arith)

over_caller : (r : Bool) (x : Option ℕ) (ds : List Data) (f : List Data → Bool)
    → (in_range r 0 max_caller x && f ds) ≡ then_test (option_map (λ n. (n, ds)) x) (λ n rest. ok r n && f rest)
over_caller r None ds f = refl
over_caller r (Some n) ds f = ap (λ (b : Bool). (not r || (b && nat_le n max_caller)) && f ds) (least n)

number_first : (o r : Bool) (es : List Expected) (ds : List Data) → accepts o r ds (Number ∷ es) ≡ then_test (number_at ds) (λ n rest. accepts o r rest es)
unfolding number_at
number_first o r es [] = refl
number_first o r es (d ∷ ds) = over (whole_number d) ds (λ rest. accepts o r rest es)

caller_first : (o r : Bool) (es : List Expected) (ds : List Data) → accepts o r ds (Caller ∷ es) ≡ then_test (number_at ds) (λ c rest. ok r c && accepts o r rest es)
unfolding number_at
caller_first o r es [] = refl
caller_first o r es (d ∷ ds) = over_caller r (whole_number d) ds (λ rest. accepts o r rest es)

optional_first : (o r : Bool) (es : List Expected) (ds : List Data) → accepts o r ds (NumberOrNull ∷ es) ≡ then_test (optional_at ds) (λ n rest. accepts o r rest es)
unfolding optional_at
optional_first o r es [] = refl
optional_first o r es (d ∷ ds) = over (optional d) ds (λ rest. accepts o r rest es)

none_longer : (n : ℕ) → suc n ≡ 0 → ⊥
none_longer n is = omega (arith, is)

none_left : (o r : Bool) (ds : List Data) → accepts o r ds [] ≡ (length ds == 0)
none_left o r [] = refl
none_left o r (d ∷ ds) = sym (ne_eqb (length (d ∷ ds)) 0 (λ is. none_longer (length ds) is))

-- ---- an operation

bind : {A B : Type 0} (x : Option (A × List Data)) (f : A × List Data → Option (B × List Data)) (g : B → List Data → Bool)
    → then_test (x >>= f) g ≡ then_test x (λ a rest. then_test (f (a, rest)) g)
bind None f g = refl
bind (Some p) f g = refl

never : {A : Type 0} (x : Option (A × List Data)) → then_test x (λ a rest. false) ≡ false
never None = refl
never (Some p) = refl

-- True if the version has the operation, and the elements after the operation are as expected.
abbrev kept_op : Bool → Bool → List Expected → Op → List Data → Bool
kept_op o r es op rest = (not o || is_old_op op) && accepts o r rest es

-- `put_if_at` reads exactly the elements that are expected after the key of a "put_if"; version 1
-- has no "put_if".
put_if_next : (o r : Bool) (es : List Expected) (k : ℕ) (ds : List Data) → (not o && accepts o r ds (NumberOrNull ∷ Number ∷ es)) ≡ then_test (put_if_at k ds) (kept_op o r es)
unfolding put_if_at
put_if_next true r es k ds =
    sym (bind (optional_at ds) (λ e. number_at e.1 >>= λ v. Some (PutIf k e.0 v.0, v.1)) (kept_op true r es)
    ∙ (λ i. then_test (optional_at ds) (λ e rest. (bind (number_at rest) (λ v. Some (PutIf k e v.0, v.1)) (kept_op true r es) ∙ never (number_at rest)) i))
    ∙ never (optional_at ds))
put_if_next false r es k ds =
    optional_first false r (Number ∷ es) ds
    ∙ (λ i. then_test (optional_at ds) (λ e rest. number_first false r es rest i))
    ∙ sym (bind (optional_at ds) (λ e. number_at e.1 >>= λ v. Some (PutIf k e.0 v.0, v.1)) (kept_op false r es)
    ∙ (λ i. then_test (optional_at ds) (λ e rest. bind (number_at rest) (λ v. Some (PutIf k e v.0, v.1)) (kept_op false r es) i)))

-- `op_by` reads an operation on the key `k`. The result is this operation and the elements after
-- it. `after_op_by` has the elements that are expected after the operation's word. In both, the
-- first flag that is true names the word: "put", "take", "get" or "put_if".
abbrev op_by : Bool → Bool → Bool → Bool → ℕ → List Data → Option (Op × List Data)
op_by b1 b2 b3 b4 k ds =
    if b1 then (number_at ds >>= λ v. Some (Put k v.0, v.1))
    else if b2 then Some (Take k, ds)
    else if b3 then Some (Get k, ds)
    else if b4 then put_if_at k ds
    else None

abbrev after_op_by : Bool → Bool → Bool → Bool → List Expected
after_op_by b1 b2 b3 b4 =
    if b1 then Number ∷ Number ∷ []
    else if b2 then Number ∷ []
    else if b3 then Number ∷ []
    else if b4 then Number ∷ NumberOrNull ∷ Number ∷ []
    else []

-- The words "put", "take" and "get", which every version has.
module _ (o r : Bool) (es : List Expected) (ds : List Data) (same : (op : Op) → is_old_op op ≡ true → (not o || is_old_op op) ≡ true) where
  put_words : (b2 b3 b4 : Bool) → accepts o r ds (Number ∷ Number ∷ es) ≡ then_test (number_at ds >>= λ k. op_by true b2 b3 b4 k.0 k.1) (kept_op o r es)
  put_words b2 b3 b4 =
      number_first o r (Number ∷ es) ds
      ∙ (λ i. then_test (number_at ds) (λ k rest. number_first o r es rest i))
      ∙ (λ i. then_test (number_at ds) (λ k rest. then_test (number_at rest) (λ v left. sym (same (Put k v) refl) i && accepts o r left es)))
      ∙ sym (bind (number_at ds) (λ k. op_by true b2 b3 b4 k.0 k.1) (kept_op o r es)
      ∙ (λ i. then_test (number_at ds) (λ k rest. bind (number_at rest) (λ v. Some (Put k v.0, v.1)) (kept_op o r es) i)))

  take_words : (b3 b4 : Bool) → accepts o r ds (Number ∷ es) ≡ then_test (number_at ds >>= λ k. op_by false true b3 b4 k.0 k.1) (kept_op o r es)
  take_words b3 b4 =
      number_first o r es ds
      ∙ (λ i. then_test (number_at ds) (λ k rest. sym (same (Take k) refl) i && accepts o r rest es))
      ∙ sym (bind (number_at ds) (λ k. op_by false true b3 b4 k.0 k.1) (kept_op o r es))

  get_words : (b4 : Bool) → accepts o r ds (Number ∷ es) ≡ then_test (number_at ds >>= λ k. op_by false false true b4 k.0 k.1) (kept_op o r es)
  get_words b4 =
      number_first o r es ds
      ∙ (λ i. then_test (number_at ds) (λ k rest. sym (same (Get k) refl) i && accepts o r rest es))
      ∙ sym (bind (number_at ds) (λ k. op_by false false true b4 k.0 k.1) (kept_op o r es))

no_word : (o r : Bool) (es : List Expected) (ds : List Data) → false ≡ then_test (number_at ds >>= λ k. op_by false false false false k.0 k.1) (kept_op o r es)
no_word o r es ds = sym (bind (number_at ds) (λ k. None) (kept_op o r es) ∙ never (number_at ds))

new_words : (r : Bool) (es : List Expected) (ds : List Data) (b1 b2 b3 b4 : Bool)
    → ((b1 || (b2 || (b3 || (b4 || false)))) && accepts false r ds (after_op_by b1 b2 b3 b4 ++ es)) ≡ then_test (number_at ds >>= λ k. op_by b1 b2 b3 b4 k.0 k.1) (kept_op false r es)
new_words r es ds true b2 b3 b4 = put_words false r es ds (λ op old. refl) b2 b3 b4
new_words r es ds false true b3 b4 = take_words false r es ds (λ op old. refl) b3 b4
new_words r es ds false false true b4 = get_words false r es ds (λ op old. refl) b4
new_words r es ds false false false true =
    number_first false r (NumberOrNull ∷ Number ∷ es) ds
    ∙ (λ i. then_test (number_at ds) (λ k rest. put_if_next false r es k rest i))
    ∙ sym (bind (number_at ds) (λ k. put_if_at k.0 k.1) (kept_op false r es))
new_words r es ds false false false false = no_word false r es ds

old_words : (r : Bool) (es : List Expected) (ds : List Data) (b1 b2 b3 b4 : Bool)
    → ((b1 || (b2 || (b3 || false))) && accepts true r ds (after_op_by b1 b2 b3 b4 ++ es)) ≡ then_test (number_at ds >>= λ k. op_by b1 b2 b3 b4 k.0 k.1) (kept_op true r es)
old_words r es ds true b2 b3 b4 = put_words true r es ds (λ op old. old) b2 b3 b4
old_words r es ds false true b3 b4 = take_words true r es ds (λ op old. old) b3 b4
old_words r es ds false false true b4 = get_words true r es ds (λ op old. old) b4
old_words r es ds false false false true =
    sym (bind (number_at ds) (λ k. put_if_at k.0 k.1) (kept_op true r es)
    ∙ (λ i. then_test (number_at ds) (λ k rest. sym (put_if_next true r es k rest) i))
    ∙ never (number_at ds))
old_words r es ds false false false false = no_word true r es ds

-- The operation that is read from a word and the elements after it.
abbrev read_op : Option (List ℕ × List Data) → Option (Op × List Data)
read_op x = x >>= λ name. (number_at name.1 >>= λ k. op_by (bytes_eq name.0 (codes "put")) (bytes_eq name.0 (codes "take")) (bytes_eq name.0 (codes "get")) (bytes_eq name.0 (codes "put_if")) k.0 k.1)

new_op : (r : Bool) (es : List Expected) (ds : List Data) (x : Option (List ℕ))
    → (is_named is_op_name x && accepts false r ds (after_word after_op_name x ++ es))
    ≡ then_test (read_op (option_map (λ s. (s, ds)) x)) (kept_op false r es)
new_op r es ds None = refl
new_op r es ds (Some w) = new_words r es ds (bytes_eq w (codes "put")) (bytes_eq w (codes "take")) (bytes_eq w (codes "get")) (bytes_eq w (codes "put_if"))

old_op : (r : Bool) (es : List Expected) (ds : List Data) (x : Option (List ℕ))
    → (is_named is_old_op_name x && accepts true r ds (after_word after_op_name x ++ es))
    ≡ then_test (read_op (option_map (λ s. (s, ds)) x)) (kept_op true r es)
old_op r es ds None = refl
old_op r es ds (Some w) = old_words r es ds (bytes_eq w (codes "put")) (bytes_eq w (codes "take")) (bytes_eq w (codes "get")) (bytes_eq w (codes "put_if"))

op_first : (o r : Bool) (es : List Expected) (ds : List Data) → accepts o r ds (op_name o ∷ es) ≡ then_test (op_at ds) (kept_op o r es)
unfolding op_at leading_text
op_first true r es [] = refl
op_first true r es (d ∷ ds) = old_op r es ds (as_str d)
op_first false r es [] = refl
op_first false r es (d ∷ ds) = new_op r es ds (as_str d)

-- ---- an entry

-- True if there is an entry and the version has it. If ranges are tested, its callers must also be
-- in range.
abbrev pub kept : Bool → Bool → Option Entry → Bool
kept o r None = false
kept o r (Some e) = (not o || is_old_entry e) && (not r || is_in_range e)

keeps : (o b : Bool) → ((not o || true) && b) ≡ b
keeps true b = refl
keeps false b = refl

last : {A : Type 0} (o r : Bool) (c : ℕ) (a : A) (f : A → Entry) → kept o r (Some (f a)) ≡ ok r c → (b : Bool)
    → (ok r c && b) ≡ kept o r ((if b then Some a else None) >>= λ x. Some (f x))
last o r c a f is true = both_true (ok r c) ∙ sym is
last o r c a f is false = both_false (ok r c)

one_last : {A : Type 0} (o r : Bool) (c : ℕ) (f : A → Entry) → ((a : A) → kept o r (Some (f a)) ≡ ok r c) → (x : Option (A × List Data))
    → (ok r c && then_test x (λ a rest. accepts o r rest [])) ≡ kept o r ((x >>= λ p. if length p.1 == 0 then Some p.0 else None) >>= λ a. Some (f a))
one_last o r c f is None = both_false (ok r c)
one_last o r c f is (Some p) = ap (λ b. ok r c && b) (none_left o r p.1) ∙ last o r c p.0 f (is p.0) (length p.1 == 0)

number_last : (o r : Bool) (c : ℕ) (f : ℕ → Entry) → ((n : ℕ) → kept o r (Some (f n)) ≡ ok r c) → (ds : List Data)
    → (ok r c && accepts o r ds (Number ∷ [])) ≡ kept o r (one_of ds >>= λ n. Some (f n))
unfolding one_of
number_last o r c f is ds = ap (λ b. ok r c && b) (number_first o r [] ds) ∙ one_last o r c f is (number_at ds)

optional_last : (o r : Bool) (c : ℕ) (f : Option ℕ → Entry) → ((n : Option ℕ) → kept o r (Some (f n)) ≡ ok r c) → (ds : List Data)
    → (ok r c && accepts o r ds (NumberOrNull ∷ [])) ≡ kept o r (optional_of ds >>= λ n. Some (f n))
unfolding optional_of
optional_last o r c f is ds = ap (λ b. ok r c && b) (optional_first o r [] ds) ∙ one_last o r c f is (optional_at ds)

end_last : (o r : Bool) (c : ℕ) (e : Entry) → kept o r (Some e) ≡ ok r c → (ds : List Data) → (ok r c && accepts o r ds []) ≡ kept o r (ends_here ds >>= λ none. Some e)
unfolding ends_here
end_last o r c e is ds = ap (λ b. ok r c && b) (none_left o r ds) ∙ last o r c tt (λ none. e) is (length ds == 0)

swap : (a q : Bool) → (a && (q && true)) ≡ (q && a)
swap true true = refl
swap true false = refl
swap false true = refl
swap false false = refl

off : (a q : Bool) → (a && (q && false)) ≡ false
off true true = refl
off true false = refl
off false q = refl

asked_end : (o r : Bool) (c : ℕ) (op : Op) (b : Bool)
    → (ok r c && ((not o || is_old_op op) && b)) ≡ kept o r ((if b then Some op else None) >>= λ x. Some (Asked c x))
asked_end o r c op true = swap (ok r c) (not o || is_old_op op)
asked_end o r c op false = off (ok r c) (not o || is_old_op op)

asked_with : (o r : Bool) (c : ℕ) (x : Option (Op × List Data))
    → (ok r c && then_test x (kept_op o r [])) ≡ kept o r ((x >>= λ op. if length op.1 == 0 then Some op.0 else None) >>= λ op. Some (Asked c op))
asked_with o r c None = both_false (ok r c)
asked_with o r c (Some p) = ap (λ b. ok r c && ((not o || is_old_op p.0) && b)) (none_left o r p.1) ∙ asked_end o r c p.0 (length p.1 == 0)

asked_last : (o r : Bool) (c : ℕ) (ds : List Data) → (ok r c && accepts o r ds (op_name o ∷ [])) ≡ kept o r (op_of ds >>= λ op. Some (Asked c op))
unfolding op_of
asked_last o r c ds = ap (λ b. ok r c && b) (op_first o r [] ds) ∙ asked_with o r c (op_at ds)

three : (a q b : Bool) → (a && (q && (b && true))) ≡ (q && (a && b))
three true true b = both_true b
three true false b = refl
three false true b = refl
three false false b = refl

none_of_three : (a q b : Bool) → (a && (q && (b && false))) ≡ false
none_of_three a q true = off a q
none_of_three a q false = off a q

busy_end : (o r : Bool) (c : ℕ) (op : Op) (x : ℕ) (b : Bool)
    → (ok r c && ((not o || is_old_op op) && (ok r x && b))) ≡ kept o r ((if b then Some x else None) >>= λ y. Some (Busy c op y))
busy_end o true c op x true = three (nat_le c max_caller) (not o || is_old_op op) (nat_le x max_caller)
busy_end o false c op x true = refl
busy_end o r c op x false = none_of_three (ok r c) (not o || is_old_op op) (ok r x)

holder_with : (o r : Bool) (c : ℕ) (op : Op) (y : Option (ℕ × List Data))
    → (ok r c && ((not o || is_old_op op) && then_test y (λ x rest. ok r x && accepts o r rest []))) ≡ kept o r ((y >>= λ p. if length p.1 == 0 then Some p.0 else None) >>= λ x. Some (Busy c op x))
holder_with o r c op None = off (ok r c) (not o || is_old_op op)
holder_with o r c op (Some p) = ap (λ b. ok r c && ((not o || is_old_op op) && (ok r p.0 && b))) (none_left o r p.1) ∙ busy_end o r c op p.0 (length p.1 == 0)

busy_with : (o r : Bool) (c : ℕ) (x : Option (Op × List Data))
    → (ok r c && then_test x (kept_op o r (Caller ∷ []))) ≡ kept o r (x >>= λ op. (one_of op.1 >>= λ y. Some (Busy c op.0 y)))
unfolding one_of
busy_with o r c None = both_false (ok r c)
busy_with o r c (Some p) = ap (λ b. ok r c && ((not o || is_old_op p.0) && b)) (caller_first o r [] p.1) ∙ holder_with o r c p.0 (number_at p.1)

busy_last : (o r : Bool) (c : ℕ) (ds : List Data) → (ok r c && accepts o r ds (op_name o ∷ Caller ∷ [])) ≡ kept o r (busy_of c ds)
unfolding busy_of
busy_last o r c ds = ap (λ b. ok r c && b) (op_first o r (Caller ∷ []) ds) ∙ busy_with o r c (op_at ds)

through : (o r : Bool) (f : ℕ → List Data → Option Entry) (x : Option (ℕ × List Data)) → then_test x (λ c rest. kept o r (f c rest)) ≡ kept o r (x >>= λ c. f c.0 c.1)
through o r f None = refl
through o r f (Some p) = refl

caller_case : (o r : Bool) (es : List Expected) (f : ℕ → List Data → Option Entry)
    → ((c : ℕ) (rest : List Data) → (ok r c && accepts o r rest es) ≡ kept o r (f c rest)) → (ds : List Data)
    → accepts o r ds (Caller ∷ es) ≡ kept o r (number_at ds >>= λ c. f c.0 c.1)
caller_case o r es f each ds = caller_first o r es ds ∙ (λ i. then_test (number_at ds) (λ c rest. each c rest i)) ∙ through o r f (number_at ds)

-- `entry_by` reads an entry of the caller `c`. `after_by` has the elements that are expected after
-- the entry's word. In both, the first flag that is true names the word, in the order of
-- `entry_word`.
abbrev entry_by : (b1 b2 b3 b4 b5 b6 b7 b8 b9 b10 : Bool) → ℕ → List Data → Option Entry
entry_by b1 b2 b3 b4 b5 b6 b7 b8 b9 b10 c ds =
    if b1 then (op_of ds >>= λ op. Some (Asked c op))
    else if b2 then busy_of c ds
    else if b3 then (optional_of ds >>= λ n. Some (Did c n))
    else if b4 then (ends_here ds >>= λ none. Some (Undone c))
    else if b5 then (one_of ds >>= λ n. Some (Began c n))
    else if b6 then (ends_here ds >>= λ none. Some (Saved c))
    else if b7 then (optional_of ds >>= λ n. Some (Leave c n))
    else if b8 then (one_of ds >>= λ n. Some (Returned c n))
    else if b9 then (one_of ds >>= λ n. Some (Committed c n))
    else if b10 then (ends_here ds >>= λ none. Some (Aborted c))
    else None

abbrev after_by : Bool → (b1 b2 b3 b4 b5 b6 b7 b8 b9 b10 : Bool) → List Expected
after_by o b1 b2 b3 b4 b5 b6 b7 b8 b9 b10 =
    if b1 then Caller ∷ op_name o ∷ []
    else if b2 then Caller ∷ op_name o ∷ Caller ∷ []
    else if b3 then Caller ∷ NumberOrNull ∷ []
    else if b4 then Caller ∷ []
    else if b5 then Caller ∷ Number ∷ []
    else if b6 then Caller ∷ []
    else if b7 then Caller ∷ NumberOrNull ∷ []
    else if b8 then Caller ∷ Number ∷ []
    else if b9 then Caller ∷ Number ∷ []
    else if b10 then Caller ∷ []
    else []

no_entry_word : (o r : Bool) (x : Option (ℕ × List Data)) → false ≡ kept o r (x >>= λ c. None)
no_entry_word o r None = refl
no_entry_word o r (Some p) = refl

named : (o r : Bool) (ds : List Data) (b1 b2 b3 b4 b5 b6 b7 b8 b9 b10 : Bool)
    → ((b1 || (b2 || (b3 || (b4 || (b5 || (b6 || (b7 || (b8 || (b9 || (b10 || false)))))))))) && accepts o r ds (after_by o b1 b2 b3 b4 b5 b6 b7 b8 b9 b10 ++ []))
    ≡ kept o r (number_at ds >>= λ c. entry_by b1 b2 b3 b4 b5 b6 b7 b8 b9 b10 c.0 c.1)
named o r ds true b2 b3 b4 b5 b6 b7 b8 b9 b10 = caller_case o r (op_name o ∷ []) (λ c rest. op_of rest >>= λ op. Some (Asked c op)) (asked_last o r) ds
named o r ds false true b3 b4 b5 b6 b7 b8 b9 b10 = caller_case o r (op_name o ∷ Caller ∷ []) busy_of (busy_last o r) ds
named o r ds false false true b4 b5 b6 b7 b8 b9 b10 = caller_case o r (NumberOrNull ∷ []) (λ c rest. optional_of rest >>= λ n. Some (Did c n)) (λ c. optional_last o r c (Did c) (λ n. keeps o (ok r c))) ds
named o r ds false false false true b5 b6 b7 b8 b9 b10 = caller_case o r [] (λ c rest. ends_here rest >>= λ none. Some (Undone c)) (λ c. end_last o r c (Undone c) (keeps o (ok r c))) ds
named o r ds false false false false true b6 b7 b8 b9 b10 = caller_case o r (Number ∷ []) (λ c rest. one_of rest >>= λ n. Some (Began c n)) (λ c. number_last o r c (Began c) (λ n. keeps o (ok r c))) ds
named o r ds false false false false false true b7 b8 b9 b10 = caller_case o r [] (λ c rest. ends_here rest >>= λ none. Some (Saved c)) (λ c. end_last o r c (Saved c) (keeps o (ok r c))) ds
named o r ds false false false false false false true b8 b9 b10 = caller_case o r (NumberOrNull ∷ []) (λ c rest. optional_of rest >>= λ n. Some (Leave c n)) (λ c. optional_last o r c (Leave c) (λ n. keeps o (ok r c))) ds
named o r ds false false false false false false false true b9 b10 = caller_case o r (Number ∷ []) (λ c rest. one_of rest >>= λ n. Some (Returned c n)) (λ c. number_last o r c (Returned c) (λ n. keeps o (ok r c))) ds
named o r ds false false false false false false false false true b10 = caller_case o r (Number ∷ []) (λ c rest. one_of rest >>= λ n. Some (Committed c n)) (λ c. number_last o r c (Committed c) (λ n. keeps o (ok r c))) ds
named o r ds false false false false false false false false false true = caller_case o r [] (λ c rest. ends_here rest >>= λ none. Some (Aborted c)) (λ c. end_last o r c (Aborted c) (keeps o (ok r c))) ds
named o r ds false false false false false false false false false false = no_entry_word o r (number_at ds)

abbrev read_entry : Option (List ℕ × List Data) → Option Entry
read_entry x = x >>= λ name. (number_at name.1 >>= λ c. entry_named name.0 c.0 c.1)

entry_word : (o r : Bool) (ds : List Data) (x : Option (List ℕ))
    → (is_named is_entry_name x && accepts o r ds (after_word (after_entry_name o) x ++ [])) ≡ kept o r (read_entry (option_map (λ s. (s, ds)) x))
unfolding entry_named transaction_entry
entry_word o r ds None = refl
entry_word o r ds (Some w) =
    named o r ds (bytes_eq w (codes "asked")) (bytes_eq w (codes "busy")) (bytes_eq w (codes "did")) (bytes_eq w (codes "undone")) (bytes_eq w (codes "began"))
    (bytes_eq w (codes "saved")) (bytes_eq w (codes "leave")) (bytes_eq w (codes "returned")) (bytes_eq w (codes "committed")) (bytes_eq w (codes "aborted"))

-- If the word of an entry is expected first, `accepts` is true exactly if the elements are an entry
-- that satisfies `kept`.
pub entry_accepted : (o r : Bool) (ds : List Data) → accepts o r ds (EntryName ∷ []) ≡ kept o r (entry_of ds)
unfolding entry_of leading_text
entry_accepted o r [] = refl
entry_accepted o r (d ∷ ds) = entry_word o r ds (as_str d)

found : {A : Type 0} (b : Bool) (a : A) → is_some (if b then Some a else None) ≡ b
found true a = refl
found false a = refl

entry_kept : (o r : Bool) (x : Option Entry) → is_some (option_and_then (λ e. if (not o || is_old_entry e) && (not r || is_in_range e) then Some e else None) x) ≡ kept o r x
entry_kept o r None = refl
entry_kept o r (Some e) = found ((not o || is_old_entry e) && (not r || is_in_range e)) e

pub is_entry : (o r : Bool) (ds : List Data) → is_some (entry_in o r ds) ≡ accepts o r ds (EntryName ∷ [])
is_entry o r ds = entry_kept o r (entry_of ds) ∙ sym (entry_accepted o r ds)
