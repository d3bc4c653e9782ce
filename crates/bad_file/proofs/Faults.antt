-- Shows that the first element at fault is found, because the stack always has exactly the elements
-- that are still expected, and these decide which element may follow.
use Rattle.std.proofs.Common.{◌≡◌, ℕ, ◌+◌, ◌<◌, ◌≤◌, List, [], ◌∷◌, ◌++◌, length, take, drop, get_or, Bool, true, false, ◌&&◌, Option, Some, None, if◌then◌else◌, refl, ap, sym, subst, ◌∙◌, arith, append_assoc}
use Rattle.std.specs.Prelude.{IsSome, codes, is_some, option_and_then, reverse, slice_get}
use Rattle.std.proofs.lemmas.List.{drop_all, drop_more, reverse-append, take-append-drop, take_all, take_more}
use Rattle.std.proofs.lemmas.Option.{slice_get-get_or}
use Rattle.serde_json.specs.Data.{Data, null, number, string, array, object, unsigned, no_items, no_members}
use Rattle.bad_file.specs.Flaws.{BeginsEntry, IsFault, entry_in}
use Rattle.bad_file.specs.Following.{expected_after}
use Rattle.bad_file.specs.Meets.{is_met, is_as_expected}
use Rattle.bad_file.specs.declared.expected.Expected.{Expected}
use Rattle.bad_file.specs.declared.expected.Expected.TheVariants as expected
use Rattle.bad_file.proofs.EntryElements.{accepts, is_entry}

-- ---- what is still expected

-- The elements that are still expected after these elements, or None if one of these elements is
-- not as expected.
unfoldable pub rest_of : Bool → Bool → List Data → List Expected → Option (List Expected)
rest_of is_old ranged [] es = Some es
rest_of is_old ranged (d ∷ ds) [] = None
rest_of is_old ranged (d ∷ ds) (e ∷ es) =
    if is_as_expected ranged e d then rest_of is_old ranged ds (expected_after is_old e d ++ es) else None

-- True if the elements `q` are exactly the elements that are still expected after earlier elements.
-- False if one of the earlier elements is not as expected.
abbrev left_accepts : Bool → Bool → List Data → Option (List Expected) → Bool
left_accepts o r q None = false
left_accepts o r q (Some left) = accepts o r q left

gated : (o r : Bool) (q : List Data) (b a : Bool) (x : Option (List Expected)) → a ≡ left_accepts o r q x → (b && a) ≡ left_accepts o r q (if b then x else None)
gated o r q true a x is = is
gated o r q false a x is = refl

accepts-append : (o r : Bool) (p q : List Data) (es : List Expected) → accepts o r (p ++ q) es ≡ left_accepts o r q (rest_of o r p es)
unfolding rest_of
accepts-append o r [] q es = refl
accepts-append o r (d ∷ p) q [] = refl
accepts-append o r (d ∷ p) q (e ∷ es) = gated o r q (is_as_expected r e d) _ _ (accepts-append o r p q (expected_after o e d ++ es))

stopped : (b : Bool) (x : Option (List Expected)) (f : List Expected → Option (List Expected)) (y : Option (List Expected))
    → y ≡ option_and_then f x → (if b then y else None) ≡ option_and_then f (if b then x else None)
stopped true x f y is = is
stopped false x f y is = refl

rest-append : (o r : Bool) (p q : List Data) (es : List Expected) → rest_of o r (p ++ q) es ≡ option_and_then (rest_of o r q) (rest_of o r p es)
unfolding rest_of
rest-append o r [] q es = refl
rest-append o r (d ∷ p) q [] = refl
rest-append o r (d ∷ p) q (e ∷ es) = stopped (is_as_expected r e d) _ (rest_of o r q) _ (rest-append o r p q (expected_after o e d ++ es))

-- ---- for each expectation, elements that meet it

abbrev witness : Expected → List Data
witness expected.Object = object no_members ∷ []
witness expected.Version = number (unsigned 1) ∷ []
witness expected.Stripes = number (unsigned 1) ∷ []
witness expected.Entries = array no_items ∷ []
witness expected.Entry = array no_items ∷ []
witness expected.EntryName = string (codes "aborted") ∷ number (unsigned 0) ∷ []
witness expected.OpName = string (codes "get") ∷ number (unsigned 0) ∷ []
witness expected.OldOpName = string (codes "get") ∷ number (unsigned 0) ∷ []
witness expected.Caller = number (unsigned 0) ∷ []
witness expected.Number = number (unsigned 0) ∷ []
witness expected.NumberOrNull = null ∷ []

taken : (o r : Bool) (e : Expected) (es : List Expected) (ds : List Data) → accepts o r (witness e ++ ds) (e ∷ es) ≡ accepts o r ds es
taken o r expected.Object es ds = refl
taken o true expected.Version es ds = refl
taken o false expected.Version es ds = refl
taken o true expected.Stripes es ds = refl
taken o false expected.Stripes es ds = refl
taken o true expected.Entries es ds = refl
taken o false expected.Entries es ds = refl
taken o r expected.Entry es ds = refl
taken o true expected.EntryName es ds = refl
taken o false expected.EntryName es ds = refl
taken o r expected.OpName es ds = refl
taken o r expected.OldOpName es ds = refl
taken o true expected.Caller es ds = refl
taken o false expected.Caller es ds = refl
taken o r expected.Number es ds = refl
taken o r expected.NumberOrNull es ds = refl

abbrev completion : List Expected → List Data
completion [] = []
completion (e ∷ es) = witness e ++ completion es

completed : (o r : Bool) (es : List Expected) → accepts o r (completion es) es ≡ true
completed o r [] = refl
completed o r (e ∷ es) = taken o r e es (completion es) ∙ completed o r es

-- ---- the first element at fault

abbrev next_of : List Expected → Option Expected
next_of [] = None
next_of (e ∷ es) = Some e

absent : {A : Type 0} (x : Option A) → is_some x ≡ false → x ≡ None
absent None is = refl
absent (Some a) is = absurd (cc is)

left_true : (a b : Bool) → (a && b) ≡ true → a ≡ true
left_true true b is = refl
left_true false b is = is

both : (a b : Bool) → a ≡ true → b ≡ true → (a && b) ≡ true
both true b is also = also
both false b is also = is

next_met : (o r : Bool) (left : List Expected) (d : Data) (more : List Data) → accepts o r (d ∷ more) left ≡ true → is_met r (next_of left) (Some d) ≡ true
next_met o r [] d more is = is
next_met o r (e ∷ es) d more is = left_true (is_as_expected r e d) _ is

may_go_on : (o r : Bool) (left : List Expected) (d : Data) → is_met r (next_of left) (Some d) ≡ true → (more : List Data) × (accepts o r (d ∷ more) left ≡ true)
may_go_on o r [] d is = ([], is)
may_go_on o r (e ∷ es) d is = (completion (expected_after o e d ++ es), both (is_as_expected r e d) _ is (completed o r (expected_after o e d ++ es)))

-- `left` has the elements that are still expected after the first i elements.
module _ (o r : Bool) (ds : List Data) (i : ℕ) (left : List Expected) (rest : rest_of o r (take i ds) (expected.EntryName ∷ []) ≡ Some left) where
  goes_on : (q : List Data) → is_some (entry_in o r (take i ds ++ q)) ≡ accepts o r q left
  goes_on q = is_entry o r (take i ds ++ q) ∙ accepts-append o r (take i ds) q (expected.EntryName ∷ []) ∙ ap (left_accepts o r q) rest

  pub whole_is : is_some (entry_in o r ds) ≡ accepts o r (drop i ds) left
  whole_is = subst (λ xs. is_some (entry_in o r xs) ≡ accepts o r (drop i ds) left) (take-append-drop i ds) (goes_on (drop i ds))

  begins : BeginsEntry o r (take i ds)
  begins = (completion left, goes_on (completion left) ∙ completed o r left)

  next_begins : (d : Data) → BeginsEntry o r (take i ds ++ d ∷ []) → is_met r (next_of left) (Some d) ≡ true
  next_begins d b =
      next_met o r left d b.0 (sym (goes_on (d ∷ b.0)) ∙ ap (λ xs. is_some (entry_in o r xs)) (sym (append_assoc (take i ds) (d ∷ []) b.0)) ∙ b.1)

  met_begins : (d : Data) → is_met r (next_of left) (Some d) ≡ true → BeginsEntry o r (take i ds ++ d ∷ [])
  met_begins d is =
      let more = may_go_on o r left d is in
      (more.0, ap (λ xs. is_some (entry_in o r xs)) (append_assoc (take i ds) (d ∷ []) more.0) ∙ goes_on (d ∷ more.0) ∙ more.1)

  fault : is_met r (next_of left) (slice_get ds i) ≡ false → accepts o r (drop i ds) left ≡ false → IsFault o r ds i (next_of left)
  fault unmet off = record {
    refused = absent (entry_in o r ds) (whole_is ∙ off);
    before = begins;
    next = λ d. (next_begins d, met_begins d);
    here = unmet;
  }

-- ---- a stack of the elements still expected; the last one is expected next

pushed : (es : List Expected) (e : Expected) → reverse (es ++ e ∷ []) ≡ e ∷ reverse es
pushed es e = reverse-append es (e ∷ [])

there : (ds : List Data) (i : ℕ) (d : Data) → i < length ds → d ≡ get_or ds i d → slice_get ds i ≡ Some d
there ds i d below at = slice_get-get_or ds i d below ∙ ap (λ (x : Data). Some x) (sym at)

from_here : (ds : List Data) (i : ℕ) (d : Data) → i < length ds → d ≡ get_or ds i d → drop i ds ≡ d ∷ drop (i + 1) ds
from_here ds i d below at = drop_more ds i d below ∙ ap (λ (x : Data). x ∷ drop (i + 1) ds) (sym at)

pub turn : (o r : Bool) (ds : List Data) (i : ℕ) (d : Data) (e : Expected) (old popped new : List Expected) → i < length ds → d ≡ get_or ds i d
    → rest_of o r (take i ds) (expected.EntryName ∷ []) ≡ Some (reverse old) → old ≡ popped ++ e ∷ [] → is_as_expected r e d ≡ true → reverse new ≡ expected_after o e d ++ reverse popped
    → rest_of o r (take (i + 1) ds) (expected.EntryName ∷ []) ≡ Some (reverse new)
unfolding rest_of
turn o r ds i d e old popped new below at rest was is now =
    let before : rest_of o r (take i ds) (expected.EntryName ∷ []) ≡ Some (e ∷ reverse popped) = rest ∙ ap (λ (x : List Expected). Some x) (ap reverse was ∙ pushed popped e) in
    let longer : take (i + 1) ds ≡ take i ds ++ d ∷ [] = take_more ds i d below ∙ ap (λ (x : Data). take i ds ++ x ∷ []) (sym at) in
    ap (λ xs. rest_of o r xs (expected.EntryName ∷ [])) longer ∙ rest-append o r (take i ds) (d ∷ []) (expected.EntryName ∷ [])
    ∙ ap (option_and_then (rest_of o r (d ∷ []))) before
    ∙ ap (λ b. if b then Some (expected_after o e d ++ reverse popped) else None) is
    ∙ ap (λ (x : List Expected). Some x) (sym now)

pub too_many : (o r : Bool) (ds : List Data) (i : ℕ) (d : Data) (old : List Expected) → i < length ds → d ≡ get_or ds i d
    → rest_of o r (take i ds) (expected.EntryName ∷ []) ≡ Some (reverse old) → old ≡ [] → IsFault o r ds i None
too_many o r ds i d old below at rest none =
    let before : rest_of o r (take i ds) (expected.EntryName ∷ []) ≡ Some [] = rest ∙ ap (λ (x : List Expected). Some (reverse x)) none in
    fault o r ds i [] before (ap (is_met r None) (there ds i d below at)) (ap (λ q. accepts o r q []) (from_here ds i d below at))

pub not_expected : (o r : Bool) (ds : List Data) (i : ℕ) (d : Data) (e : Expected) (old popped : List Expected) → i < length ds → d ≡ get_or ds i d
    → rest_of o r (take i ds) (expected.EntryName ∷ []) ≡ Some (reverse old) → old ≡ popped ++ e ∷ [] → is_as_expected r e d ≡ false → IsFault o r ds i (Some e)
not_expected o r ds i d e old popped below at rest was is =
    let before : rest_of o r (take i ds) (expected.EntryName ∷ []) ≡ Some (e ∷ reverse popped) = rest ∙ ap (λ (x : List Expected). Some x) (ap reverse was ∙ pushed popped e) in
    fault o r ds i (e ∷ reverse popped) before (ap (is_met r (Some e)) (there ds i d below at) ∙ is)
    (ap (λ q. accepts o r q (e ∷ reverse popped)) (from_here ds i d below at) ∙ ap (λ b. b && accepts o r (drop (i + 1) ds) (expected_after o e d ++ reverse popped)) is)

past : (ds : List Data) → slice_get ds (length ds) ≡ None
past [] = refl
past (d ∷ ds) = past ds

pub too_few : (o r : Bool) (ds : List Data) (i : ℕ) (e : Expected) (old popped : List Expected) → length ds ≤ i
    → rest_of o r (take i ds) (expected.EntryName ∷ []) ≡ Some (reverse old) → old ≡ popped ++ e ∷ [] → IsFault o r ds (length ds) (Some e)
too_few o r ds i e old popped over rest was =
    let all : take i ds ≡ take (length ds) ds = take_all i ds over ∙ sym (take_all (length ds) ds (omega arith)) in
    let before : rest_of o r (take (length ds) ds) (expected.EntryName ∷ []) ≡ Some (e ∷ reverse popped) =
    ap (λ xs. rest_of o r xs (expected.EntryName ∷ [])) (sym all) ∙ rest ∙ ap (λ (x : List Expected). Some x) (ap reverse was ∙ pushed popped e) in
    fault o r ds (length ds) (e ∷ reverse popped) before (ap (is_met r (Some e)) (past ds)) (ap (λ q. accepts o r q (e ∷ reverse popped)) (drop_all (length ds) ds (omega arith)))

pub sound : (o r : Bool) (ds : List Data) (i : ℕ) (old : List Expected) → length ds ≤ i
    → rest_of o r (take i ds) (expected.EntryName ∷ []) ≡ Some (reverse old) → old ≡ [] → IsSome (entry_in o r ds)
sound o r ds i old over rest none =
    whole_is o r ds i [] (rest ∙ ap (λ (x : List Expected). Some (reverse x)) none) ∙ ap (λ q. accepts o r q []) (drop_all i ds over)
