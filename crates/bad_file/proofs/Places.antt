-- Lemmas about the flaw at a place, given the value there.
use Rattle.std.proofs.Common.{◌≡◌, ℕ, ◌+◌, ◌<◌, ◌≤◌, List, length, take, get_or, Bool, true, false, Option, Some, None, if◌then◌else◌, ap, sym, subst, ◌∙◌, arith}
use Rattle.std.specs.Prelude.{IsSome, MatchOption, is_some, option_and_then, slice_get}
use Rattle.std.specs.Option.{IfSome}
use Rattle.std.proofs.lemmas.List.{get_or-take, length-take-le, take_all}
use Rattle.std.proofs.lemmas.List.Elements.{All-more}
use Rattle.std.proofs.lemmas.Option.{get_or_from_slice_get, slice_get-get_or}
use Rattle.serde_json.specs.Data.{Data}
use Rattle.piece_files.specs.Elements.{elements_of}
use Rattle.bad_file.specs.Flaws.{AreEntries, IsEntry, IsFault, IsFlawAt, IsFlawOfEntry, entry_in, flaw_at, wrong}
use Rattle.bad_file.specs.Meets.{found_of, is_met}
use Rattle.bad_file.specs.Places.{at, element_at, entries_of, entry_at}
use Rattle.bad_file.specs.declared.expected.Expected.{Expected}
use Rattle.bad_file.specs.declared.expected.Expected.TheVariants as expected
use Rattle.bad_file.specs.declared.flaw.Flaw.{Flaw}
use Rattle.bad_file.specs.declared.flaw.Flaw.TheVariants.{Wrong}
use Rattle.bad_file.specs.declared.place.Place.{Place}
use Rattle.bad_file.specs.declared.place.Place.TheVariants.{Entry, Element}

pub flaw_none : (r : Bool) (d : Data) (place : Place) (e : Expected) (x : Option Data) → at place d ≡ x → is_met r (Some e) x ≡ true → None ≡ flaw_at r d place e
flaw_none r d place e x there is = sym (ap (λ b. if b then None else Some (wrong d place (Some e))) (ap (is_met r (Some e)) there ∙ is))

pub flaw_some : (r : Bool) (d : Data) (place : Place) (e : Expected) (x : Option Data) → at place d ≡ x → is_met r (Some e) x ≡ false → Some (Wrong place (found_of x) (Some e)) ≡ flaw_at r d place e
flaw_some r d place e x there is =
    ap (λ y. Some (Wrong place (found_of y) (Some e))) (sym there)
    ∙ sym (ap (λ b. if b then None else Some (wrong d place (Some e))) (ap (is_met r (Some e)) there ∙ is))

-- ---- one entry

pub no_array : (o r : Bool) (d e : Data) (i : ℕ) → entry_at i d ≡ Some e → elements_of e ≡ None → IsFlawOfEntry o r d i (elements_of e) (Wrong (Entry i) (found_of (Some e)) (Some expected.Entry))
no_array o r d e i there none =
    subst (λ x. IsFlawOfEntry o r d i x (Wrong (Entry i) (found_of (Some e)) (Some expected.Entry))) (sym none)
    (ap (λ y. Wrong (Entry i) (found_of y) (Some expected.Entry)) (sym there))

pub element_fault : (o r : Bool) (d e : Data) (i j : ℕ) (ds : List Data) (wanted : Option Expected) (x : Option Data) → entry_at i d ≡ Some e → elements_of e ≡ Some ds → IsFault o r ds j wanted → x ≡ slice_get ds j
    → IsFlawOfEntry o r d i (elements_of e) (Wrong (Element i j) (found_of x) wanted)
element_fault o r d e i j ds wanted x there are fault is =
    let stands : at (Element i j) d ≡ slice_get ds j = ap (option_and_then (element_at j)) there ∙ ap (option_and_then (λ (xs : List Data). slice_get xs j)) are in
    subst (λ y. IsFlawOfEntry o r d i y (Wrong (Element i j) (found_of x) wanted)) (sym are)
    (j, wanted, fault, ap (λ y. Wrong (Element i j) (found_of y) wanted) (is ∙ sym stands))

pub sound_entry : (o r : Bool) (e : Data) (ds : List Data) → elements_of e ≡ Some ds → IsSome (entry_in o r ds) → IsEntry o r e
sound_entry o r e ds are is = subst (λ x. IsSome (option_and_then (entry_in o r) x)) (sym are) is

-- ---- all entries

at_entry : (d : Data) (ds : List Data) (k : ℕ) → entries_of d ≡ Some ds → entry_at k d ≡ slice_get ds k
at_entry d ds k are = ap (option_and_then (λ (xs : List Data). slice_get xs k)) are

there : (ds : List Data) (i : ℕ) (e : Data) → i < length ds → e ≡ get_or ds i e → slice_get ds i ≡ Some e
there ds i e below is = slice_get-get_or ds i e below ∙ ap (λ (x : Data). Some x) (sym is)

one_of : (o r : Bool) (ds : List Data) (i : ℕ) → i < length ds → AreEntries o r (take i ds) → (k : ℕ) (x : Data) → k < i → slice_get ds k ≡ Some x → IsEntry o r x
one_of o r ds i below all k x less at_k =
    let few : i ≤ length ds = omega arith in
    let count = length-take-le i ds few in
    subst (IsEntry o r) (get_or-take i ds k x less ∙ get_or_from_slice_get ds k x x at_k) (all k x (omega (arith, count)))

pub first_flaw : (o r : Bool) (ds : List Data) (i : ℕ) (e : Data) (found : Option Flaw) → is_some found ≡ true → i < length ds → e ≡ get_or ds i e → AreEntries o r (take i ds)
    → ((d : Data) → entry_at i d ≡ Some e → IfSome found (IsFlawOfEntry o r d i (elements_of e)))
    → (d : Data) → entries_of d ≡ Some ds → MatchOption found (AreEntries o r ds) (λ flaw. (k : ℕ) × IsFlawAt o r d k flaw)
first_flaw o r ds i e None some below is before told d are = absurd (cc some)
first_flaw o r ds i e (Some flaw) some below is before told d are =
    let stands : entry_at i d ≡ Some e = at_entry d ds i are ∙ there ds i e below is in
    (i, record { entry = e; is_there = stands; before = λ k x less is_at. one_of o r ds i below before k x less (sym (at_entry d ds k are) ∙ is_at); here = told d stands })

pub one_more : (o r : Bool) (ds : List Data) (i : ℕ) (e : Data) → i < length ds → e ≡ get_or ds i e → AreEntries o r (take i ds) → IsEntry o r e → AreEntries o r (take (i + 1) ds)
one_more o r ds i e below is before here = All-more (IsEntry o r) ds i e below before (subst (IsEntry o r) is here)

pub all_of : (o r : Bool) (ds : List Data) (n : ℕ) → length ds ≤ n → AreEntries o r (take n ds) → AreEntries o r ds
all_of o r ds n over all = subst (AreEntries o r) (take_all n ds over) all
