-- What the tables know after one more access.
use Rattle.std.proofs.Common.{◌≡◌, ◌≢◌, ℕ, ◌+◌, ◌<◌, length, take, get_or, not, ◌==◌, Bool, true, false, cond, List, [], ◌∷◌, ◌++◌, Option, Some, None, refl, ap, sym, ◌∙◌, subst}
use Rattle.std.specs.Prelude.{nat_eq}
use Rattle.std.specs.Option.{option_eq}
use Rattle.std.specs.HashMap.{HashMap, get as told_at}
use Rattle.std.proofs.lemmas.List.{take_more}
use Rattle.std.proofs.lemmas.Bool.{not-false, false≢true, and_parts, and_cases, eqb-false, and_from, eqb-true, eq-eqb}
use mathlib.Core.Logic.{◌⊎◌, inl, inr}
use Rattle.txn_trace.proofs.Now.{same_option, same_is}
use Rattle.order_check.specs.declared.access.Access.{Access}
use Rattle.order_check.specs.declared.table.Doer.{Doer}
use Rattle.order_check.specs.Tables.{Version, version_eq, noted, Notes, DoesWrite, IsAmong, DoesBeside, Told, Grows, Knows}

pub same_version : (a b : Version) → version_eq a b ≡ true → a ≡ b
same_version a b is =
    let parts = and_parts (nat_eq a.0 b.0) (option_eq nat_eq a.1 b.1) is in
    let first : a.0 ≡ b.0 = eqb-true a.0 b.0 parts.0 in
    let second : a.1 ≡ b.1 = same_option a.1 b.1 parts.1 in
    λ i. (first i, second i)

pub version_is : (a b : Version) → a.0 ≡ b.0 → a.1 ≡ b.1 → version_eq a b ≡ true
version_is a b first second = and_from (nat_eq a.0 b.0) (option_eq nat_eq a.1 b.1) (eq-eqb a.0 b.0 first) (same_is a.1 b.1 second)

pub among_left : (a : Access) (xs ys : List Access) → IsAmong a xs → IsAmong a (xs ++ ys)
among_left a [] ys is = absurd is
among_left a (x ∷ xs) ys is = elim is [
  | inl same ↦ inl same
  | inr rest ↦ inr (among_left a xs ys rest)
]

pub among_last : (a : Access) (xs : List Access) → IsAmong a (xs ++ a ∷ [])
among_last a [] = inl refl
among_last a (x ∷ xs) = inr (among_last a xs)

pub among_cases : (a x : Access) (xs : List Access) → IsAmong a (xs ++ x ∷ []) → IsAmong a xs ⊎ (x ≡ a)
among_cases a x [] is = elim is [
  | inl same ↦ inr same
  | inr never ↦ absurd never
]
among_cases a x (y ∷ ys) is = elim is [
  | inl same ↦ inl (inl same)
  | inr rest ↦ elim (among_cases a x ys rest) [
    | inl before ↦ inl (inr before)
    | inr last ↦ inr last
  ]
]

module _ (does : Access → Type 0) (xs : List Access) (x : Access) where
  beside_more : (t : ℕ) → DoesBeside does xs t → DoesBeside does (xs ++ x ∷ []) t
  beside_more t b = record { by = b.by; is_among = among_left b.by xs (x ∷ []) b.is_among; does_it = b.does_it; differs = b.differs }

  -- One more access does not do it.
  pub told_same : (o : Option Doer) → (does x → ⊥) → Told does xs o → Told does (xs ++ x ∷ []) o
  told_same None not_it told = λ a is_in it. elim (among_cases a x xs is_in) [
    | inl before ↦ told a before it
    | inr last ↦ not_it (subst does (sym last) it)
  ]
  told_same (Some d) not_it told = record {
    by = told.by;
    is_among = among_left told.by xs (x ∷ []) told.is_among;
    does_it = told.does_it;
    txn_is = told.txn_is;
    only = λ only a is_in it. elim (among_cases a x xs is_in) [
      | inl before ↦ told.only only a before it
      | inr last ↦ absurd (not_it (subst does (sym last) it))
    ];
    second = λ other. beside_more d.txn (told.second other);
  }

  -- One more access does it.
  pub told_more : (o : Option Doer) → does x → Told does xs o → Told does (xs ++ x ∷ []) (Some (noted x.txn o))
  told_more None it told = record {
    by = x;
    is_among = among_last x xs;
    does_it = it;
    txn_is = refl;
    only = λ only a is_in does_it. elim (among_cases a x xs is_in) [
      | inl before ↦ absurd (told a before does_it)
      | inr last ↦ ap (λ (b : Access). b.txn) (sym last)
    ];
    second = λ other. absurd (false≢true (sym other));
  }
  told_more (Some d) it told = record {
    by = told.by;
    is_among = among_left told.by xs (x ∷ []) told.is_among;
    does_it = told.does_it;
    txn_is = told.txn_is;
    only = λ only a is_in does_it.
        let parts = and_parts d.is_only (d.txn == x.txn) only in
        elim (among_cases a x xs is_in) [
          | inl before ↦ told.only parts.0 a before does_it
          | inr last ↦ ap (λ (b : Access). b.txn) (sym last) ∙ sym (eqb-true d.txn x.txn parts.1)
        ];
    second = λ other. elim (and_cases d.is_only (d.txn == x.txn) other) [
      | inl already ↦ beside_more d.txn (told.second already)
      | inr differ ↦ record { by = x; is_among = among_last x xs; does_it = it; differs = λ same. eqb-false d.txn x.txn differ (sym same) }
    ];
  }

-- The table after one more access that does it, where `version` is the version that it does it to.
pub notes_told : {S : Type 0} (does : Version → Access → Type 0) (xs : List Access) (x : Access) (version : Version) (old new : HashMap Version Doer S) → Notes version x.txn old new → does version x → ((q : Version) → does q x → version_eq version q ≡ true)
    → ((q : Version) → Told (does q) xs (told_at version_eq old q)) → (q : Version) → Told (does q) (xs ++ x ∷ []) (told_at version_eq new q)
notes_told does xs x version old new notes it only told q = subst (Told (does q) (xs ++ x ∷ [])) (sym (notes q)) (at (version_eq version q) refl)
  where
    at : (b : Bool) → version_eq version q ≡ b → Told (does q) (xs ++ x ∷ []) (cond b (Some (noted x.txn (told_at version_eq old version))) (told_at version_eq old q))
    at true is =
        subst (λ p. Told (does p) (xs ++ x ∷ []) (Some (noted x.txn (told_at version_eq old version)))) (same_version version q is)
        (told_more (does version) xs x (told_at version_eq old version) it (told version))
    at false is = told_same (does q) xs x (told_at version_eq old q) (λ it. false≢true (sym is ∙ only q it)) (told q)

-- What is known after one more access that does not do it.
pub knows_same : (is : ℕ → Type 0) (does : Access → Type 0) (xs : List Access) (x : Access) (o : Option ℕ) → (does x → ⊥) → Knows is does xs o → Knows is does (xs ++ x ∷ []) o
knows_same is does xs x None not_it known = λ a is_in it. elim (among_cases a x xs is_in) [
  | inl before ↦ known a before it
  | inr last ↦ not_it (subst does (sym last) it)
]
knows_same is does xs x (Some n) not_it known = known

-- What is known after one more access that does it.
pub knows_more : {Q : Type 0} (is : Q → ℕ → Type 0) (does : Q → Access → Type 0) (of : Q → Type 0) (xs : List Access) (x : Access) (n : ℕ) (old new : Q → Option ℕ) → Grows of n old new → ((q : Q) → of q → is q n) → ((q : Q) → does q x → of q)
    → ((q : Q) → Knows (is q) (does q) xs (old q)) → (q : Q) → Knows (is q) (does q) (xs ++ x ∷ []) (new q)
knows_more is does of xs x n old new grows of_is does_of known q = at (new q) refl
  where
    at : (o : Option ℕ) → new q ≡ o → Knows (is q) (does q) (xs ++ x ∷ []) o
    at None now = λ a is_in it. elim (among_cases a x xs is_in) [
      | inl before ↦ (subst (Knows (is q) (does q) xs) (grows.kept q now) (known q)) a before it
      | inr last ↦ grows.here q (does_of q (subst (does q) (sym last) it)) now
    ]
    at (Some m) now = elim (grows.told q m now) [
      | inl before ↦ subst (Knows (is q) (does q) xs) before (known q)
      | inr here ↦ subst (is q) (sym here.0) (of_is q here.1)
    ]

abbrev pub no_access : Access
no_access = record { txn = 0; key = 0; need = None; left = None; source = None }

-- A loop notes what each access does to the version `of` it, if it changes the value.
module _ (does : Version → Access → Type 0) (of : Access → Version) (it_does : (x : Access) → x.need ≢ x.left → does (of x) x) (only : (x : Access) (q : Version) → does q x → version_eq (of x) q ≡ true) (never : (x : Access) (q : Version) → x.need ≡ x.left → does q x → ⊥) where
  module _ {S : Type 0} (xs : List Access) (i : ℕ) (below : i < length xs) (doers : HashMap Version Doer S) (told : (q : Version) → Told (does q) (take i xs) (told_at version_eq doers q)) where
    pub loop_more : (new new' : HashMap Version Doer S) → not (option_eq nat_eq (get_or xs i no_access).need (get_or xs i no_access).left) ≡ true → Notes (of (get_or xs i no_access)) (get_or xs i no_access).txn doers new → new' ≡ new → (q : Version) → Told (does q) (take (i + 1) xs) (told_at version_eq new' q)
    loop_more new new' changed notes is_new q =
        let x = get_or xs i no_access in
        let differ : x.need ≢ x.left = λ same. false≢true (sym (ap not (same_is x.need x.left same)) ∙ changed) in
        subst (λ ys. Told (does q) ys (told_at version_eq new' q)) (sym (take_more xs i no_access below))
        (subst (λ (w : HashMap Version Doer S). Told (does q) (take i xs ++ x ∷ []) (told_at version_eq w q)) (sym is_new)
        (notes_told does (take i xs) x (of x) doers new notes (it_does x differ) (only x) told q))

    pub loop_same : (new : HashMap Version Doer S) → not (option_eq nat_eq (get_or xs i no_access).need (get_or xs i no_access).left) ≡ false → new ≡ doers → (q : Version) → Told (does q) (take (i + 1) xs) (told_at version_eq new q)
    loop_same new unchanged is_new q =
        let x = get_or xs i no_access in
        let same : x.need ≡ x.left = same_option x.need x.left (not-false (option_eq nat_eq x.need x.left) unchanged) in
        subst (λ ys. Told (does q) ys (told_at version_eq new q)) (sym (take_more xs i no_access below))
        (subst (λ (w : HashMap Version Doer S). Told (does q) (take i xs ++ x ∷ []) (told_at version_eq w q)) (sym is_new)
        (told_same (does q) (take i xs) x (told_at version_eq doers q) (never x q same) (told q)))

abbrev pub written_by : Access → Version
written_by x = (x.key, x.left)

pub writes_it : (x : Access) → x.need ≢ x.left → DoesWrite (written_by x) x
writes_it x changed = (refl, refl, changed)

pub only_written : (x : Access) (q : Version) → DoesWrite q x → version_eq (written_by x) q ≡ true
only_written x q it = version_is (written_by x) q it.0 it.1

pub never_written : (x : Access) (q : Version) → x.need ≡ x.left → DoesWrite q x → ⊥
never_written x q same it = it.2 same
