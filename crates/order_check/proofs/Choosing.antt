-- The choice of sources.
use Rattle.std.proofs.Common.{◌≡◌, ◌≢◌, ℕ, zero, suc, ◌+◌, ◌<◌, ◌≤◌, cond, Bool, true, false, Option, Some, None, List, [], ◌∷◌, ◌++◌, length, take, get_or, refl, ap, sym, ◌∙◌, subst}
use Rattle.std.specs.HashMap.{HashMap, get as told_at}
use Rattle.std.proofs.lemmas.List.{take_more, take_all}
use Rattle.std.proofs.lemmas.Option.{slice_get-get_or}
use mathlib.Core.Logic.{◌⊎◌, inl, inr}
use Rattle.order_check.specs.declared.access.Access.{Access}
use Rattle.order_check.specs.Tables.{Version, version_eq, DoesWrite, IsAmong, Knows}
use Rattle.order_check.specs.Joined.{DoesAt, PlacedAt, SourceIs, AreSourced}
use Rattle.order_check.specs.Choices.{AreSame, LatestWrite, NotesFirst}
use Rattle.order_check.proofs.Noting.{same_version, version_is, among_cases, knows_more, knows_same, no_access}

same_push : (xs ys : List Access) (x y : Access) → AreSame xs ys → y ≡ record x { source = y.source } → AreSame (xs ++ x ∷ []) (ys ++ y ∷ [])
same_push [] [] x y same is = (is, tt)
same_push [] (z ∷ ys) x y same is = absurd same
same_push (z ∷ xs) [] x y same is = absurd same
same_push (z ∷ xs) (w ∷ ys) x y same is = (same.0, same_push xs ys x y same.1 is)

-- The access at the same place in the other list.
pub record Twin (ys : List Access) (a : Access) : Type 0 where
  pub other : Access
  pub is_among : IsAmong other ys
  pub txn_is : other.txn ≡ a.txn
  pub key_is : other.key ≡ a.key
  pub need_is : other.need ≡ a.need
  pub left_is : other.left ≡ a.left

pub twin : (xs ys : List Access) (a : Access) → AreSame xs ys → IsAmong a xs → Twin ys a
twin [] ys a same is_in = absurd is_in
twin (x ∷ xs) [] a same is_in = absurd same
twin (x ∷ xs) (y ∷ ys) a same is_in = elim is_in [
  | inl here ↦ record {
    other = y;
    is_among = inl refl;
    txn_is = ap (λ (z : Access). z.txn) same.0 ∙ ap (λ (z : Access). z.txn) here;
    key_is = ap (λ (z : Access). z.key) same.0 ∙ ap (λ (z : Access). z.key) here;
    need_is = ap (λ (z : Access). z.need) same.0 ∙ ap (λ (z : Access). z.need) here;
    left_is = ap (λ (z : Access). z.left) same.0 ∙ ap (λ (z : Access). z.left) here;
  }
  | inr rest ↦
      let t = twin xs ys a same.1 rest in
      record { other = t.other; is_among = inr t.is_among; txn_is = t.txn_is; key_is = t.key_is; need_is = t.need_is; left_is = t.left_is }
]

pub writes_there : (xs ys : List Access) (q : Version) (t : ℕ) → AreSame xs ys → DoesAt (DoesWrite q) xs t → DoesAt (DoesWrite q) ys t
writes_there xs ys q t same w =
    let o = twin xs ys w.by same w.is_among in
    record { by = o.other; is_among = o.is_among; does_it = (o.key_is ∙ w.does_it.0, o.left_is ∙ w.does_it.1, λ equal. w.does_it.2 (sym o.need_is ∙ equal ∙ o.left_is)); txn_is = o.txn_is ∙ w.txn_is }

-- The access with this index in the other list.
twin_at : (xs ys : List Access) (i : ℕ) (q : Version) → AreSame xs ys → PlacedAt (DoesWrite q) xs i → PlacedAt (DoesWrite q) ys i
twin_at [] ys i q same w = absurd (cc w.there)
twin_at (x ∷ xs) [] i q same w = absurd same
twin_at (x ∷ xs) (y ∷ ys) zero q same w =
    let here : x ≡ w.by = cc w.there in
    let of = ap (λ (z : Access). z.key) same.0 ∙ ap (λ (z : Access). z.key) here in
    let need = ap (λ (z : Access). z.need) same.0 ∙ ap (λ (z : Access). z.need) here in
    let left = ap (λ (z : Access). z.left) same.0 ∙ ap (λ (z : Access). z.left) here in
    record { by = y; there = refl; does_it = (of ∙ w.does_it.0, left ∙ w.does_it.1, λ equal. w.does_it.2 (sym need ∙ equal ∙ left)) }
twin_at (x ∷ xs) (y ∷ ys) (suc i) q same w =
    let later = twin_at xs ys i q same.1 (record { by = w.by; there = w.there; does_it = w.does_it }) in
    record { by = later.by; there = later.there; does_it = later.does_it }

source_there : (xs ys : List Access) (a : Access) (s : Option ℕ) → AreSame xs ys → SourceIs xs a s → SourceIs ys a s
source_there xs ys a None same is = is
source_there xs ys a (Some i) same is = twin_at xs ys i (a.key, a.need) same is

pub same_length : (xs ys : List Access) → AreSame xs ys → length xs ≡ length ys
same_length [] [] same = refl
same_length [] (y ∷ ys) same = absurd same
same_length (x ∷ xs) [] same = absurd same
same_length (x ∷ xs) (y ∷ ys) same = ap (λ n. suc n) (same_length xs ys same.1)

-- What the loop has done.
pub record Chosen {S : Type 0} (accesses : List Access) (i : ℕ) (latest : HashMap Version ℕ S) (sourced : List Access) : Type 0 where
  pub same : AreSame (take i accesses) sourced
  pub sources : (a : Access) → IsAmong a sourced → SourceIs accesses a a.source
  pub writes : LatestWrite accesses latest

pub all_sourced : (accesses sourced : List Access) (i : ℕ) → length accesses ≤ i → AreSame (take i accesses) sourced → ((a : Access) → IsAmong a sourced → SourceIs accesses a a.source) → AreSame accesses sourced × AreSourced sourced
all_sourced accesses sourced i end same sources =
    let whole : AreSame accesses sourced = subst (λ xs. AreSame xs sourced) (take_all i accesses end) same in
    (whole, λ a is_in. source_there accesses sourced a a.source whole (sources a is_in))

-- One more access gets its source.
pub same_more : (accesses sourced sourced' : List Access) (i : ℕ) (y : Access) (s : Option ℕ) → i < length accesses → AreSame (take i accesses) sourced → y ≡ record (get_or accesses i no_access) { source = s } → sourced' ≡ sourced ++ y ∷ [] → AreSame (take (i + 1) accesses) sourced'
same_more accesses sourced sourced' i y s below same y_is is =
    let x = get_or accesses i no_access in
    let again : y ≡ record x { source = y.source } = y_is ∙ ap (λ (z : Access). record x { source = z.source }) (sym y_is) in
    subst (λ xs. AreSame xs sourced') (sym (take_more accesses i no_access below)) (subst (AreSame (take i accesses ++ x ∷ [])) (sym is) (same_push (take i accesses) sourced x y same again))

source_of : (accesses : List Access) (x y : Access) (s : Option ℕ) → y ≡ record x { source = s } → SourceIs accesses x s → SourceIs accesses y y.source
source_of accesses x y s y_is is = subst (λ (z : Access). SourceIs accesses z z.source) (sym y_is) (at s is)
  where
    at : (s : Option ℕ) → SourceIs accesses x s → SourceIs accesses (record x { source = s }) s
    at None is = is
    at (Some t) is = is

pub sources_more : (accesses sourced sourced' : List Access) (x y : Access) (s : Option ℕ) → ((a : Access) → IsAmong a sourced → SourceIs accesses a a.source) → y ≡ record x { source = s } → SourceIs accesses x s → sourced' ≡ sourced ++ y ∷ []
    → (a : Access) → IsAmong a sourced' → SourceIs accesses a a.source
sources_more accesses sourced sourced' x y s before y_is is sourced_is a is_in = elim (among_cases a y sourced (subst (IsAmong a) sourced_is is_in)) [
  | inl early ↦ before a early
  | inr last ↦ subst (λ (z : Access). SourceIs accesses z z.source) last (source_of accesses x y s y_is is)
]

-- The access with this index writes the value.
pub placed : (accesses : List Access) (i : ℕ) (q : Version) → i < length accesses → (get_or accesses i no_access).need ≢ (get_or accesses i no_access).left → version_eq ((get_or accesses i no_access).key, (get_or accesses i no_access).left) q ≡ true → PlacedAt (DoesWrite q) accesses i
placed accesses i q below changed same =
    let x = get_or accesses i no_access in
    let here : ◌≡◌ {A = Version} (x.key, x.left) q = same_version (x.key, x.left) q same in
    record { by = x; there = slice_get-get_or accesses i no_access below; does_it = (ap (λ (v : Version). v.0) here, ap (λ (v : Version). v.1) here, changed) }

-- One more access writes a value.
pub latest_more : {S : Type 0} (accesses : List Access) (i : ℕ) (latest new : HashMap Version ℕ S) → i < length accesses → (get_or accesses i no_access).need ≢ (get_or accesses i no_access).left
    → ((q : Version) → told_at version_eq new q ≡ cond (version_eq ((get_or accesses i no_access).key, (get_or accesses i no_access).left) q) (Some i) (told_at version_eq latest q)) → LatestWrite accesses latest → LatestWrite accesses new
latest_more accesses i latest new below changed updates before q j is = at (version_eq (x.key, x.left) q) refl (sym (updates q) ∙ is)
  where
    x : Access
    x = get_or accesses i no_access

    at : (b : Bool) → version_eq (x.key, x.left) q ≡ b → cond b (Some i) (told_at version_eq latest q) ≡ Some j → PlacedAt (DoesWrite q) accesses j
    at true same found = subst (PlacedAt (DoesWrite q) accesses) (cc found) (placed accesses i q below changed same)
    at false other found = before q j found

-- The map knows the first accesses among so many.
abbrev pub IsFirstOf : {S : Type 0} → List Access → ℕ → HashMap Version ℕ S → Type 0
IsFirstOf accesses i firsts =
    (q : Version) → Knows (PlacedAt (DoesWrite q) accesses) (DoesWrite q) (take i accesses) (told_at version_eq firsts q)

-- What is known of the first accesses after one more.
pub firsts_more : {S : Type 0} (accesses : List Access) (i : ℕ) (old new : HashMap Version ℕ S) → i < length accesses → (get_or accesses i no_access).need ≢ (get_or accesses i no_access).left
    → NotesFirst ((get_or accesses i no_access).key, (get_or accesses i no_access).left) i old new → IsFirstOf accesses i old → IsFirstOf accesses (i + 1) new
firsts_more accesses i old new below changed notes before =
    let x = get_or accesses i no_access in
    subst (λ ys. (q : Version) → Knows (PlacedAt (DoesWrite q) accesses) (DoesWrite q) ys (told_at version_eq new q)) (sym (take_more accesses i no_access below))
    (knows_more (λ (q : Version). PlacedAt (DoesWrite q) accesses) (λ (q : Version). DoesWrite q) (λ (q : Version). version_eq (x.key, x.left) q ≡ true) (take i accesses) x i (told_at version_eq old) (told_at version_eq new) notes
    (λ q same. placed accesses i q below changed same) (λ q does. version_is (x.key, x.left) q does.0 does.1) before)

pub firsts_same : {S : Type 0} (accesses : List Access) (i : ℕ) (firsts : HashMap Version ℕ S) → i < length accesses → (get_or accesses i no_access).need ≡ (get_or accesses i no_access).left → IsFirstOf accesses i firsts → IsFirstOf accesses (i + 1) firsts
firsts_same accesses i firsts below unchanged before q =
    let x = get_or accesses i no_access in
    subst (λ ys. Knows (PlacedAt (DoesWrite q) accesses) (DoesWrite q) ys (told_at version_eq firsts q)) (sym (take_more accesses i no_access below))
    (knows_same (PlacedAt (DoesWrite q) accesses) (DoesWrite q) (take i accesses) x (told_at version_eq firsts q) (λ does. does.2 unchanged) (before q))

-- The index is put where none is known.
pub first_put : {S : Type 0} (version : Version) (i : ℕ) (old new : HashMap Version ℕ S) → ((q : Version) → told_at version_eq new q ≡ cond (version_eq version q) (Some i) (told_at version_eq old q)) → NotesFirst version i old new
first_put version i old new updates = record {
  told = λ q m is. told q m (version_eq version q) refl (sym (updates q) ∙ is);
  kept = λ q is. kept q (version_eq version q) (sym (updates q) ∙ is);
  here = λ q of is. absurd (cc (sym is ∙ updates q ∙ ap (λ b. cond b (Some i) (told_at version_eq old q)) of));
}
  where
    told : (q : Version) (m : ℕ) (b : Bool) → version_eq version q ≡ b → cond b (Some i) (told_at version_eq old q) ≡ Some m → (told_at version_eq old q ≡ Some m) ⊎ ((m ≡ i) × (version_eq version q ≡ true))
    told q m true same is = inr (cc (sym is), same)
    told q m false other is = inl is

    kept : (q : Version) (b : Bool) → cond b (Some i) (told_at version_eq old q) ≡ None → told_at version_eq old q ≡ None
    kept q true is = absurd (cc is)
    kept q false is = is
