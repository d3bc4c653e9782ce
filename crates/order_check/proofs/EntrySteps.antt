-- Shows that accesses, commits and newest transactions are right after one more entry, because only
-- a Committed adds accesses, and a committed transaction keeps its footprint.
use Rattle.std.proofs.Common.{◌≡◌, ℕ, zero, suc, ◌+◌, ◌<◌, cond, Bool, true, false, List, [], ◌∷◌, ◌++◌, length, get_or, Option, Some, None, refl, ap, sym, ◌∙◌, subst, arith}
use Rattle.std.specs.List.{cons_option}
use Rattle.std.proofs.Math.ListN.{set}
use Rattle.std.proofs.lemmas.Bool.{cases_eq, cases_lt, eq-eqb, ne_eqb}
use Rattle.std.proofs.lemmas.List.{append-nil, length_push}
use mathlib.Core.Logic.{inl, inr}
use Rattle.txn_words.specs.declared.entry.Entry.{Entry}
use Rattle.txn_words.specs.declared.entry.Entry.TheVariants.{Began, Committed}
use Rattle.txn_words.specs.Kinds.{is_commit}
use Rattle.txn_words.specs.Shape.{is_shaped, IsShaped}
use Rattle.txn_trace.specs.Alone.{alone}
use Rattle.txn_trace.specs.History.{of, commits, txn_after}
use Rattle.txn_trace.specs.Log.{log_of}
use Rattle.txn_trace.proofs.Now.{open_going}
use Rattle.txn_trace.proofs.Pushes.{txn_at, txn_in-push}
use Rattle.txn_trace.proofs.Shaped.{callers_of}
use Rattle.serial_check.specs.declared.footprint.Footprint.{Footprint as Kept}
use Rattle.serial_check.specs.Commits.{IsTorn}
use Rattle.serial_check.specs.Footprints.{FootsIf}
use Rattle.serial_check.specs.Kept.{cell_of}
use Rattle.serial_check.specs.OfCallers.{IsOfCaller}
use Rattle.serial_check.specs.Serializable.{txn_in}
use Rattle.serial_check.proofs.Law.{commit_going}
use Rattle.order_check.specs.declared.access.Access.{Access}
use Rattle.order_check.specs.Accesses.{accesses_of, first_torn}
use Rattle.order_check.specs.Footprints.{Footprint, HasFootprint}
use Rattle.order_check.specs.Kept.{HaveAccesses}
use Rattle.order_check.specs.Lists.{IsIn}
use Rattle.order_check.specs.Outcomes.{ArePlain, footprints_of}
use Rattle.order_check.specs.Serializable.{IsCommitted}
use Rattle.order_check.proofs.ByCommits.{commits_run, commits-push, same_of}
use Rattle.order_check.proofs.Feeding.{committed_has, committed_torn}
use Rattle.order_check.proofs.Gathering.{given_here, given_none, old_footprint, new_footprint}
use Rattle.order_check.proofs.Numbers.{in_names}
use Rattle.order_check.proofs.Places.{in_left, in_right}

-- The transaction that each caller began last.
abbrev pub AreNewest : List Entry → List ℕ → Type 0
AreNewest h newest = (c t : ℕ) → c < 64 → txn_in h c ≡ Some t → get_or newest c 0 ≡ t

pub not_began : (before : ℕ → Option ℕ) (e : Entry) (x : ℕ) → ((c t : ℕ) → e ≡ Began c t → ⊥) → txn_after before e x ≡ before x
not_began before (Began c t) x not_it = absurd (not_it c t refl)
not_began before _ x not_it = refl

pub newest_same : (h : List Entry) (e : Entry) (newest : List ℕ) → ((c t : ℕ) → e ≡ Began c t → ⊥) → AreNewest h newest → AreNewest (h ++ e ∷ []) newest
newest_same h e newest not_it was c t below is = was c t below (sym (not_began (txn_in h) e c not_it) ∙ ap (λ f. f c) (sym (txn_in-push h e)) ∙ is)

pub set_here : (xs : List ℕ) (i v : ℕ) → i < length xs → get_or (set xs i v) i 0 ≡ v
set_here [] i v below = absurd (omega arith)
set_here (x ∷ xs) zero v below = refl
set_here (x ∷ xs) (suc i) v below = set_here xs i v (omega arith)

pub set_other : (xs : List ℕ) (i j v : ℕ) → (i ≡ j → ⊥) → get_or (set xs i v) j 0 ≡ get_or xs j 0
set_other [] i j v apart = refl
set_other (x ∷ xs) zero zero v apart = absurd (apart refl)
set_other (x ∷ xs) zero (suc j) v apart = refl
set_other (x ∷ xs) (suc i) zero v apart = refl
set_other (x ∷ xs) (suc i) (suc j) v apart = set_other xs i j v (λ same. apart (ap suc same))

pub newest_began : (h : List Entry) (b u : ℕ) (newest : List ℕ) → b < length newest → AreNewest h newest → AreNewest (h ++ Began b u ∷ []) (set newest b u)
newest_began h b u newest long was c t below is = elim (cases_eq b c) [
  | inl same ↦
      let now : Some u ≡ Some t = sym (ap (λ y. cond y (Some u) (txn_in h c)) (eq-eqb b c same)) ∙ ap (λ f. f c) (sym (txn_in-push h (Began b u))) ∙ is in
      let u_is : u ≡ t = cc now in
      ap (λ j. get_or (set newest b u) j 0) (sym same) ∙ set_here newest b u long ∙ u_is
  | inr apart ↦
      let now : txn_in h c ≡ Some t = sym (ap (λ y. cond y (Some u) (txn_in h c)) (ne_eqb b c apart)) ∙ ap (λ f. f c) (sym (txn_in-push h (Began b u))) ∙ is in
      set_other newest b c u apart ∙ was c t below now
]

pub same_default : (xs : List ℕ) (i d e : ℕ) → i < length xs → get_or xs i d ≡ get_or xs i e
same_default [] i d e below = absurd (omega arith)
same_default (x ∷ xs) zero d e below = refl
same_default (x ∷ xs) (suc i) d e below = same_default xs i d e (omega arith)

pub get_left : (xs : List ℕ) (t i : ℕ) → i < length xs → get_or (xs ++ t ∷ []) i 0 ≡ get_or xs i 0
get_left [] t i below = absurd (omega arith)
get_left (x ∷ xs) t zero below = refl
get_left (x ∷ xs) t (suc i) below = get_left xs t i (omega arith)

pub get_last : (xs : List ℕ) (t i : ℕ) → i ≡ length xs → get_or (xs ++ t ∷ []) i 0 ≡ t
get_last [] t zero is = refl
get_last [] t (suc i) is = absurd (omega arith)
get_last (x ∷ xs) t zero is = absurd (omega arith)
get_last (x ∷ xs) t (suc i) is = get_last xs t i (omega arith)

module _ (h : List Entry) (e : Entry) (shape : IsShaped h) (shaped : is_shaped h e ≡ true) where
  commits_are : commits (h ++ e ∷ []) ≡ commits h ++ cons_option (cond (is_commit e) (txn_at h e) None) []
  commits_are = commits-push h e shape (callers_of h shape) shaped (commits_run h shape)

  entries_stay : (t : ℕ) → IsIn t (commits h) → of t (h ++ e ∷ []) ≡ of t h
  entries_stay = same_of h e shape (callers_of h shape) shaped (commits_run h shape)

  -- A committed transaction keeps its footprint, and stays torn.
  footprint_stays : (i : ℕ) (footprint : Footprint) → i < length (commits h) → HasFootprint (of (get_or (commits h) i 0) h) footprint → HasFootprint (of (get_or (commits h) i 0) (h ++ e ∷ [])) footprint
  footprint_stays i footprint below has = subst (λ es. HasFootprint es footprint) (sym (entries_stay (get_or (commits h) i 0) (in_names (commits h) i below))) has

  torn_stays : (t : ℕ) → IsCommitted h t → IsTorn h t → IsTorn (h ++ e ∷ []) t
  torn_stays t is_in torn m = ap (alone m) (entries_stay t is_in) ∙ torn m

  module _ (other : is_commit e ≡ false) where
    pub commits_same : commits (h ++ e ∷ []) ≡ commits h
    commits_same = commits_are ∙ ap (λ b. commits h ++ cons_option (cond b (txn_at h e) None) []) other ∙ append-nil (commits h)

    pub accessed_same : (torn : Option ℕ) (accesses : List Access) → HaveAccesses h torn accesses → HaveAccesses (h ++ e ∷ []) torn accesses
    accessed_same None accesses have = λ i below.
        let under : i < length (commits h) = subst (λ ts. i < length ts) commits_same below in
        subst (λ ts. HasFootprint (of (get_or ts i 0) (h ++ e ∷ [])) (footprints_of accesses i)) (sym commits_same) (footprint_stays i (footprints_of accesses i) under (have i under))
    accessed_same (Some t) accesses have = (subst (IsIn t) (sym commits_same) have.0, torn_stays t have.0 have.1)

-- A transaction commits.
module _ (h : List Entry) (shape : IsShaped h) (c p t : ℕ) (in_t : txn_in h c ≡ Some t) (shaped : is_shaped h (Committed c p) ≡ true) where
  pub commits_more : commits (h ++ Committed c p ∷ []) ≡ commits h ++ t ∷ []
  commits_more = commits_are h (Committed c p) shape shaped ∙ ap (λ o. commits h ++ cons_option o []) in_t

  module _ (foot : Kept) (is : IsOfCaller h c foot) (n : ℕ) (n_is : n ≡ length (commits h)) (xs : List Access) where
    foots : FootsIf foot.is_torn (of t h) (cell_of foot) (log_of c h)
    foots = is.of_txn t in_t (open_going t h (commit_going h c p t shape shaped in_t))

    module _ (plain : ArePlain n xs) where
      old_same : (i : ℕ) → i < length (commits h) → footprints_of (xs ++ accesses_of n foot.cells.entries) i ≡ footprints_of xs i
      old_same i below = old_footprint xs (accesses_of n foot.cells.entries) i (λ k. given_none n foot.cells.entries i k (λ same. absurd (omega arith)))

      new_is : footprints_of (xs ++ accesses_of n foot.cells.entries) n ≡ cell_of foot
      new_is = λ j k. (new_footprint xs (accesses_of n foot.cells.entries) n plain.below k ∙ given_here n foot.cells.entries k) j

      whole_more : foot.is_torn ≡ false → HaveAccesses h None xs → HaveAccesses (h ++ Committed c p ∷ []) None (xs ++ accesses_of n foot.cells.entries)
      whole_more whole have = λ i below. elim (cases_lt i (length (commits h))) [
        | inl early ↦
            let name : get_or (commits (h ++ Committed c p ∷ [])) i 0 ≡ get_or (commits h) i 0 = ap (λ ts. get_or ts i 0) commits_more ∙ get_left (commits h) t i early in
            subst (λ u. HasFootprint (of u (h ++ Committed c p ∷ [])) (footprints_of (xs ++ accesses_of n foot.cells.entries) i)) (sym name)
            (subst (HasFootprint (of (get_or (commits h) i 0) (h ++ Committed c p ∷ []))) (sym (old_same i early)) (footprint_stays h (Committed c p) shape shaped i (footprints_of xs i) early (have i early)))
        | inr late ↦
            let count : length (commits (h ++ Committed c p ∷ [])) ≡ length (commits h) + 1 = ap length commits_more ∙ length_push (commits h) t in
            let last : i ≡ length (commits h) = omega arith in
            let name : get_or (commits (h ++ Committed c p ∷ [])) i 0 ≡ t = ap (λ ts. get_or ts i 0) commits_more ∙ get_last (commits h) t i last in
            let here : footprints_of (xs ++ accesses_of n foot.cells.entries) i ≡ cell_of foot = ap (footprints_of (xs ++ accesses_of n foot.cells.entries)) (last ∙ sym n_is) ∙ new_is in
            subst (λ u. HasFootprint (of u (h ++ Committed c p ∷ [])) (footprints_of (xs ++ accesses_of n foot.cells.entries) i)) (sym name)
            (subst (HasFootprint (of t (h ++ Committed c p ∷ []))) (sym here) (committed_has h c p t (cell_of foot) in_t (subst (λ b. FootsIf b (of t h) (cell_of foot) (log_of c h)) whole foots)))
      ]

      torn_more : foot.is_torn ≡ true → HaveAccesses (h ++ Committed c p ∷ []) (Some t) (xs ++ accesses_of n foot.cells.entries)
      torn_more torn = (
        subst (IsIn t) (sym commits_more) (in_right t (commits h) (t ∷ []) (inl refl)),
        committed_torn h c p t (cell_of foot) in_t (subst (λ b. FootsIf b (of t h) (cell_of foot) (log_of c h)) torn foots),
      )

      pub accessed_more : (torn : Option ℕ) → HaveAccesses h torn xs → HaveAccesses (h ++ Committed c p ∷ []) (first_torn torn foot.is_torn t) (xs ++ accesses_of n foot.cells.entries)
      accessed_more (Some u) have = (subst (IsIn u) (sym commits_more) (in_left u (commits h) (t ∷ []) have.0), torn_stays h (Committed c p) shape shaped u have.0 have.1)
      accessed_more None have = at foot.is_torn refl
        where
          at : (b : Bool) → foot.is_torn ≡ b → HaveAccesses (h ++ Committed c p ∷ []) (cond b (Some t) None) (xs ++ accesses_of n foot.cells.entries)
          at true torn = torn_more torn
          at false whole = whole_more whole have
