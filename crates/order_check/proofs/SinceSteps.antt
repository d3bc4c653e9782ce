-- Shows that what is kept of real time is right after one more entry.
use Rattle.std.proofs.Common.{◌≡◌, ℕ, zero, suc, ◌+◌, ◌<◌, ◌≤◌, Bool, false, true, cond, List, [], ◌∷◌, ◌++◌, length, get_or, replicate, Some, refl, ap, sym, ◌∙◌, subst, arith}
use Rattle.std.proofs.Math.ListN.{set}
use Rattle.std.proofs.lemmas.Bool.{cases_eq, cases_lt, eq-eqb, ne_eqb}
use Rattle.std.proofs.lemmas.List.{length-set, length_push}
use mathlib.Core.Logic.{inl, inr}
use Rattle.txn_words.specs.declared.entry.Entry.{Entry}
use Rattle.txn_words.specs.declared.entry.Entry.TheVariants.{Began, Committed}
use Rattle.txn_words.specs.Kinds.{is_commit}
use Rattle.txn_words.specs.Shape.{is_shaped, IsShaped}
use Rattle.txn_trace.specs.History.{commits}
use Rattle.txn_trace.proofs.Callers.{not_after_end}
use Rattle.txn_trace.proofs.Pushes.{txn_at, txn_in-push}
use Rattle.txn_trace.proofs.Shaped.{callers_of, committed_ended}
use Rattle.serial_check.specs.Serializable.{txn_in}
use Rattle.order_check.specs.Serializable.{IsCommitted}
use Rattle.order_check.specs.Timing.{AreBegun, IsSince, since_in}
use Rattle.order_check.proofs.Beginnings.{IsNotBegun, next_number, since_begun, since_stays}
use Rattle.order_check.proofs.ByCommits.{commits_run, committed_in}
use Rattle.order_check.proofs.EntrySteps.{commits_more, commits_same, get_last, get_left, not_began, set_here, set_other}
use Rattle.order_check.proofs.Numbers.{in_names}
use Rattle.order_check.proofs.RealTimes.{past_zero}

-- What is kept of the callers' transactions, and of the committed ones.
abbrev pub HaveBegun : Bool → List Entry → List ℕ → Type 0
HaveBegun b h begun = (c t : ℕ) → c < 64 → txn_in h c ≡ Some t → IsSince b h t (get_or begun c 0)

abbrev pub HaveSince : Bool → List Entry → List ℕ → Type 0
HaveSince b h since = (i : ℕ) → i < length (commits h) → IsSince b h (get_or (commits h) i 0) (since_in since i)

module _ (b : Bool) (h : List Entry) (e : Entry) (shape : IsShaped h) (shaped : is_shaped h e ≡ true) where
  -- A committed transaction does not begin again.
  committed_stays : (t n : ℕ) → IsCommitted h t → IsSince b h t n → IsSince b (h ++ e ∷ []) t n
  committed_stays t n is_in was = since_stays b h e shape shaped t n not_now was
    where
      begins : (c : ℕ) → e ≡ Began c t → txn_at h e ≡ Some t
      begins c is = ap (txn_at h) is ∙ ap (λ y. cond y (Some t) (txn_in h c)) (eq-eqb c c refl)

      not_now : IsNotBegun e t
      not_now c is =
          let callers = callers_of h shape in
          not_after_end h e t callers shaped (committed_ended t h (committed_in h e shape callers shaped (commits_run h shape) t is_in)) (begins c is)

  pub begun_same : (begun : List ℕ) → ((c t : ℕ) → e ≡ Began c t → ⊥) → HaveBegun b h begun → HaveBegun b (h ++ e ∷ []) begun
  begun_same begun not_it was c t below is =
      let before : txn_in h c ≡ Some t = sym (not_began (txn_in h) e c not_it) ∙ ap (λ f. f c) (sym (txn_in-push h e)) ∙ is in
      since_stays b h e shape shaped t (get_or begun c 0) (λ d begins. not_it d t begins) (was c t below before)

  pub since_same : is_commit e ≡ false → (since : List ℕ) → HaveSince b h since → HaveSince b (h ++ e ∷ []) since
  since_same other since was i below =
      let same = commits_same h e shape shaped other in
      let under : i < length (commits h) = subst (λ ts. i < length ts) same below in
      subst (λ ts. IsSince b (h ++ e ∷ []) (get_or ts i 0) (since_in since i)) (sym same)
      (committed_stays (get_or (commits h) i 0) (since_in since i) (in_names (commits h) i under) (was i under))

-- A transaction begins.
module _ (b : Bool) (h : List Entry) (a u : ℕ) (shape : IsShaped h) (shaped : is_shaped h (Began a u) ≡ true) where
  pub begun_now : (begun : List ℕ) (n : ℕ) → a < length begun → n ≡ cond b (length (commits h)) 0 → HaveBegun b h begun → HaveBegun b (h ++ Began a u ∷ []) (set begun a n)
  begun_now begun n long n_is was c t below is = elim (cases_eq a c) [
    | inl same ↦
        let now : Some u ≡ Some t = sym (ap (λ y. cond y (Some u) (txn_in h c)) (eq-eqb a c same)) ∙ ap (λ f. f c) (sym (txn_in-push h (Began a u))) ∙ is in
        let u_is : u ≡ t = cc now in
        let kept : get_or (set begun a n) c 0 ≡ n = ap (λ j. get_or (set begun a n) j 0) (sym same) ∙ set_here begun a n long in
        subst (IsSince b (h ++ Began a u ∷ []) t) (sym kept) (subst (λ v. IsSince b (h ++ Began a u ∷ []) v n) u_is (since_begun h a u shape shaped b n n_is))
    | inr apart ↦
        let before : txn_in h c ≡ Some t = sym (ap (λ y. cond y (Some u) (txn_in h c)) (ne_eqb a c apart)) ∙ ap (λ f. f c) (sym (txn_in-push h (Began a u))) ∙ is in
        let kept : get_or (set begun a n) c 0 ≡ get_or begun c 0 = set_other begun a c n apart in
        subst (IsSince b (h ++ Began a u ∷ []) t) (sym kept) (since_stays b h (Began a u) shape shaped t (get_or begun c 0) (other c t before) (was c t below before))
  ]
    where
      other : (c t : ℕ) → txn_in h c ≡ Some t → IsNotBegun (Began a u) t
      other c t before d is =
          let same : u ≡ t = cc is in
          let old = (callers_of h shape).numbers c t before in
          let new = next_number h a u shaped in
          absurd (omega arith)

-- A transaction commits.
module _ (b : Bool) (h : List Entry) (shape : IsShaped h) (c p t : ℕ) (in_t : txn_in h c ≡ Some t) (shaped : is_shaped h (Committed c p) ≡ true) where
  abbrev after : List Entry
  after = h ++ Committed c p ∷ []

  more : commits after ≡ commits h ++ t ∷ []
  more = commits_more h shape c p t in_t shaped

  pub since_more : (since begun : List ℕ) → c < 64 → length since ≡ length (commits h) → HaveBegun b h begun → HaveSince b h since → HaveSince b (h ++ Committed c p ∷ []) (since ++ get_or begun c 0 ∷ [])
  since_more since begun below_c len begins was i below = elim (cases_lt i (length (commits h))) [
    | inl early ↦
        let name : get_or (commits h ++ t ∷ []) i 0 ≡ get_or (commits h) i 0 = get_left (commits h) t i early in
        let kept : since_in (since ++ get_or begun c 0 ∷ []) i ≡ since_in since i = get_left since (get_or begun c 0) i (omega arith) in
        subst (λ ts. IsSince b after (get_or ts i 0) (since_in (since ++ get_or begun c 0 ∷ []) i)) (sym more)
        (subst (λ u. IsSince b after u (since_in (since ++ get_or begun c 0 ∷ []) i)) (sym name)
        (subst (IsSince b after (get_or (commits h) i 0)) (sym kept)
        (committed_stays b h (Committed c p) shape shaped (get_or (commits h) i 0) (since_in since i) (in_names (commits h) i early) (was i early))))
    | inr late ↦
        let count : length (commits after) ≡ length (commits h) + 1 = ap length more ∙ length_push (commits h) t in
        let last : i ≡ length (commits h) = omega arith in
        let name : get_or (commits h ++ t ∷ []) i 0 ≡ t = get_last (commits h) t i last in
        let kept : since_in (since ++ get_or begun c 0 ∷ []) i ≡ get_or begun c 0 = get_last since (get_or begun c 0) i (omega arith) in
        subst (λ ts. IsSince b after (get_or ts i 0) (since_in (since ++ get_or begun c 0 ∷ []) i)) (sym more)
        (subst (λ u. IsSince b after u (since_in (since ++ get_or begun c 0 ∷ []) i)) (sym name)
        (subst (IsSince b after t) (sym kept)
        (since_stays b h (Committed c p) shape shaped t (get_or begun c 0) (λ d is. cc is) (begins c t below_c in_t))))
  ]

-- One more transaction is kept.
pub begun_more : (n m c : ℕ) (since begun : List ℕ) → m ≡ n + 1 → AreBegun n since begun → AreBegun m (since ++ get_or begun c 0 ∷ []) begun
begun_more n m c since begun m_is was = record {
  timing = record {
    len = length_push since (get_or begun c 0) ∙ ap (λ k. k + 1) was.timing.len ∙ sym m_is;
    early = λ u. elim (cases_lt u (length since)) [
      | inl front ↦ let kept = get_left since (get_or begun c 0) u front in let old = was.timing.early u in omega arith
      | inr late ↦ elim (cases_eq u (length since)) [
        | inl last ↦ let kept = get_last since (get_or begun c 0) u last in let within = was.within c in let len = was.timing.len in omega arith
        | inr past ↦ let none = past_zero (since ++ get_or begun c 0 ∷ []) u (let long = length_push since (get_or begun c 0) in omega arith) in omega arith
      ]
    ];
  };
  within = λ d. let old = was.within d in omega arith;
}

-- A caller's newest transaction begins.
pub begun_set : (n a k : ℕ) (since begun : List ℕ) → k ≤ n → AreBegun n since begun → AreBegun n since (set begun a k)
begun_set n a k since begun small was = record {
  timing = was.timing;
  within = λ c. elim (cases_eq a c) [
    | inl same ↦ at c same
    | inr apart ↦ let kept = set_other begun a c k apart in let old = was.within c in omega arith
  ];
}
  where
    at : (c : ℕ) → a ≡ c → get_or (set begun a k) c 0 ≤ n
    at c same = elim (cases_lt a (length begun)) [
      | inl long ↦ let kept = ap (λ j. get_or (set begun a k) j 0) (sym same) ∙ set_here begun a k long in omega arith
      | inr past ↦ let none = past_zero (set begun a k) c (let long = length-set begun a k in omega arith) in omega arith
    ]

pub begun_none : (since begun : List ℕ) (n : ℕ) → since ≡ [] → begun ≡ replicate n 0 → AreBegun 0 since begun
begun_none since begun n none zeros = record {
  timing = record { len = ap length none; early = λ u. let is = ap (λ xs. since_in xs u) none in omega arith };
  within = λ c. let is = ap (λ xs. get_or xs c 0) zeros in let zero_is = all_zero n c in omega arith;
}
  where
    all_zero : (n c : ℕ) → ◌≡◌ {A = ℕ} (get_or (replicate n 0) c 0) 0
    all_zero zero c = refl
    all_zero (suc n) zero = refl
    all_zero (suc n) (suc c) = all_zero n c

pub begun_anew : (b : Bool) (begun : List ℕ) → HaveBegun b [] begun
begun_anew b begun c t below is = absurd (cc is)
