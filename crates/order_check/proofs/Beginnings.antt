-- Shows that as many transactions are kept as had committed when a transaction began, because the
-- first commits stay the first, and no transaction begins twice.
use Rattle.std.proofs.Common.{◌≡◌, ℕ, ◌+◌, ◌<◌, ◌≤◌, Bool, true, false, cond, List, [], ◌∷◌, ◌++◌, length, None, refl, ap, sym, ◌∙◌, subst, arith, append_assoc}
use Rattle.std.specs.List.{cons_option}
use Rattle.std.proofs.lemmas.List.{append-nil, length-append}
use mathlib.Core.Logic.{inl, inr}
use mathlib.Core.List.{IsPrefix}
use Rattle.txn_words.specs.declared.entry.Entry.{Entry}
use Rattle.txn_words.specs.declared.entry.Entry.TheVariants.{Began}
use Rattle.txn_words.specs.Kinds.{is_began, is_commit}
use Rattle.txn_words.specs.Shape.{how_many, is_shaped, IsShaped}
use Rattle.txn_trace.specs.History.{commits}
use Rattle.txn_trace.proofs.BadEntries.{prefix_push, last_same}
use Rattle.txn_trace.proofs.Callers.{began_number, more, shaped_number}
use Rattle.txn_trace.proofs.Pushes.{how_many-push, txn_at}
use Rattle.txn_trace.proofs.Shaped.{callers_of}
use Rattle.order_check.specs.Lists.{IsIn, place}
use Rattle.order_check.specs.RealTime.{IsEarlier, IsEarlierIf}
use Rattle.order_check.specs.Serializable.{IsCommitted}
use Rattle.order_check.specs.Timing.{IsSince}
use Rattle.order_check.proofs.ByCommits.{commits_run, commits-push}
use Rattle.order_check.proofs.Numbers.{place_below}
use Rattle.order_check.proofs.Places.{in_left-place, place-append}

-- Who stands below the length of a list is in it.
pub below_in : (t : ℕ) (ts : List ℕ) → place t ts < length ts → IsIn t ts
below_in t ts below = in_left-place t ts [] (subst (λ us. place t us < length ts) (sym (append-nil ts)) below)

began_front : (g rest : List Entry) → how_many is_began g ≤ how_many is_began (g ++ rest)
began_front g [] = subst (λ h. how_many is_began g ≤ how_many is_began h) (sym (append-nil g)) (omega arith)
began_front g (e ∷ rest) =
    let one = more g e in
    let all = began_front (g ++ e ∷ []) rest in
    let whole : how_many is_began ((g ++ e ∷ []) ++ rest) ≡ how_many is_began (g ++ e ∷ rest) = ap (how_many is_began) (append_assoc g (e ∷ []) rest) in
    omega arith

-- A transaction that has begun has a number that was given.
pub number_given : (h g : List Entry) (c u : ℕ) → IsShaped h → IsPrefix (g ++ Began c u ∷ []) h → u ≤ how_many is_began h
number_given h g c u shape there =
    let number : u ≡ how_many is_began g + 1 = began_number g (Began c u) u refl (shaped_number g (Began c u) (shape g (Began c u) there)) refl in
    let one : how_many is_began (g ++ Began c u ∷ []) ≡ how_many is_began g + 1 = how_many-push is_began g (Began c u) in
    let all = began_front (g ++ Began c u ∷ []) there.0 in
    let whole : how_many is_began ((g ++ Began c u ∷ []) ++ there.0) ≡ how_many is_began h = ap (how_many is_began) there.1 in
    omega arith

-- A transaction that begins now has not begun before.
pub next_number : (h : List Entry) (c u : ℕ) → is_shaped h (Began c u) ≡ true → u ≡ how_many is_began h + 1
next_number h c u shaped = began_number h (Began c u) u refl (shaped_number h (Began c u) shaped) refl

-- What was earlier stays so.
earlier_more : (b : Bool) (h : List Entry) (e : Entry) (t u : ℕ) → IsEarlierIf b h t u → IsEarlierIf b (h ++ e ∷ []) t u
earlier_more false h e t u is = is
earlier_more true h e t u is = record {
  before = is.before;
  caller = is.caller;
  there = (is.there.0 ++ e ∷ [], sym (append_assoc (is.before ++ Began is.caller u ∷ []) is.there.0 (e ∷ [])) ∙ ap (λ es. es ++ e ∷ []) is.there.1);
  committed = is.committed;
}

-- The entry does not begin the transaction.
abbrev pub IsNotBegun : Entry → ℕ → Type 0
IsNotBegun e u = (c : ℕ) → e ≡ Began c u → ⊥

earlier_back : (b : Bool) (h : List Entry) (e : Entry) (t u : ℕ) → IsNotBegun e u → IsEarlierIf b (h ++ e ∷ []) t u → IsEarlierIf b h t u
earlier_back false h e t u other is = is
earlier_back true h e t u other is = elim (prefix_push (is.before ++ Began is.caller u ∷ []) h e is.there) [
  | inl front ↦ record { before = is.before; caller = is.caller; there = front; committed = is.committed }
  | inr whole ↦ absurd (other is.caller (sym (last_same is.before h (Began is.caller u) e whole).1))
]

module _ (b : Bool) (h : List Entry) (e : Entry) (shape : IsShaped h) (shaped : is_shaped h e ≡ true) where
  abbrev now : List Entry
  now = h ++ e ∷ []

  pub added : List ℕ
  added = cons_option (cond (is_commit e) (txn_at h e) None) []

  pub commits_now : commits now ≡ commits h ++ added
  unfolding added
  commits_now = commits-push h e shape (callers_of h shape) shaped (commits_run h shape)

  -- The first commits stay the first.
  pub since_stays : (u n : ℕ) → IsNotBegun e u → IsSince b h u n → IsSince b now u n
  since_stays u n other was = record {
    below = let longer = length-append (commits h) added in let same = ap length commits_now in let under = was.below in omega arith;
    to = λ t is.
        let before = was.to t (earlier_back b h e t u other is) in
        let under = was.below in
        let there : IsIn t (commits h) = below_in t (commits h) (omega arith) in
        let same : place t (commits now) ≡ place t (commits h) = ap (place t) commits_now ∙ place-append t (commits h) added there in
        omega arith;
    from = λ t before.
        let moved : place t (commits h ++ added) < n = subst (λ ts. place t ts < n) commits_now before in
        let under = was.below in
        let there : IsIn t (commits h) = in_left-place t (commits h) added (omega arith) in
        let same : place t (commits h ++ added) ≡ place t (commits h) = place-append t (commits h) added there in
        earlier_more b h e t u (was.from t (omega arith));
  }

-- A transaction begins: all that are committed had committed then.
module _ (h : List Entry) (c u : ℕ) (shape : IsShaped h) (shaped : is_shaped h (Began c u) ≡ true) where
  same_commits : commits (h ++ Began c u ∷ []) ≡ commits h
  same_commits = commits-push h (Began c u) shape (callers_of h shape) shaped (commits_run h shape) ∙ append-nil (commits h)

  not_yet : (t : ℕ) → IsEarlier h t u → ⊥
  not_yet t is =
      let given = number_given h is.before is.caller u shape is.there in
      let next = next_number h c u shaped in
      absurd (omega arith)

  since_true : IsSince true (h ++ Began c u ∷ []) u (length (commits h))
  since_true = record {
    below = let same = ap length same_commits in omega arith;
    to = λ t is. elim (prefix_push (is.before ++ Began is.caller u ∷ []) h (Began c u) is.there) [
      | inl front ↦ absurd (not_yet t (record { before = is.before; caller = is.caller; there = front; committed = is.committed }))
      | inr whole ↦
          let all : IsCommitted h t = subst (λ g. IsCommitted g t) (last_same is.before h (Began is.caller u) (Began c u) whole).0 is.committed in
          subst (λ ts. place t ts < length (commits h)) (sym same_commits) (place_below (commits h) t all)
    ];
    from = λ t before. record {
      before = h;
      caller = c;
      there = ([], append-nil (h ++ Began c u ∷ []));
      committed = below_in t (commits h) (subst (λ ts. place t ts < length (commits h)) same_commits before);
    };
  }

  pub since_begun : (b : Bool) (n : ℕ) → n ≡ cond b (length (commits h)) 0 → IsSince b (h ++ Began c u ∷ []) u n
  since_begun true n is = subst (IsSince true (h ++ Began c u ∷ []) u) (sym is) since_true
  since_begun false n is = record {
    below = omega arith;
    to = λ t never. absurd never;
    from = λ t before. absurd (omega arith);
  }
