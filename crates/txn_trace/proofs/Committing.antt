-- The entries of a committed transaction can be found in its caller's own entries alone.
use Rattle.std.proofs.Common.{◌≡◌, ℕ, ◌+◌, ◌==◌, Bool, true, false, cond, List, [], ◌∷◌, ◌++◌, append_assoc, Some, None, Option, is_some, IsSome, refl, sym, ap, subst, ◌∙◌, inl, inr}
use Rattle.std.specs.List.{filter}
use Rattle.std.specs.Option.{option_and_then}
use Rattle.std.proofs.lemmas.Bool.{false≢true, eqb-true, eq-eqb, ne_eqb, cases_eq}
use Rattle.std.proofs.lemmas.List.{append-nil}
use mathlib.Core.List.{IsPrefix}
use Rattle.txn_words.specs.declared.entry.Entry.{Entry}
use Rattle.txn_words.specs.declared.entry.Entry.TheVariants.{Began, Committed}
use Rattle.txn_trace.specs.History.{txn_after, of}
use Rattle.txn_words.specs.Kinds.{caller_of, is_began, is_commit}
use Rattle.txn_trace.specs.Alone.{AloneRun, act, alone}
use Rattle.txn_trace.specs.Serial.{serial}
use Rattle.txn_trace.specs.Replies.{RepliesHold}
use Rattle.txn_words.specs.Shape.{own, how_many, is_shaped, IsShaped}
use Rattle.txn_trace.proofs.Pushes.{txn_in, txn_at, txn_in-push, of-push_in, of-push_out, alone-push}
use Rattle.txn_trace.proofs.Callers.{Callers, ended, txn_stays, shaped_number, not_after_end}
use Rattle.txn_trace.proofs.Shaped.{callers_of, callers_push, first_of_rest, ended_in, ended_whole, shape_front, same as one_caller}
use Rattle.txn_trace.proofs.StanceRuns.{none_before, have_stances}
use Rattle.txn_trace.proofs.Now.{open_going}

-- Transaction `txn` of caller `c` has committed, with the number `place` in the commit order. Its
-- entries are `part`. If they run alone on the map of the transactions that committed before `txn`,
-- all their replies are right.
pub record HasCommitted (c txn place : ℕ) (part h : List Entry) : Type 0 where
  pub whole : of txn h ≡ part
  pub before : List Entry
  pub there : IsPrefix (before ++ Committed c place ∷ []) h
  pub number : place ≡ how_many is_commit before + 1
  pub replied : IsSome (alone (serial before) part)

-- The list `h` is cut at its element `x`. The elements before `x` that pass the test are `xs`, and
-- the elements after `x` that pass the test are `ys`.
abbrev IsCut : {X : Type 0} → (X → Bool) → List X → List X → X → List X → Type 0
IsCut {X} p h xs x ys = (g : List X) × (rest : List X) × (h ≡ g ++ x ∷ rest) × (filter p g ≡ xs) × (filter p rest ≡ ys)

cut : {X : Type 0} (p : X → Bool) (h xs : List X) (x : X) (ys : List X) → filter p h ≡ xs ++ x ∷ ys → IsCut p h xs x ys
cut p [] [] x ys is = absurd (cc is)
cut p [] (z ∷ xs) x ys is = absurd (cc is)
cut p (y ∷ h) xs x ys is =
    (elim (p y) as (λ b. p y ≡ b → cond b (y ∷ filter p h) (filter p h) ≡ xs ++ x ∷ ys → IsCut p (y ∷ h) xs x ys) [
      | true ↦ λ passes here. at xs (λ zs. cut p h zs x ys) passes here
      | false ↦ λ fails here.
          let (g, rest, h_is, front, back) = cut p h xs x ys here in
          (y ∷ g, rest, ap (λ zs. y ∷ zs) h_is, ap (λ b. cond b (y ∷ filter p g) (filter p g)) fails ∙ front, back)
    ]) refl is
  where
    at : (xs : List _) → ((zs : List _) → filter p h ≡ zs ++ x ∷ ys → IsCut p h zs x ys) → p y ≡ true → y ∷ filter p h ≡ xs ++ x ∷ ys → IsCut p (y ∷ h) xs x ys
    at [] shorter passes here =
        let first : y ≡ x = cc here in
        let others : filter p h ≡ ys = cc here in
        ([], h, ap (λ z. z ∷ h) first, refl, others)
    at (z ∷ xs) shorter passes here =
        let first : y ≡ z = cc here in
        let (g, rest, h_is, front, back) = shorter xs (cc here) in
        (y ∷ g, rest, ap (λ zs. y ∷ zs) h_is, ap (λ b. cond b (y ∷ filter p g) (filter p g)) passes ∙ (λ i. first i ∷ front i), back)

begins_not : (e : Entry) (es : List Entry) → filter is_began (e ∷ es) ≡ [] → (is_began e ≡ false) × (filter is_began es ≡ [])
begins_not e es =
    elim (is_began e) as (λ b. cond b (e ∷ filter is_began es) (filter is_began es) ≡ [] → (b ≡ false) × (filter is_began es ≡ [])) [
      | true ↦ λ some. absurd (cc some)
      | false ↦ λ none. (refl, none)
    ]

-- While a caller begins no other transaction, its new entries belong to the transaction that it is
-- in.
pub own_goes : (c t : ℕ) (g rest : List Entry) → Callers g → IsShaped (g ++ rest) → txn_in g c ≡ Some t → filter is_began (own c rest) ≡ []
    → (of t (g ++ rest) ≡ of t g ++ own c rest) × (txn_in (g ++ rest) c ≡ Some t)
own_goes c t g [] callers shape in_it quiet = (ap (of t) (append-nil g) ∙ sym (append-nil (of t g)), ap (λ h. txn_in h c) (append-nil g) ∙ in_it)
own_goes c t g (e ∷ rest) callers shape in_it quiet =
    let shaped = first_of_rest g rest e shape in
    let assoc = append_assoc g (e ∷ []) rest in
    let goes = own_goes c t (g ++ e ∷ []) rest (callers_push g e callers shaped) (subst IsShaped (sym assoc) shape) in
    elim (cases_eq (caller_of e) c) [
      | inl mine ↦
          let own_is : own c (e ∷ rest) ≡ e ∷ own c rest = ap (λ b. cond b (e ∷ own c rest) (own c rest)) (eq-eqb (caller_of e) c mine) in
          let (not_began, none) = begins_not e (own c rest) (ap (filter is_began) (sym own_is) ∙ quiet) in
          let stays = txn_stays g e c t (λ began same. false≢true (sym not_began ∙ began)) in_it in
          let at : txn_at g e ≡ Some t = ap (λ d. txn_after (txn_in g) e d) mine ∙ sym (ap (λ f. f c) (txn_in-push g e)) ∙ stays in
          let (of_is, in_is) = goes stays none in
          (ap (of t) (sym assoc) ∙ of_is ∙ ap (λ es. es ++ own c rest) (of-push_in t g e at) ∙ append_assoc (of t g) (e ∷ []) (own c rest) ∙ ap (λ es. of t g ++ es) (sym own_is), ap (λ h. txn_in h c) (sym assoc) ∙ in_is)
      | inr other ↦
          let own_is : own c (e ∷ rest) ≡ own c rest = ap (λ b. cond b (e ∷ own c rest) (own c rest)) (ne_eqb (caller_of e) c other) in
          let stays = txn_stays g e c t (λ began same. other (sym same)) in_it in
          let (of_is, in_is) = goes stays (ap (filter is_began) (sym own_is) ∙ quiet) in
          let out : of t (g ++ e ∷ []) ≡ of t g = of-push_out t g e (λ at. other (one_caller g e callers shaped c t at in_it)) in
          (ap (of t) (sym assoc) ∙ of_is ∙ ap (λ es. es ++ own c rest) out ∙ ap (λ es. of t g ++ es) (sym own_is), ap (λ h. txn_in h c) (sym assoc) ∙ in_is)
    ]

-- If a run is not None, the run after the entry `Committed` is not None either.
pub commits_so : (c p : ℕ) (o : Option AloneRun) → is_some o ≡ true → is_some (option_and_then (λ r. act r (Committed c p)) o) ≡ true
commits_so c p None some = some
commits_so c p (Some r) some = refl

-- Take a part of a caller's own entries that starts with a `Began`, ends with a `Committed` and has
-- no other `Began`. This part has exactly the entries of a committed transaction.
pub has_committed : (c txn place : ℕ) (h front inner later : List Entry) → IsShaped h → RepliesHold h
    → own c h ≡ front ++ ((Began c txn ∷ inner ++ Committed c place ∷ []) ++ later) → filter is_began inner ≡ [] → HasCommitted c txn place (Began c txn ∷ inner ++ Committed c place ∷ []) h
has_committed c txn place h front inner later shape replies own_is quiet =
    let begin : Entry = Began c txn in
    let end : Entry = Committed c place in
    let (g, after, h_is, front_is, after_is) = cut (λ e. caller_of e == c) h front begin ((inner ++ end ∷ []) ++ later) own_is in
    let (k, rest, after_cut, inner_is, later_is) = cut (λ e. caller_of e == c) after inner end later (after_is ∙ append_assoc inner (end ∷ []) later) in
    let begun : List Entry = g ++ begin ∷ [] in
    let before : List Entry = begun ++ k in
    let whole_is : (before ++ end ∷ []) ++ rest ≡ h =
    append_assoc before (end ∷ []) rest ∙ append_assoc begun k (end ∷ rest) ∙ append_assoc g (begin ∷ []) (k ++ end ∷ rest) ∙ ap (λ es. g ++ begin ∷ es) (sym after_cut) ∙ sym h_is in
    let longer : IsShaped ((before ++ end ∷ []) ++ rest) = subst IsShaped (sym whole_is) shape in
    let shape_end : IsShaped (before ++ end ∷ []) = shape_front h (before ++ end ∷ []) shape (rest, whole_is) in
    let shape_before : IsShaped before = shape_front (before ++ end ∷ []) before shape_end (end ∷ [], refl) in
    let shape_begun : IsShaped begun = shape_front before begun shape_before (k, refl) in
    let shape_g : IsShaped g = shape_front begun g shape_begun (begin ∷ [], refl) in
    let starts : is_shaped g begin ≡ true = first_of_rest g [] begin shape_begun in
    let ends : is_shaped before end ≡ true = first_of_rest before [] end shape_end in
    let callers : Callers before = callers_of before shape_before in
    let began_at : txn_at g begin ≡ Some txn = ap (λ b. cond b (Some txn) (txn_in g c)) (eq-eqb c c refl) in
    let first : of txn begun ≡ begin ∷ [] = of-push_in txn g begin began_at ∙ ap (λ es. es ++ begin ∷ []) (none_before g begin (callers_of g shape_g) starts (have_stances g shape_g) txn refl began_at) in
    let (of_is, in_it) = own_goes c txn begun k (callers_of begun shape_begun) shape_before (ap (λ f. f c) (txn_in-push g begin) ∙ began_at) (ap (filter is_began) inner_is ∙ quiet) in
    let so_far : of txn before ≡ begin ∷ inner = of_is ∙ (λ i. first i ++ inner_is i) in
    let all : of txn (before ++ end ∷ []) ≡ begin ∷ inner ++ end ∷ [] = of-push_in txn before end in_it ∙ ap (λ es. es ++ end ∷ []) so_far in
    let going : ended txn before ≡ false = not_true (ended txn before) (λ done. not_after_end before end txn callers ends done in_it) in
    record {
      whole = ap (of txn) (sym whole_is) ∙ ended_whole txn (before ++ end ∷ []) rest (callers_of (before ++ end ∷ []) shape_end) longer (ended_in before end callers ends txn in_it) ∙ all;
      before = before;
      there = (rest, whole_is);
      number = eqb-true place (how_many is_commit before + 1) (shaped_number before end ends);
      replied =
          ap is_some (ap (alone (serial before)) (ap (λ es. es ++ end ∷ []) (sym so_far)) ∙ alone-push (serial before) (of txn before) end)
          ∙ commits_so c place (alone (serial before) (of txn before)) (replies before (end ∷ rest, sym (append_assoc before (end ∷ []) rest) ∙ whole_is) txn (open_going txn before going));
    }
  where
    not_true : (b : Bool) → (b ≡ true → ⊥) → b ≡ false
    not_true true never = absurd (never refl)
    not_true false never = refl
