-- How one more entry changes what is computed from a history: its lines, its transactions, its runs
-- and its stances.
use Rattle.std.proofs.Common.{◌≡◌, ℕ, ◌+◌, Bool, true, false, cond, ◌==◌, List, [], ◌∷◌, ◌++◌, map, length, refl, ap, ◌∙◌, Some, None, Option, length-append}
use Rattle.std.specs.Option.{option_eq, option_and_then}
use Rattle.std.specs.List.{filter, fold}
use Rattle.std.specs.Prelude.{nat_eq}
use Rattle.std.proofs.lemmas.Bool.{false≢true, eqb-true, eq-eqb}
use Rattle.std.proofs.lemmas.List.{append-nil, map-append}
use Rattle.std.proofs.lemmas.List.Elements.{filter-append}
use Rattle.std.proofs.lemmas.List.Sums.{fold-append}
use Rattle.txn_words.specs.declared.entry.Entry.{Entry}
use Rattle.txn_words.specs.Map.{Map}
use Rattle.txn_trace.specs.History.{Line, txn_after, lines_from, lines_of, is_of, of, ends_in}
use Rattle.txn_words.specs.Kinds.{caller_of}
use Rattle.txn_trace.specs.Alone.{act, alone}
use Rattle.txn_words.specs.Shape.{row, stance_after, own, how_many}
use Rattle.txn_trace.proofs.Lists.{map_one}

abbrev pub no_txn : ℕ → Option ℕ
no_txn c = None

-- The transaction that each caller is in after the history.
abbrev pub txn_in : List Entry → ℕ → Option ℕ
txn_in h = fold txn_after no_txn h

-- The transaction of an entry that follows g.
abbrev pub txn_at : List Entry → Entry → Option ℕ
txn_at g e = txn_after (txn_in g) e (caller_of e)

lines_from-append : (before : ℕ → Option ℕ) (g h : List Entry) → lines_from before (g ++ h) ≡ lines_from before g ++ lines_from (fold txn_after before g) h
lines_from-append before [] h = refl
lines_from-append before (e ∷ g) h = ap (λ ls. record { txn = txn_after before e (caller_of e); entry = e } ∷ ls) (lines_from-append (txn_after before e) g h)

pub lines_of-push : (g : List Entry) (e : Entry) → lines_of (g ++ e ∷ []) ≡ lines_of g ++ record { txn = txn_at g e; entry = e } ∷ []
lines_of-push g e = lines_from-append no_txn g (e ∷ [])

pub txn_in-push : (g : List Entry) (e : Entry) → txn_in (g ++ e ∷ []) ≡ txn_after (txn_in g) e
txn_in-push g e = fold-append txn_after no_txn g (e ∷ [])

pub of-push : (t : ℕ) (g : List Entry) (e : Entry) → of t (g ++ e ∷ []) ≡ of t g ++ cond (option_eq nat_eq (txn_at g e) (Some t)) (e ∷ []) []
of-push t g e =
    let f : Line → Entry = λ l. l.entry in
    ap (λ ls. map f (filter (is_of t) ls)) (lines_of-push g e)
    ∙ ap (map f) (filter-append (is_of t) (lines_of g) _)
    ∙ map-append f (filter (is_of t) (lines_of g)) _
    ∙ ap (λ es. of t g ++ es) (map_one f (option_eq nat_eq (txn_at g e) (Some t)) (record { txn = txn_at g e; entry = e }))

some_itself : (t : ℕ) (o : Option ℕ) → o ≡ Some t → option_eq nat_eq o (Some t) ≡ true
some_itself t o is = ap (λ p. option_eq nat_eq p (Some t)) is ∙ eq-eqb t t refl

some_other : (t : ℕ) (o : Option ℕ) → (o ≡ Some t → ⊥) → option_eq nat_eq o (Some t) ≡ false
some_other t None apart = refl
some_other t (Some u) apart = elim (nat_eq u t) as (λ b. nat_eq u t ≡ b → b ≡ false) [ true ↦ λ is. absurd (apart (ap Some (eqb-true u t is))) | false ↦ λ is. refl ] refl

pub of_is : (t : ℕ) (o : Option ℕ) → option_eq nat_eq o (Some t) ≡ true → o ≡ Some t
of_is t None is = absurd (false≢true is)
of_is t (Some u) is = ap Some (eqb-true u t is)

-- One more entry is added to the entries of its transaction. The entries of every other transaction
-- are unchanged.
pub of-push_in : (t : ℕ) (g : List Entry) (e : Entry) → txn_at g e ≡ Some t → of t (g ++ e ∷ []) ≡ of t g ++ e ∷ []
of-push_in t g e is = of-push t g e ∙ ap (λ b. of t g ++ cond b (e ∷ []) []) (some_itself t _ is)

pub of-push_out : (t : ℕ) (g : List Entry) (e : Entry) → (txn_at g e ≡ Some t → ⊥) → of t (g ++ e ∷ []) ≡ of t g
of-push_out t g e apart = of-push t g e ∙ ap (λ b. of t g ++ cond b (e ∷ []) []) (some_other t _ apart) ∙ append-nil (of t g)

pub ends_in-push : (test : Entry → Bool) (es : List Entry) (e : Entry) → ends_in test (es ++ e ∷ []) ≡ test e
ends_in-push test es e = fold-append (λ x f. test f) false es (e ∷ [])

pub alone-push : (m : Map) (es : List Entry) (e : Entry) → alone m (es ++ e ∷ []) ≡ option_and_then (λ r. act r e) (alone m es)
alone-push m es e = fold-append (λ run f. option_and_then (λ r. act r f) run) _ es (e ∷ [])

pub stance_after-push : (es : List Entry) (e : Entry) → stance_after (es ++ e ∷ []) ≡ option_and_then (λ s. row s s.phase e) (stance_after es)
stance_after-push es e = fold-append (λ stance f. option_and_then (λ s. row s s.phase f) stance) _ es (e ∷ [])

pub own-push_in : (c : ℕ) (g : List Entry) (e : Entry) → caller_of e ≡ c → own c (g ++ e ∷ []) ≡ own c g ++ e ∷ []
own-push_in c g e is = filter-append (λ f. caller_of f == c) g (e ∷ []) ∙ ap (λ b. own c g ++ cond b (e ∷ []) []) (eq-eqb (caller_of e) c is)

pub own-push_out : (c : ℕ) (g : List Entry) (e : Entry) → (caller_of e == c) ≡ false → own c (g ++ e ∷ []) ≡ own c g
own-push_out c g e apart = filter-append (λ f. caller_of f == c) g (e ∷ []) ∙ ap (λ b. own c g ++ cond b (e ∷ []) []) apart ∙ append-nil (own c g)

pub how_many-push : (test : Entry → Bool) (g : List Entry) (e : Entry) → how_many test (g ++ e ∷ []) ≡ how_many test g + cond (test e) 1 0
how_many-push test g e =
    ap length (filter-append test g (e ∷ [])) ∙ length-append (filter test g) (filter test (e ∷ [])) ∙ ap (λ n. how_many test g + n) (one (test e))
  where
    one : (b : Bool) → length (cond b (e ∷ []) []) ≡ cond b 1 0
    one true = refl
    one false = refl
