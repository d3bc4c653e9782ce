-- The properties of callers (`Callers`) still hold after each entry of the right shape. A
-- transaction that has ended gets no more entries.
use Rattle.std.proofs.Common.{[], ◌≡◌, ℕ, true, false, List, ◌∷◌, ◌++◌, refl, ap, sym, subst, ◌∙◌, Some, arith, append_assoc}
use Rattle.std.specs.Option.{option_and_then}
use Rattle.std.specs.List.{AllByRecursion}
use Rattle.std.proofs.lemmas.Bool.{false≢true, or_left}
use Rattle.std.proofs.lemmas.List.{append-nil}
use mathlib.Core.List.{IsPrefix}
use mathlib.Core.Logic.{◌⊎◌, inl, inr}
use Rattle.txn_words.specs.declared.entry.Entry.{Entry}
use Rattle.txn_trace.specs.History.{Line, lines_of, of, ends_in, is_committed, is_aborted}
use Rattle.txn_words.specs.Kinds.{caller_of}
use Rattle.txn_words.specs.Shape.{row, stance_after, closed_stance, own, is_shaped, IsShaped}
use Rattle.txn_trace.specs.Legal.{is_running}
use Rattle.txn_trace.proofs.Pushes.{txn_in, txn_at, lines_of-push, txn_in-push, of-push_in, of-push_out, ends_in-push, stance_after-push, own-push_in, own-push_out}
use Rattle.txn_trace.proofs.Callers.{is_end, ended, ends_either, IsOwned, Callers, callers_none, at_is, after_is, began_number, not_began_is, in_or_out, more, shaped_stance, shaped_number, began_or_not, number_in, not_after_end, end_closes, other_runs, began_was_closed, not_equal, txn_stays, ByRecursion-append}

module _ (g : List Entry) (e : Entry) (callers : Callers g) (shaped : is_shaped g e ≡ true) where
  pub ended_in : (t : ℕ) → txn_at g e ≡ Some t → ended t (g ++ e ∷ []) ≡ is_end e
  ended_in t at = ap (ends_in is_end) (of-push_in t g e at) ∙ ends_in-push is_end (of t g) e

  pub ended_out : (t : ℕ) → (txn_at g e ≡ Some t → ⊥) → ended t (g ++ e ∷ []) ≡ ended t g
  ended_out t out = ap (ends_in is_end) (of-push_out t g e out)

  -- Two facts about one more entry. If a transaction has ended, its entries stay the same. If a
  -- transaction is open after the entry, it was not ended before.
  pub ended_stays : (t : ℕ) → ended t g ≡ true → of t (g ++ e ∷ []) ≡ of t g
  ended_stays t done = of-push_out t g e (not_after_end g e t callers shaped done)

  pub not_ended_before : (t : ℕ) → ended t (g ++ e ∷ []) ≡ false → ended t g ≡ false
  not_ended_before t is = elim (ended t g) as (λ b. ended t g ≡ b → b ≡ false) [
    | true ↦ λ done. absurd (false≢true (sym is ∙ ap (ends_in is_end) (ended_stays t done) ∙ done))
    | false ↦ λ k. refl
  ] refl

  pub step : (c t : ℕ) → txn_in (g ++ e ∷ []) c ≡ Some t → ((c ≡ caller_of e) × (txn_at g e ≡ Some t)) ⊎ ((c ≡ caller_of e → ⊥) × (txn_in g c ≡ Some t))
  step c t is = after_is g e c t (subst (λ f. f c ≡ Some t) (txn_in-push g e) is)

  pub same : (d t : ℕ) → txn_at g e ≡ Some t → txn_in g d ≡ Some t → caller_of e ≡ d
  same d t at js = elim (began_or_not e) [
    | inl b ↦
        let n = began_number g e t b (shaped_number g e shaped) (at_is g e t at) in
        let m = callers.numbers d t js in
        absurd (omega arith)
    | inr b ↦ callers.one (caller_of e) d t (not_began_is g e t b (at_is g e t at)) js
  ]

  pub stance_of_mine : (c : ℕ) → c ≡ caller_of e → stance_after (own c (g ++ e ∷ [])) ≡ option_and_then (λ s. row s s.phase e) (stance_after (own (caller_of e) g))
  stance_of_mine c mine = ap (λ x. stance_after (own x (g ++ e ∷ []))) mine ∙ ap stance_after (own-push_in (caller_of e) g e refl) ∙ stance_after-push (own (caller_of e) g) e

  pub stance_of_other : (c : ℕ) → (c ≡ caller_of e → ⊥) → stance_after (own c (g ++ e ∷ [])) ≡ stance_after (own c g)
  stance_of_other c other = ap stance_after (own-push_out c g e (not_equal c (caller_of e) other))

  -- After the entry, a caller whose transaction has ended is closed, and a caller whose transaction
  -- has not ended runs.
  closed_push : (c t : ℕ) → txn_in (g ++ e ∷ []) c ≡ Some t → ended t (g ++ e ∷ []) ≡ true → stance_after (own c (g ++ e ∷ [])) ≡ Some closed_stance
  closed_push c t is done = elim (in_or_out (txn_at g e) t) [
    | inl at ↦
        let ends : is_end e ≡ true = sym (ended_in t at) ∙ done in
        let mine : c ≡ caller_of e = elim (step c t is) [ inl w ↦ w.0 | inr w ↦ sym (same c t at w.1) ] in
        stance_of_mine c mine ∙ end_closes e (stance_after (own (caller_of e) g)) ends (shaped_stance g e shaped)
    | inr out ↦ elim (step c t is) [
      | inl w ↦ absurd (out w.1)
      | inr w ↦ stance_of_other c w.0 ∙ callers.closed c t w.1 (sym (ended_out t out) ∙ done)
    ]
  ]

  running_push : (c t : ℕ) → txn_in (g ++ e ∷ []) c ≡ Some t → ended t (g ++ e ∷ []) ≡ false → is_running (stance_after (own c (g ++ e ∷ []))) ≡ true
  running_push c t is not_done = elim (in_or_out (txn_at g e) t) [
    | inl at ↦
        let goes : is_end e ≡ false = sym (ended_in t at) ∙ not_done in
        let mine : c ≡ caller_of e = elim (step c t is) [ inl w ↦ w.0 | inr w ↦ sym (same c t at w.1) ] in
        ap is_running (stance_of_mine c mine) ∙ other_runs e (stance_after (own (caller_of e) g)) goes (shaped_stance g e shaped)
    | inr out ↦ elim (step c t is) [
      | inl w ↦ absurd (out w.1)
      | inr w ↦ ap is_running (stance_of_other c w.0) ∙ callers.running c t w.1 (not_ended_before t not_done)
    ]
  ]

  owned_push : (line : Line) → IsOwned g line → IsOwned (g ++ e ∷ []) line
  owned_push line is t txn not_done =
      let before : ended t g ≡ false = not_ended_before t not_done in
      let in_it = is t txn before in
      txn_stays g e (caller_of line.entry) t (λ b mine. false≢true (
      sym (began_was_closed e (stance_after (own (caller_of e) g)) b (shaped_stance g e shaped))
      ∙ sym (ap (λ x. is_running (stance_after (own x g))) mine) ∙ callers.running (caller_of line.entry) t in_it before)) in_it

  owned_last : IsOwned (g ++ e ∷ []) (record { txn = txn_at g e; entry = e })
  owned_last t txn not_done = ap (λ f. f (caller_of e)) (txn_in-push g e) ∙ txn

  pub callers_push : Callers (g ++ e ∷ [])
  callers_push = record {
    numbers = λ c t is. elim (step c t is) [
      | inl w ↦ number_in g e t callers shaped w.1
      | inr w ↦ let n = callers.numbers c t w.1 in omega (arith, more g e)
    ];
    ended_numbers = λ t is. elim (in_or_out (txn_at g e) t) [
      | inl at ↦ number_in g e t callers shaped at
      | inr out ↦ let n = callers.ended_numbers t (sym (ended_out t out) ∙ is) in omega (arith, more g e)
    ];
    one = λ c d t is js. elim (step c t is) [
      | inl w ↦ elim (step d t js) [
        | inl v ↦ w.0 ∙ sym v.0
        | inr v ↦ w.0 ∙ same d t w.1 v.1
      ]
      | inr w ↦ elim (step d t js) [
        | inl v ↦ sym (v.0 ∙ same c t v.1 w.1)
        | inr v ↦ callers.one c d t w.1 v.1
      ]
    ];
    closed = closed_push;
    running = running_push;
    owned = subst (AllByRecursion (IsOwned (g ++ e ∷ []))) (sym (lines_of-push g e)) (ByRecursion-append (IsOwned g) (IsOwned (g ++ e ∷ [])) owned_push (lines_of g) _ callers.owned (owned_last, tt));
  }

pub first_of_rest : (g rest : List Entry) (e : Entry) → IsShaped (g ++ e ∷ rest) → is_shaped g e ≡ true
first_of_rest g rest e shape = shape g e (rest, append_assoc g (e ∷ []) rest)

pub callers_all : (g rest : List Entry) → Callers g → IsShaped (g ++ rest) → Callers (g ++ rest)
callers_all g [] callers shape = subst Callers (sym (append-nil g)) callers
callers_all g (e ∷ rest) callers shape =
    subst Callers (append_assoc g (e ∷ []) rest)
    (callers_all (g ++ e ∷ []) rest (callers_push g e callers (first_of_rest g rest e shape)) (subst IsShaped (sym (append_assoc g (e ∷ []) rest)) shape))

pub callers_of : (h : List Entry) → IsShaped h → Callers h
callers_of h shape = callers_all [] h callers_none shape

-- A transaction that has ended gets no more entries.
pub ended_whole : (t : ℕ) (g rest : List Entry) → Callers g → IsShaped (g ++ rest) → ended t g ≡ true → of t (g ++ rest) ≡ of t g
ended_whole t g [] callers shape done = ap (of t) (append-nil g)
ended_whole t g (e ∷ rest) callers shape done =
    let shaped = first_of_rest g rest e shape in
    let out : of t (g ++ e ∷ []) ≡ of t g = ended_stays g e callers shaped t done in
    ap (of t) (sym (append_assoc g (e ∷ []) rest))
    ∙ ended_whole t (g ++ e ∷ []) rest (callers_push g e callers shaped) (subst IsShaped (sym (append_assoc g (e ∷ []) rest)) shape) (ap (ends_in is_end) out ∙ done)
    ∙ out

-- A prefix of a history of the right shape has the right shape.
pub shape_front : (h g : List Entry) → IsShaped h → IsPrefix g h → IsShaped g
shape_front h g shape p k e q = shape k e (q.0 ++ p.0, sym (append_assoc (k ++ e ∷ []) q.0 p.0) ∙ ap (λ w. w ++ p.0) q.1 ∙ p.1)

pub committed_ended : (t : ℕ) (g : List Entry) → is_committed t g ≡ true → ended t g ≡ true
committed_ended t g is = ends_either (of t g) false false ∙ or_left (is_committed t g) (is_aborted t g) is
