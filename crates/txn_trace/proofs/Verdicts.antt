-- The first bad entry of a history, and the counts of a verdict.
use Rattle.std.proofs.Common.{◌≡◌, ℕ, suc, ◌+◌, List, [], ◌∷◌, ◌++◌, length, refl, ap, sym, subst, ◌∙◌, Some, None, Option, arith, append_assoc, length-append}
use Rattle.std.proofs.lemmas.List.{append-nil}
use Rattle.std.specs.Prelude.{◌↔◌}
use mathlib.Core.Logic.{◌⊎◌, inl, inr}
use Rattle.txn_words.specs.declared.entry.Entry.{Entry}
use Rattle.txn_words.specs.declared.holder.Holder.{Holder}
use Rattle.txn_words.specs.Kinds.{is_commit}
use Rattle.txn_words.specs.Shape.{how_many}
use Rattle.txn_trace.specs.Legal.{IsLegal, broken, first_bad, first_bad_by, callers_in, running, Legal, Illegal, verdict, verdict_by}
use Rattle.txn_trace.proofs.BadEntries.{legal_iff, legal_from, legal_none, none_bad}

-- Entry `i` is the first bad entry. The entries before it are a legal history. After this history,
-- entry `i` breaks the rule with the number `rule`.
pub record IsFirstBad (holder : Holder) (stripes : ℕ) (h : List Entry) (i rule : ℕ) : Type 0 where
  pub front : List Entry
  pub entry : Entry
  pub back : List Entry
  pub is : h ≡ front ++ entry ∷ back
  pub index : i ≡ length front
  pub legal : IsLegal holder stripes front
  pub breaks : broken holder stripes front entry ≡ Some rule

legal_after : {holder : Holder} (stripes : ℕ) (g : List Entry) (e : Entry) → IsLegal holder stripes g → broken holder stripes g e ≡ None → IsLegal holder stripes (g ++ e ∷ [])
legal_after stripes g e legal fine = legal_from stripes g (e ∷ []) 0 legal (rw (fine, first_bad, first_bad_by) refl)

same_pair : (j r i rule : ℕ) → ◌≡◌ {A = Option (ℕ × ℕ)} (Some (j, r)) (Some (i, rule)) → (j ≡ i) × (r ≡ rule)
same_pair j r i rule is = let pair : ◌≡◌ {A = ℕ × ℕ} (j, r) (i, rule) = cc (is) in (ap (λ (p : ℕ × ℕ). p.0) pair, ap (λ (p : ℕ × ℕ). p.1) pair)

bad_from : {holder : Holder} (stripes : ℕ) (g h : List Entry) (j i rule : ℕ) → IsLegal holder stripes g → j ≡ length g → first_bad holder stripes g h j ≡ Some (i, rule) → IsFirstBad holder stripes (g ++ h) i rule
bad_from stripes g [] j i rule legal index bad = absurd (cc (bad))
bad_from {holder} stripes g (e ∷ h) j i rule legal index bad =
    (elim (broken holder stripes g e) as (λ o. broken holder stripes g e ≡ o → (elim o as (λ o. Option (ℕ × ℕ)) [ Some r ↦ Some (j, r) | None ↦ first_bad holder stripes (g ++ e ∷ []) h (j + 1) ]) ≡ Some (i, rule) → IsFirstBad holder stripes (g ++ e ∷ h) i rule) [
      | Some r ↦ λ is here.
          let same = same_pair j r i rule here in
          record { front = g; entry = e; back = h; is = refl; index = sym same.0 ∙ index; legal = legal; breaks = is ∙ ap Some same.1 }
      | None ↦ λ is later.
          let longer : j + 1 ≡ length (g ++ e ∷ []) = (let n = length-append g (e ∷ []) in omega arith) in
          let next : IsFirstBad holder stripes ((g ++ e ∷ []) ++ h) i rule = bad_from stripes (g ++ e ∷ []) h (j + 1) i rule (legal_after stripes g e legal is) longer later in
          subst (λ w. IsFirstBad holder stripes w i rule) (append_assoc g (e ∷ []) h) next
    ]) refl bad

-- The index and the rule that the search finds are those of the first bad entry.
pub first_bad_is : {holder : Holder} (stripes : ℕ) (h : List Entry) (i rule : ℕ) → first_bad holder stripes [] h 0 ≡ Some (i, rule) → IsFirstBad holder stripes h i rule
first_bad_is stripes h i rule bad = bad_from stripes [] h 0 i rule (legal_none stripes) refl bad

fine_head : (holder : Holder) (stripes : ℕ) (g : List Entry) (e : Entry) (h : List Entry) (j : ℕ) → first_bad holder stripes g (e ∷ h) j ≡ None → broken holder stripes g e ≡ None
fine_head holder stripes g e h j none =
    (elim (broken holder stripes g e) as (λ o. (elim o as (λ o. Option (ℕ × ℕ)) [ Some r ↦ Some (j, r) | None ↦ first_bad holder stripes (g ++ e ∷ []) h (j + 1) ]) ≡ None → o ≡ None) [
      | Some r ↦ λ is. absurd (cc (is))
      | None ↦ λ is. refl
    ]) none

found_after : {holder : Holder} (stripes : ℕ) (g front : List Entry) (e : Entry) (back : List Entry) (j rule : ℕ) → IsLegal holder stripes (g ++ front) → broken holder stripes (g ++ front) e ≡ Some rule → first_bad holder stripes g (front ++ e ∷ back) j ≡ Some (j + length front, rule)
found_after {holder} stripes g [] e back j rule legal breaks =
    let here : broken holder stripes g e ≡ Some rule = subst (λ w. broken holder stripes w e ≡ Some rule) (append-nil g) breaks in
    let index : j ≡ j + 0 = omega arith in
    rw (here, first_bad, first_bad_by) (ap (λ i. Some (i, rule)) index)
found_after {holder} stripes g (f ∷ front) e back j rule legal breaks =
    let fine : broken holder stripes g f ≡ None = fine_head holder stripes g f front j (none_bad stripes g (f ∷ front) j legal) in
    let assoc : (g ++ f ∷ []) ++ front ≡ g ++ f ∷ front = append_assoc g (f ∷ []) front in
    let later = found_after stripes (g ++ f ∷ []) front e back (j + 1) rule (subst (IsLegal holder stripes) (sym assoc) legal) (subst (λ w. broken holder stripes w e ≡ Some rule) (sym assoc) breaks) in
    let index : j + 1 + length front ≡ j + suc (length front) = omega arith in
    rw (fine, first_bad, first_bad_by) (later ∙ ap (λ i. Some (i, rule)) index)

-- The search finds the first bad entry, if there is one.
pub first_bad-found : {holder : Holder} (stripes : ℕ) (h : List Entry) (i rule : ℕ) → IsFirstBad holder stripes h i rule → first_bad holder stripes [] h 0 ≡ Some (i, rule)
first_bad-found {holder} stripes h i rule bad =
    let index : 0 + length bad.front ≡ i = (let n = bad.index in omega arith) in
    ap (λ w. first_bad holder stripes [] w 0) bad.is ∙ found_after stripes [] bad.front bad.entry bad.back 0 rule bad.legal bad.breaks ∙ ap (λ n. Some (n, rule)) index

-- The verdict on a legal history gives the number of commits and the number of callers that are not
-- closed. The verdict on any other history gives its first bad entry and the rule that this entry
-- breaks.
pub verdict-legal : {holder : Holder} (stripes : ℕ) (h : List Entry) → IsLegal holder stripes h → verdict holder stripes h ≡ Legal (how_many is_commit h) (length (running (callers_in h) h))
verdict-legal stripes h legal = rw ((legal_iff stripes h).0 legal, verdict, verdict_by) refl

pub verdict-illegal : {holder : Holder} (stripes : ℕ) (h : List Entry) (i rule : ℕ) → IsFirstBad holder stripes h i rule → verdict holder stripes h ≡ Illegal i rule
verdict-illegal stripes h i rule bad = rw (first_bad-found stripes h i rule bad, verdict, verdict_by) refl

-- A history is legal, or has a first bad entry.
pub legal_or_bad : {holder : Holder} (stripes : ℕ) (h : List Entry) → IsLegal holder stripes h ⊎ ((i rule : ℕ) × IsFirstBad holder stripes h i rule)
legal_or_bad {holder} stripes h = from (first_bad holder stripes [] h 0) refl
  where
    from : (o : Option (ℕ × ℕ)) → first_bad holder stripes [] h 0 ≡ o → IsLegal holder stripes h ⊎ ((i rule : ℕ) × IsFirstBad holder stripes h i rule)
    from None is = inl ((legal_iff stripes h).1 is)
    from (Some bad) is = inr (bad.0, bad.1, first_bad_is stripes h bad.0 bad.1 is)

-- If one more entry follows a legal history, the history is still legal exactly if the entry breaks
-- no rule.
pub legal-push : {holder : Holder} (stripes : ℕ) (g : List Entry) → IsLegal holder stripes g → (e : Entry) → IsLegal holder stripes (g ++ e ∷ []) ↔ (broken holder stripes g e ≡ None)
legal-push {holder} stripes g legal e = (λ after. fine_head holder stripes g e [] 0 (none_bad stripes g (e ∷ []) 0 after), λ fine. legal_after stripes g e legal fine)
