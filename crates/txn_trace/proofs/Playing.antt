-- The scripts that the transactions of a caller play, found in the caller's own entries.
use Rattle.std.proofs.Common.{◌≡◌, ℕ, true, false, cond, List, [], ◌∷◌, ◌++◌, Some, sym, ap, subst, ◌∙◌, inl, inr}
use Rattle.std.proofs.lemmas.List.Sums.{fold-append}
use Rattle.txn_words.specs.declared.entry.Entry.{Entry}
use Rattle.txn_trace.specs.History.{of}
use Rattle.txn_words.specs.Kinds.{caller_of, is_began}
use Rattle.txn_words.specs.Shape.{own, is_shaped, IsShaped}
use Rattle.txn_trace.specs.Plays.{part_after, parts_of}
use Rattle.txn_trace.proofs.Pushes.{txn_in, of-push_in, of-push_out, own-push_in, own-push_out}
use Rattle.txn_trace.proofs.Callers.{Callers, at_is, began_or_not, not_began_is, not_equal}
use Rattle.txn_trace.proofs.Shaped.{step, same as one_caller}
use Rattle.txn_trace.proofs.Inductions.{by_entries}
use Rattle.txn_trace.proofs.StanceRuns.{none_before, have_stances}

-- If one more entry is added to a caller's entries, `part_after` gives the new parts.
pub parts_of-push : (es : List Entry) (e : Entry) → parts_of (es ++ e ∷ []) ≡ part_after (parts_of es) e
parts_of-push es e = fold-append part_after [] es (e ∷ [])

-- A `Began` begins a new part. Any other entry is added to the newest part.
pub part-began : (parts : List (List Entry)) (e : Entry) → is_began e ≡ true → part_after parts e ≡ (e ∷ []) ∷ parts
part-began [] e is = ap (λ b. cond b ((e ∷ []) ∷ []) []) is
part-began (part ∷ parts) e is = ap (λ b. cond b ((e ∷ []) ∷ part ∷ parts) ((part ++ e ∷ []) ∷ parts)) is

pub part-goes : (part : List Entry) (parts : List (List Entry)) (e : Entry) → is_began e ≡ false → part_after (part ∷ parts) e ≡ (part ++ e ∷ []) ∷ parts
part-goes part parts e is = ap (λ b. cond b ((e ∷ []) ∷ part ∷ parts) ((part ++ e ∷ []) ∷ parts)) is

-- The entries of the transaction that a caller is in, or was in last, are the newest part of the
-- caller's own entries.
abbrev pub IsLastPart : ℕ → List Entry → Type 0
IsLastPart c h = (t : ℕ) → txn_in h c ≡ Some t → (parts : List (List Entry)) × (parts_of (own c h) ≡ of t h ∷ parts)

last_part_push : (c : ℕ) (g : List Entry) (e : Entry) → IsShaped g → Callers g → is_shaped g e ≡ true → IsLastPart c g → IsLastPart c (g ++ e ∷ [])
last_part_push c g e shape callers shaped last t at = elim (step g e callers shaped c t at) [
  | inl w ↦
      let mine : parts_of (own c (g ++ e ∷ [])) ≡ part_after (parts_of (own c g)) e = ap parts_of (own-push_in c g e (sym w.0)) ∙ parts_of-push (own c g) e in
      let longer : of t (g ++ e ∷ []) ≡ of t g ++ e ∷ [] = of-push_in t g e w.1 in
      elim (began_or_not e) [
        | inl b ↦
            let none : of t g ≡ [] = none_before g e callers shaped (have_stances g shape) t b w.1 in
            (parts_of (own c g), mine ∙ part-began (parts_of (own c g)) e b ∙ ap (λ es. (es ++ e ∷ []) ∷ parts_of (own c g)) (sym none) ∙ ap (λ es. es ∷ parts_of (own c g)) (sym longer))
        | inr b ↦
            let (parts, is) = last t (subst (λ x. txn_in g x ≡ Some t) (sym w.0) (not_began_is g e t b (at_is g e t w.1))) in
            (parts, mine ∙ ap (λ ps. part_after ps e) is ∙ part-goes (of t g) parts e b ∙ ap (λ es. es ∷ parts) (sym longer))
      ]
  | inr w ↦
      let (parts, is) = last t w.1 in
      (parts, ap parts_of (own-push_out c g e (not_equal c (caller_of e) w.0)) ∙ is ∙ ap (λ es. es ∷ parts) (sym (of-push_out t g e (λ k. w.0 (sym (one_caller g e callers shaped c t k w.1))))))
]

pub last_part : (c : ℕ) (h : List Entry) → IsShaped h → IsLastPart c h
last_part c = by_entries (IsLastPart c) (last_part_push c) (λ t is. absurd (cc (is)))
