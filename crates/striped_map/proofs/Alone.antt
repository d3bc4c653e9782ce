-- A transaction that commits has the same replies as if it ran alone on the map that results from
-- the earlier commits.
use Rattle.std.proofs.Common.{◌≡◌, ℕ, true, false, cond, List, [], ◌∷◌, ◌++◌, Option, Some, None, refl, sym, ap, subst, ◌∙◌, inl, inr, append_assoc, append-nil, eq-eqb}
use Rattle.std.specs.List.{filter}
use Rattle.std.specs.Option.{option_and_then}
use Rattle.std.proofs.lemmas.Bool.{false≢true, cases_eq}
use Rattle.std.proofs.lemmas.List.Elements.{filter-append}
use Rattle.txn_words.specs.declared.entry.Entry.{Entry}
use Rattle.txn_words.specs.declared.entry.Entry.TheVariants.{Began, Committed}
use Rattle.txn_words.specs.declared.holder.Holder.TheVariants.{Begun}
use Rattle.txn_words.specs.declared.stance.Phase.{Phase}
use Rattle.txn_words.specs.declared.stance.Phase.TheVariants.{Closed, Opened}
use Rattle.txn_words.specs.Kinds.{caller_of, is_began}
use Rattle.txn_trace.specs.Legal.{IsLegal, runs, is_running}
use Rattle.txn_words.specs.Shape.{Stance, row, stance_after, own, IsShaped, is_shaped}
use Rattle.txn_trace.proofs.Committing.{has_committed}
use Rattle.txn_trace.proofs.Inductions.{by_entries}
use Rattle.txn_trace.proofs.EntrySteps.{own-other}
use Rattle.txn_trace.proofs.Pushes.{stance_after-push}
use Rattle.txn_trace.proofs.Callers.{Callers}
use Rattle.striped_map.specs.Lone.{RunsAlone}
use Rattle.striped_map.specs.Steps.{Extends}
use Rattle.striped_map.proofs.Hands.{own_extends}
use Rattle.striped_map.proofs.AdditionLemmas.{own-append}

-- A caller's entries, cut where its last transaction begins.
record Cut (c : ℕ) (es : List Entry) : Type 0 where
  front : List Entry
  txn : ℕ
  inner : List Entry
  is : es ≡ front ++ Began c txn ∷ inner
  quiet : filter is_began inner ≡ []

closed_stops : (s : Stance) (e : Entry) → is_began e ≡ false → is_running (row s Closed e) ≡ true → ⊥
closed_stops s (Began c t) b h = false≢true (sym b)
closed_stops s _ b h = false≢true h

phase_runs : (s : Stance) (p : Phase) (e : Entry) → is_began e ≡ false → is_running (row s p e) ≡ true → runs p ≡ true
phase_runs s Closed e b h = absurd (closed_stops s e b h)
phase_runs s _ e b h = refl

ran_before : (o : Option Stance) (e : Entry) → is_began e ≡ false → is_running (option_and_then (λ s. row s s.phase e) o) ≡ true → is_running o ≡ true
ran_before None e b h = absurd (false≢true h)
ran_before (Some s) e b h = phase_runs s s.phase e b h

cut_more : (c : ℕ) (es : List Entry) (e : Entry) → is_began e ≡ false → Cut c es → Cut c (es ++ e ∷ [])
cut_more c es e b old = record {
  front = old.front;
  txn = old.txn;
  inner = old.inner ++ e ∷ [];
  is = ap (λ (l : List Entry). l ++ e ∷ []) old.is ∙ append_assoc old.front (Began c old.txn ∷ old.inner) (e ∷ []);
  quiet = filter-append is_began old.inner (e ∷ []) ∙ ap (λ (l : List Entry). l ++ filter is_began (e ∷ [])) old.quiet ∙ ap (λ x. cond x (e ∷ []) []) b;
}

cut_own : (c : ℕ) (es : List Entry) (e : Entry) → caller_of e ≡ c → (is_running (stance_after es) ≡ true → Cut c es) → is_running (stance_after (es ++ e ∷ [])) ≡ true → Cut c (es ++ e ∷ [])
cut_own c es (Began d t) mine was running = record { front = es; txn = t; inner = []; is = ap (λ (x : ℕ). es ++ Began x t ∷ []) mine; quiet = refl }
cut_own c es e mine was running = cut_more c es e refl (was (ran_before (stance_after es) e refl (ap is_running (sym (stance_after-push es e)) ∙ running)))

own-mine : (c : ℕ) (g : List Entry) (e : Entry) → caller_of e ≡ c → own c (g ++ e ∷ []) ≡ own c g ++ e ∷ []
own-mine c g e mine = own-append c g (e ∷ []) ∙ ap (λ b. own c g ++ cond b (e ∷ []) []) (eq-eqb (caller_of e) c mine)

open_cut : (c : ℕ) (g : List Entry) → IsShaped g → is_running (stance_after (own c g)) ≡ true → Cut c (own c g)
open_cut c g shape = by_entries (λ h. is_running (stance_after (own c h)) ≡ true → Cut c (own c h)) step (λ none. absurd (false≢true none)) g shape
  where
    step : (g : List Entry) (e : Entry) → IsShaped g → Callers g → is_shaped g e ≡ true → (is_running (stance_after (own c g)) ≡ true → Cut c (own c g)) → is_running (stance_after (own c (g ++ e ∷ []))) ≡ true → Cut c (own c (g ++ e ∷ []))
    step g e shape callers shaped was running = elim (cases_eq (caller_of e) c) [
      | inl mine ↦ subst (Cut c) (sym (own-mine c g e mine)) (cut_own c (own c g) e mine was (ap (λ es. is_running (stance_after es)) (sym (own-mine c g e mine)) ∙ running))
      | inr other ↦ let same = own-other c g e (λ z. other (sym z)) in subst (Cut c) (sym same) (was (ap (λ es. is_running (stance_after es)) (sym same) ∙ running))
    ]

-- If a caller commits its transaction, the transaction has the same replies as if it ran alone on
-- the map that results from the earlier commits.
pub commits_alone : (n c place : ℕ) (held : List ℕ) (seen log : List Entry) (stance : Stance) → IsLegal Begun n seen → stance_after (own c seen) ≡ Some stance → stance.phase ≡ Opened → Extends n c held seen (Committed c place ∷ []) log → RunsAlone c place log
commits_alone n c place held seen log stance legal stance_is opened x =
    let cut = open_cut c seen legal.shape (ap is_running stance_is ∙ ap runs opened) in
    let end : Entry = Committed c place in
    let whole : own c (end ∷ []) ≡ end ∷ [] = own-mine c [] end refl in
    let own_is : own c log ≡ cut.front ++ ((Began c cut.txn ∷ cut.inner ++ end ∷ []) ++ []) = own_extends n c held seen (end ∷ []) log x whole ∙ ap (λ (l : List Entry). l ++ end ∷ []) cut.is
    ∙ append_assoc cut.front (Began c cut.txn ∷ cut.inner) (end ∷ []) ∙ ap (λ (l : List Entry). cut.front ++ l) (sym (append-nil (Began c cut.txn ∷ cut.inner ++ end ∷ []))) in
    let done = has_committed c cut.txn place log cut.front cut.inner [] x.legal.shape x.legal.replies own_is cut.quiet in
    record {
      txn = cut.txn;
      inner = cut.inner;
      whole = done.whole;
      before = done.before;
      there = done.there;
      number = done.number;
      replied = done.replied;
    }
