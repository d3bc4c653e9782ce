-- A search through a worker's scripts.
use Rattle.std.proofs.Common.{◌≡◌, ℕ, ◌+◌, ◌%◌, ◌<◌, ◌≤◌, List, length, get_or, Some, refl, sym, ap, subst, ◌∙◌, inl, inr, arith}
use Rattle.std.specs.Prelude.{slice_get}
use Rattle.std.proofs.lemmas.Bool.{cases_order}
use Rattle.std.proofs.lemmas.Option.{get_or_from_slice_get, slice_get_within}
use Rattle.txn_words.specs.declared.action.Action.{Action}
use Rattle.txn_words.specs.declared.entry.Entry.{Entry}
use Rattle.txn_trace.specs.Plays.{IsPlayed}
use Rattle.script_worker.proofs.Strides.{stride}

-- If the transaction plays no script of the worker before `number`, and does not play the script at
-- `number`, then it plays no script of the worker before `number + w`.
pub not_played : (w : ℕ) (scripts : List (List Action)) (part : List Entry) (low number : ℕ) (here d : List Action) (read : List Entry) → here ≡ get_or scripts number d → read ≡ part
    → number % w ≡ low % w → (IsPlayed here read → ⊥)
    → ((n : ℕ) (script : List Action) → low ≤ n → n < number → n % w ≡ low % w → slice_get scripts n ≡ Some script → IsPlayed script part → ⊥)
    → (n : ℕ) (script : List Action) → low ≤ n → n < number + w → n % w ≡ low % w → slice_get scripts n ≡ Some script → IsPlayed script part → ⊥
not_played w scripts part low number here d read is same mine not before n script from less its there played = elim (cases_order n number) [
  | inl at ↦
      let one : here ≡ script = is ∙ ap (λ k. get_or scripts k d) (sym at) ∙ get_or_from_slice_get scripts n script d there in
      not (subst (λ s. IsPlayed s read) (sym one) (subst (IsPlayed script) (sym same) played))
  | inr (inl early) ↦ before n script from early its there played
  | inr (inr late) ↦ let far = stride w number n (mine ∙ sym its) late in absurd (omega arith)
]

pub past_all : (scripts : List (List Action)) (number : ℕ) (script : List Action) → length scripts ≤ number → slice_get scripts number ≡ Some script → ⊥
past_all scripts number script past there = let inside = slice_get_within scripts number script there in omega arith

pub plays_there : (scripts : List (List Action)) (part : List Entry) (number : ℕ) (here d : List Action) (read : List Entry) → here ≡ get_or scripts number d → read ≡ part → IsPlayed here read
    → (script : List Action) → slice_get scripts number ≡ Some script → IsPlayed script part
plays_there scripts part number here d read is same played script there =
    subst (IsPlayed script) same (subst (λ s. IsPlayed s read) (is ∙ get_or_from_slice_get scripts number script d there) played)
