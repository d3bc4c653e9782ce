-- The worker's positions `next` and `turn` after a commit or an abort, whether it is counted or
-- not.
use Rattle.std.proofs.Common.{◌≡◌, ℕ, ◌+◌, ◌%◌, ◌<◌, ◌≤◌, ◌⊎◌, List, length, set, Some, refl, sym, ap, ◌∙◌, inl, inr, arith}
use Rattle.std.specs.Prelude.{slice_get}
use Rattle.std.proofs.Math.Nat.{add-mod_right}
use Rattle.txn_words.specs.declared.action.Action.{Action}
use Rattle.script_worker.specs.declared.outcome.Outcome.{Outcome}
use Rattle.script_worker.specs.declared.outcome.Outcome.TheVariants.{Committed, Aborted}
use Rattle.script_worker.specs.declared.way.Way.{Way}
use Rattle.script_worker.specs.Matches.{AbortsItself}
use Rattle.script_worker.specs.Ways.{IsFirstPlayed, MayCount, Advances, IsCountedFor, CountsCommit, CountsAbort}

abbrev pub GoneTo : ℕ → Way → Way → Type 0
GoneTo number old new = ((old.turn < number) × (new.turn ≡ number)) ⊎ ((number ≤ old.turn) × (new.turn ≡ old.turn))

pub gone_on : (w : ℕ) (old new : Way) (number : ℕ) → old.next % w ≡ old.turn % w → old.next ≤ number → number % w ≡ old.next % w → new.next ≡ number → GoneTo number old new → Advances w old new
gone_on w old new number same low mine next turn = elim turn [
  | inl far ↦ let a = far.0 in let b = far.1 in record { next = omega arith; turn = omega arith; order = omega arith; next_mine = ap (λ k. k % w) next ∙ mine; turn_mine = ap (λ k. k % w) b ∙ mine ∙ same }
  | inr near ↦ let a = near.0 in let b = near.1 in record { next = omega arith; turn = omega arith; order = omega arith; next_mine = ap (λ k. k % w) next ∙ mine; turn_mine = ap (λ k. k % w) b }
]

pub commits_found : (w : ℕ) (scripts : List (List Action)) (place entry : ℕ) (old new : Way) (os os' : List Outcome) (number : ℕ) → MayCount w scripts old os
    → IsFirstPlayed w scripts old.part.items old.next number → number < length scripts → new.part.items ≡ old.part.items → new.next ≡ number + w → GoneTo (number + w) old new
    → os' ≡ set os number (Committed place entry) → CountsCommit w scripts place entry old new os os'
commits_found w scripts place entry old new os os' number may first within part next turn is =
    let low = first.from in
    let some = may.some in
    record {
      part = part;
      on = gone_on w old new (number + w) may.mine (omega arith) (add-mod_right number w ∙ first.mine) next turn;
      number = number;
      first = first;
      counts = inl (record { within = within; counted = is; passed = omega arith }, next);
    }

pub commits_lost : (w : ℕ) (scripts : List (List Action)) (place entry : ℕ) (old new : Way) (os : List Outcome) (number : ℕ) → MayCount w scripts old os
    → IsFirstPlayed w scripts old.part.items old.next number → length scripts ≤ number → new.part.items ≡ old.part.items → new.next ≡ number → GoneTo number old new
    → CountsCommit w scripts place entry old new os os
commits_lost w scripts place entry old new os number may first past part next turn =
    record {
      part = part;
      on = gone_on w old new number may.mine first.from first.mine next turn;
      number = number;
      first = first;
      counts = inr (past, refl);
    }

passed_on : (w : ℕ) (scripts : List (List Action)) (old new : Way) (os : List Outcome) (number : ℕ) → MayCount w scripts old os → old.turn ≤ number → number % w ≡ old.turn % w
    → new.next ≡ old.next → new.turn ≡ number + w → Advances w old new
passed_on w scripts old new os number may low mine next turn =
    let order = may.order in
    record { next = omega arith; turn = omega arith; order = omega arith; next_mine = ap (λ k. k % w) next; turn_mine = ap (λ k. k % w) turn ∙ add-mod_right number w ∙ mine }

pub aborts_found : (w : ℕ) (scripts : List (List Action)) (entry : ℕ) (old new : Way) (os os' : List Outcome) (number : ℕ) → MayCount w scripts old os
    → old.turn ≤ number → number % w ≡ old.turn % w → number < length scripts → ((script : List Action) → slice_get scripts number ≡ Some script → AbortsItself script old.part.items)
    → new.part.items ≡ old.part.items → new.next ≡ old.next → new.turn ≡ number + w → os' ≡ set os number (Aborted entry) → CountsAbort w scripts entry old new os os'
aborts_found w scripts entry old new os os' number may low mine within did part next turn is =
    let some = may.some in
    record {
      part = part;
      on = passed_on w scripts old new os number may low mine next turn;
      next = next;
      number = number;
      from = low;
      mine = mine;
      counts = inl (record { within = within; counted = is; passed = omega arith }, did);
    }

pub aborts_none : (w : ℕ) (scripts : List (List Action)) (entry : ℕ) (old new : Way) (os : List Outcome) (number : ℕ) → MayCount w scripts old os
    → old.turn ≤ number → number % w ≡ old.turn % w → new.part.items ≡ old.part.items → new.next ≡ old.next → new.turn ≡ number + w → CountsAbort w scripts entry old new os os
aborts_none w scripts entry old new os number may low mine part next turn =
    record {
      part = part;
      on = passed_on w scripts old new os number may low mine next turn;
      next = next;
      number = number;
      from = low;
      mine = mine;
      counts = inr refl;
    }
