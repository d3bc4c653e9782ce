-- What a growth of the table leaves as it was, and how many stamps the steps of a growth and of a
-- put take.
use Rattle.std.proofs.Common.{◌≡◌, ℕ, ◌+◌, ◌*◌, ◌<◌, ◌≤◌, Bool, true, false, cond, List, [], ◌∷◌, Option, refl, sym, ap, subst, ◌∙◌, arith}
use Rattle.std.specs.Prelude.{nat_le}
use Rattle.std.specs.List.{AllByRecursion}
use Rattle.std.proofs.lemmas.Bool.{false≢true, le-leb, lt-leb}
use Rattle.std.proofs.lemmas.List.{append-nil}
use mathlib.Core.Logic.{inl, inr}
use Rattle.txn_words.specs.declared.op.Op.TheVariants.{Put}
use Rattle.txn_words.specs.declared.step.Step.{Step}
use Rattle.txn_words.specs.declared.step.Step.TheVariants.{InitSeek, InitLink, InitStore, Double}
use Rattle.txn_words.specs.declared.answer.Answer.{Answer}
use Rattle.txn_words.specs.declared.answer.Answer.TheVariants as answers
use Rattle.txn_words.specs.Map.{count_of}
use Rattle.txn_trace.specs.Now.{now}
use Rattle.boost_core.specs.State.{State}
use Rattle.boost_core.specs.Machine.{Happens, Move, Moves, stamp_after}
use Rattle.boost_core.specs.Plain.{Operates}
use Rattle.owned_map.specs.Within.{IsGrown, growing, initialising}

-- The history, the limits and the kind of stripes are unchanged.
pub record KeepsHistory (old new : State) : Type 0 where
  pub history : new.history ≡ old.history
  pub limits : new.limits ≡ old.limits
  pub words : new.words ≡ old.words

abbrev is_growing : Step → Bool
is_growing (InitSeek h b) = true
is_growing (InitLink h) = true
is_growing (InitStore h) = true
is_growing (Double n) = true
is_growing step = false

served : (old new : State) (step : Step) (answer : Answer) → is_growing step ≡ true → Move old step answer new → KeepsHistory old new
served old new step answer is move = record { history = added step answer is move; limits = kept answer move; words = same answer move }
  where
    added : (step : Step) (answer : Answer) → is_growing step ≡ true → Move old step answer new → new.history ≡ old.history
    added step (answers.Refused refusal) is move = ap (λ (s : State). s.history) move.state
    added (InitSeek h b) answer is move = ap (λ (s : State). s.history) move.state ∙ append-nil old.history
    added (InitLink h) answer is move = ap (λ (s : State). s.history) move.state ∙ append-nil old.history
    added (InitStore h) answer is move = ap (λ (s : State). s.history) move.state ∙ append-nil old.history
    added (Double n) answer is move = ap (λ (s : State). s.history) move.state ∙ append-nil old.history
    added step answer is move = absurd (false≢true is)

    kept : (answer : Answer) → Move old step answer new → new.limits ≡ old.limits
    kept (answers.Refused refusal) move = ap (λ (s : State). s.limits) move.state
    kept answer move = ap (λ (s : State). s.limits) move.state

    same : (answer : Answer) → Move old step answer new → new.words ≡ old.words
    same (answers.Refused refusal) move = ap (λ (s : State). s.words) move.state
    same answer move = ap (λ (s : State). s.words) move.state

same_state : (old new : State) → new ≡ old → KeepsHistory old new
same_state old new is = record { history = ap (λ (s : State). s.history) is; limits = ap (λ (s : State). s.limits) is; words = ap (λ (s : State). s.words) is }

all_served : (old new : State) (steps : List Step) (given : List Answer) → AllByRecursion (λ step. is_growing step ≡ true) steps → Moves old steps given new → KeepsHistory old new
all_served old new [] [] all is = same_state old new is
all_served old new (step ∷ steps) (answer ∷ given) all (between, event, rest) =
    let first = served old between step answer all.0 event.move in
    let then = all_served between new steps given all.1 rest in
    record { history = then.history ∙ first.history; limits = then.limits ∙ first.limits; words = then.words ∙ first.words }
all_served old new [] (answer ∷ given) all none = absurd none
all_served old new (step ∷ steps) [] all none = absurd none

each_growing : (c n bucket : ℕ) (b : Bool) → AllByRecursion (λ step. is_growing step ≡ true) (cond b (Double n ∷ initialising c bucket) (initialising c bucket))
each_growing c n bucket true = (refl, (refl, (refl, (refl, tt))))
each_growing c n bucket false = (refl, (refl, (refl, tt)))

-- A growth adds no entry.
pub kept_by : (c : ℕ) (old new : State) → IsGrown c old new → KeepsHistory old new
kept_by c old new (inl same) = same_state old new same
kept_by c old new (inr grows) = all_served old new (growing c old.size grows.bucket) grows.given (each_growing c old.size grows.bucket (nat_le old.size grows.bucket)) grows.moves

-- The steps that initialise a bucket were taken, after a doubling if the bucket was not below the
-- size.
module _ (c bucket : ℕ) (old new : State) (wanted : 2 * bucket < count_of (now old.history)) where
  pub grows_below : (given : List Answer) → bucket < old.size → Moves old (initialising c bucket) given new → IsGrown c old new
  grows_below given below moves = inr (record { bucket = bucket; wanted = wanted; given = given; moves = subst (λ b. Moves old (cond b (Double old.size ∷ initialising c bucket) (initialising c bucket)) given new) (sym (lt-leb old.size bucket below)) moves })

  pub grows_above : (between : State) (answer : Answer) (given : List Answer) → old.size ≤ bucket → Happens old (Double old.size) answer between → Moves between (initialising c bucket) given new → IsGrown c old new
  grows_above between answer given above event moves = inr (record { bucket = bucket; wanted = wanted; given = answer ∷ given; moves = subst (λ b. Moves old (cond b (Double old.size ∷ initialising c bucket) (initialising c bucket)) (answer ∷ given) new) (sym (le-leb old.size bucket above)) (between, event, moves) })

-- How many stamps a step of a growth takes at most.
abbrev stamps_of : Step → ℕ
stamps_of (InitLink h) = 1
stamps_of step = 0

abbrev stamps_in : List Step → ℕ
stamps_in [] = 0
stamps_in (step ∷ steps) = stamps_of step + stamps_in steps

none : (n : ℕ) → n ≤ n + 0
none n = omega arith

one : (n : ℕ) → n ≤ n + 1
one n = omega arith

stamped : (n : ℕ) (step : Step) (answer : Answer) → is_growing step ≡ true → stamp_after n step answer ≤ n + stamps_of step
stamped n (InitSeek h b) answers.Ready is = none n
stamped n (InitSeek h b) answers.Placed is = none n
stamped n (InitSeek h b) answer is = none n
stamped n (InitLink h) answers.Again is = one n
stamped n (InitLink h) answers.Present is = one n
stamped n (InitLink h) answers.Linked is = omega arith
stamped n (InitLink h) answer is = one n
stamped n (InitStore h) answers.Stored is = none n
stamped n (InitStore h) answer is = none n
stamped n (Double m) (answers.Moved size) is = none n
stamped n (Double m) answers.AtLimit is = none n
stamped n (Double m) answers.Light is = none n
stamped n (Double m) (answers.Doubled size) is = none n
stamped n (Double m) answer is = none n
stamped n step answer is = absurd (false≢true is)

all_stamped : (old new : State) (steps : List Step) (given : List Answer) → AllByRecursion (λ step. is_growing step ≡ true) steps → Moves old steps given new → new.stamp ≤ old.stamp + stamps_in steps
all_stamped old new [] [] all is = subst (λ (s : State). s.stamp ≤ old.stamp + 0) (sym is) (none old.stamp)
all_stamped old new (step ∷ steps) (answer ∷ given) all (between, event, rest) =
    let first : between.stamp ≤ old.stamp + stamps_of step = subst (λ n. n ≤ old.stamp + stamps_of step) (sym event.lists.stamp) (stamped old.stamp step answer all.0) in
    let then : new.stamp ≤ between.stamp + stamps_in steps = all_stamped between new steps given all.1 rest in
    omega (arith, first, then)
all_stamped old new [] (answer ∷ given) all moves = absurd moves
all_stamped old new (step ∷ steps) [] all moves = absurd moves

one_stamp : (c n bucket : ℕ) (b : Bool) → stamps_in (cond b (Double n ∷ initialising c bucket) (initialising c bucket)) ≡ 1
one_stamp c n bucket true = refl
one_stamp c n bucket false = refl

-- A growth takes at most one stamp.
stamp_grown : (c : ℕ) (old new : State) → IsGrown c old new → new.stamp ≤ old.stamp + 1
stamp_grown c old new (inl same) = subst (λ (s : State). s.stamp ≤ old.stamp + 1) (sym same) (one old.stamp)
stamp_grown c old new (inr grows) =
    let is_above = nat_le old.size grows.bucket in
    subst (λ n. new.stamp ≤ old.stamp + n) (one_stamp c old.size grows.bucket is_above)
    (all_stamped old new (growing c old.size grows.bucket) grows.given (each_growing c old.size grows.bucket is_above) grows.moves)

-- A put that is followed by a growth takes at most two stamps.
pub stamp_put : (c k v : ℕ) (x : Option ℕ) (old between new : State) → Operates old c (Put k v) (answers.Done x) between → IsGrown c between new → new.stamp ≤ old.stamp + 2
stamp_put c k v x old between new (s1, ask, (s2, seek, (s3, did, last))) grown =
    let asked : s1.stamp ≡ old.stamp + 1 = ask.lists.stamp in
    let put : between.stamp ≡ s1.stamp = ap (λ (s : State). s.stamp) last ∙ did.lists.stamp ∙ seek.lists.stamp in
    let then : new.stamp ≤ between.stamp + 1 = stamp_grown c between new grown in
    omega (arith, asked, put, then)
