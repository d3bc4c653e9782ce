use Rattle.std.proofs.Common.{◌≡◌, Bool, true, false, cond, List, [], ◌∷◌, ◌++◌, Some, refl}
use Rattle.std.specs.Option.{option_or}
use Rattle.std.specs.Bool.{then_some}
use Rattle.txn_words.specs.declared.refusal.Refusal.{Refusal}
use Rattle.txn_words.specs.Stances.{first_of, unready_tests}
use Rattle.txn_words.proofs.stance.Stance.refusal.Goals as goal

-- Trying one more test after a list of tests gives the same refusal as appending the test to the
-- list.
one_more : (tests : List (Bool × Refusal)) (is_bad : Bool) (refusal : Refusal)
    → option_or (first_of tests) (then_some is_bad refusal) ≡ first_of (tests ++ (is_bad, refusal) ∷ [])
one_more [] true refusal = refl
one_more [] false refusal = refl
one_more (test ∷ tests) is_bad refusal =
    elim test.0 as (λ b. option_or (cond b (Some test.1) (first_of tests)) (then_some is_bad refusal) ≡ cond b (Some test.1) (first_of (tests ++ (is_bad, refusal) ∷ []))) [
      | true ↦ refl
      | false ↦ one_more tests is_bad refusal
    ]

pub returns-in-Ask : goal.returns-in-Ask
returns-in-Ask c =
    rw (c.or.ensures, c.unready.ensures, c.then_some.ensures, c.is_bad_key-is_bad.ensures, c.key.ensures, c.in-Ask.is)
    (one_more (unready_tests c.args.self.now.stance.phase) _ _)
