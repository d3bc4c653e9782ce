-- The text of an outcome.
use Rattle.std.specs.Prelude.{ℕ, List, ◌++◌, codes, decimal}
use Rattle.script_worker.specs.declared.outcome.Outcome.{Outcome}
use Rattle.script_worker.specs.declared.outcome.Outcome.TheVariants.{Committed, Aborted, GivenUp}

abbrev pub outcome_words : Outcome → List ℕ
outcome_words (Committed place entry) =
    codes "committed " ++ (decimal place ++ (codes " entry " ++ decimal entry))
outcome_words (Aborted entry) = codes "aborted entry " ++ decimal entry
outcome_words GivenUp = codes "given up"
