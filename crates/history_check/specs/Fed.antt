-- PROMISES the-judge-of-histories: IsFed
-- The entries that a checker was fed.
use Rattle.std.specs.Prelude.{ℕ, List}
use Rattle.txn_words.specs.declared.entry.Entry.{Entry}
use Rattle.txn_words.specs.declared.holder.Holder.{Holder}
use Rattle.txn_trace.specs.Legal.{broken}
use Rattle.history_check.specs.declared.checker.Checker.{Checker}
use Rattle.history_check.specs.FirstBad.{FedBy}
use Rattle.history_check.specs.States.{Tells}

-- The checker was fed these entries, in this order. They are entries of a map with `stripes`
-- stripes, and `holder` says which callers a Busy entry may name.
abbrev pub IsFed : Holder → ℕ → List Entry → Checker → Type 0
IsFed holder stripes h checker =
    FedBy (broken holder stripes) (Tells holder stripes h checker.state) h checker.fed checker.bad
