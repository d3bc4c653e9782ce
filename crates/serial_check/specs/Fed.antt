-- PROMISES a-verdict-by-the-order-of-commits-is-right: IsFed
-- The entries that a checker was fed.
use Rattle.std.specs.Prelude.{List}
use Rattle.txn_words.specs.declared.entry.Entry.{Entry}
use Rattle.history_check.specs.FirstBad.{FedBy}
use Rattle.serial_check.specs.declared.checker.Checker.{Checker}
use Rattle.serial_check.specs.Serializable.{broken}
use Rattle.serial_check.specs.States.{Tells}

-- The checker was fed these entries, in this order.
abbrev pub IsFed : List Entry → Checker → Type 0
IsFed h checker = FedBy broken (Tells h checker.state) h checker.fed checker.bad
