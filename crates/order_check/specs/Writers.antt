-- The accesses that write a value, and the numbers of their transactions.
use Rattle.std.specs.Prelude.{ℕ, ◌==◌, ◌&&◌, not, nat_eq, Bool, List}
use Rattle.std.specs.Option.{option_eq}
use Rattle.order_check.specs.declared.access.Access.{Access}
use Rattle.order_check.specs.Named.{name_at}
use Rattle.order_check.specs.Tables.{Version}

-- Whether the access writes the value of the version.
abbrev pub does_write : Version → Access → Bool
does_write q a =
    (a.key == q.0) && (option_eq nat_eq a.left q.1 && not (option_eq nat_eq a.need a.left))

-- The number of the access's transaction.
abbrev pub named_by : List ℕ → Access → ℕ
named_by names a = name_at names a.txn
