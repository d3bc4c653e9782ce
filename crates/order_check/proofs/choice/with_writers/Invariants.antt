use Rattle.std.proofs.Common.{take}
use Rattle.order_check.specs.declared.access.Access.{Access}
use Rattle.order_check.specs.Tables.{IsAmong}
use Rattle.order_check.specs.Joined.{SourceIs}
use Rattle.order_check.specs.Choices.{AreSame}
use Rattle.order_check.proofs.choice.with_writers.Given as goal

abbrev pub invariant-loop-access : goal.invariant-loop-access
invariant-loop-access l = record {
  same : AreSame (take l.access-index l.accesses) l.sourced.items;
  sources : (a : Access) → IsAmong a l.sourced.items → SourceIs l.accesses a a.source;
}
