use Rattle.std.proofs.Common.{arith}
use Rattle.map_ops.proofs.NewLemmas.{first_belongs, is_new}
use Rattle.map_ops.proofs.table.Table.new.Goals as goal

pub new-requires-2-clause-power : goal.new-requires-2-clause-power
new-requires-2-clause-power c = record { exponent = c.requires.power.0; is = c.requires.power.1 }

pub invariant_of-result : goal.invariant_of-result
invariant_of-result c = record { sound = c.in_ok-list.ensures.sound; home = c.in_ok-buckets.ensures.home; belong = first_belongs c.in_ok-list.list _ c.in_ok-list.ensures.nodes }

pub returns : goal.returns
returns c = is_new c.in_ok-list.list c.in_ok-buckets.buckets c.args.max c.args.callers c.in_ok-list.ensures.nodes c.in_ok-list.ensures.out c.in_ok-list.ensures.changes c.in_ok-list.ensures.last c.in_ok-buckets.ensures.ok c.requires.least (omega arith)
