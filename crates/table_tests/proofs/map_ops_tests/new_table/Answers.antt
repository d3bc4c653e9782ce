use Rattle.std.proofs.Common.{refl}
use Rattle.table_tests.proofs.map_ops_tests.new_table.Goals as goal

pub new-requires-clause-power : goal.new-requires-clause-power
new-requires-clause-power c = (3, refl)
