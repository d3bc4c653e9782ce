use Rattle.std.proofs.Common.{refl}
use Rattle.table_tests.proofs.bucket_table_tests.home.Home.new.Goals as goal

pub new-requires-in-8-clause-power : goal.new-requires-in-8-clause-power
new-requires-in-8-clause-power c = record { exponent = 3; is = refl }
