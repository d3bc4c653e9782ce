use Rattle.std.proofs.Common.{refl}
use Rattle.table_tests.proofs.split_key_tests.bucket_at_split.Goals as goal

pub bucket_at-requires-in-8 : goal.bucket_at-requires-in-8
bucket_at-requires-in-8 c = record { exponent = 3; is = refl }

pub bucket_at-requires-in-2147483648 : goal.bucket_at-requires-in-2147483648
bucket_at-requires-in-2147483648 c = record { exponent = 31; is = refl }
