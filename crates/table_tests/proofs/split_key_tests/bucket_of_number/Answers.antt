use Rattle.std.proofs.Common.{refl}
use Rattle.table_tests.proofs.split_key_tests.bucket_of_number.Goals as goal

pub bucket_of-requires-in-4 : goal.bucket_of-requires-in-4
bucket_of-requires-in-4 c = record { exponent = 2; is = refl }

pub bucket_of-requires-in-8 : goal.bucket_of-requires-in-8
bucket_of-requires-in-8 c = record { exponent = 3; is = refl }

pub bucket_of-requires-in-2147483648 : goal.bucket_of-requires-in-2147483648
bucket_of-requires-in-2147483648 c = record { exponent = 31; is = refl }
