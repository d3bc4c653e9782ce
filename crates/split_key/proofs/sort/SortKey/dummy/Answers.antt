use Rattle.std.proofs.Common.{◌≡◌, ◌%◌, arith}
use Rattle.split_key.specs.Split.{reversed}
use Rattle.split_key.proofs.SortLemmas.{first_before_dummy}
use Rattle.split_key.proofs.PackedLemmas.{dummy_packed, dummy_seen}
use Rattle.split_key.proofs.sort.SortKey.dummy.Goals as goal

pub invariant_of-result : goal.invariant_of-result
invariant_of-result c = rw (c.bytes.ensures, c.dummy.ensures.value) (dummy_packed _)

pub returns-clause-value : goal.returns-clause-value
returns-clause-value c =
    let even : reversed c.args.bucket % 2 ≡ 0 = rw c.dummy.ensures.value at c.dummy.ensures.even in
    rw (c.bytes.ensures, c.dummy.ensures.value) (dummy_seen _ even)

pub returns-clause-behind_first : goal.returns-clause-behind_first
returns-clause-behind_first c other = rw (returns-clause-value c) (first_before_dummy c.args.bucket (omega arith) other)
