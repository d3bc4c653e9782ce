use Rattle.std.proofs.Common.{◌≡◌, bit_and, arith, ◌^◌, ◌<◌, ◌-◌, ◌%◌}
use Rattle.std.proofs.lemmas.Nat.{and_mask}
use Rattle.split_key.proofs.AncestorLemmas.{exponent_below, ancestor_not_behind, lowest_is_last}
use Rattle.split_key.proofs.bucket.bucket_at.Goals as goal
use Rattle.split_key.proofs.bucket.bucket_at.Goals.{After-from}

lowest_bits : (c : After-from) → bit_and c.reverse.result c.from.result ≡ c.reverse.result % 2 ^ c.requires.exponent
lowest_bits c =
    let mask : c.from.result ≡ 2 ^ c.requires.exponent - 1 = omega (arith, c.requires.is) in
    rw mask (and_mask c.reverse.result c.requires.exponent)

pub returns-clause-value : goal.returns-clause-value
returns-clause-value c = rw (c.requires.is, ← c.reverse.ensures.value) (lowest_bits c)

pub returns-clause-order : goal.returns-clause-order
returns-clause-order c =
    let exponent = c.requires.exponent in
    let small : exponent < 32 = exponent_below exponent 32 (omega (arith, c.requires.is)) in
    rw (lowest_bits c, ← c.reverse.ensures.again) (λ ancestor is. ancestor_not_behind ancestor c.reverse.result exponent (omega arith) c.reverse.type_inv is)

pub returns-clause-greatest : goal.returns-clause-greatest
returns-clause-greatest c =
    let exponent = c.requires.exponent in
    let small : exponent < 32 = exponent_below exponent 32 (omega (arith, c.requires.is)) in
    rw (lowest_bits c, c.requires.is, ← c.reverse.ensures.again) (λ other short below. lowest_is_last other c.reverse.result exponent (omega arith) short below)
