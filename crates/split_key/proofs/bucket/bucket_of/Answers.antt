use Rattle.std.proofs.Common.{◌≡◌, bit_and, arith, ◌^◌, ◌<◌, ◌-◌, ◌%◌}
use Rattle.std.proofs.lemmas.Nat.{and_mask}
use Rattle.split_key.proofs.AncestorLemmas.{exponent_below, ancestor_before_key}
use Rattle.split_key.proofs.bucket.bucket_of.Goals as goal
use Rattle.split_key.proofs.bucket.bucket_of.Goals.{After-from}

value_of : (c : After-from) → bit_and c.number.result c.from.result ≡ c.args.key % 2 ^ c.requires.exponent
value_of c =
    let mask : c.from.result ≡ 2 ^ c.requires.exponent - 1 = omega (arith, c.requires.is) in
    rw (c.number.ensures, mask) (and_mask c.args.key c.requires.exponent)

pub returns-clause-value : goal.returns-clause-value
returns-clause-value c = rw (c.requires.is) (value_of c)

pub returns-clause-order : goal.returns-clause-order
returns-clause-order c =
    let exponent = c.requires.exponent in
    let small : exponent < 32 = exponent_below exponent 32 (omega (arith, c.requires.is)) in
    rw (value_of c) (λ ancestor is. ancestor_before_key ancestor c.args.key exponent (omega arith) is)
