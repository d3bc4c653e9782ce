use Rattle.std.proofs.Common.{◌≡◌, ◌≢◌, sym, arith, ◌^◌, ◌*◌, ◌%◌, ◌-◌}
use Rattle.std.proofs.lemmas.Nat.{one_shl, pow_pos}
use Rattle.split_key.specs.Split.{parent_of}
use Rattle.split_key.proofs.AncestorLemmas.{highest_cleared_is, ancestor_before, IsAncestor-self, IsAncestor-parent_of}
use Rattle.split_key.proofs.bucket.parent.Goals as goal
use Rattle.split_key.proofs.bucket.parent.Goals.{After-ilog2}

value_of : (c : After-ilog2) → c.args.bucket - 1 * 2 ^ c.ilog2.result % 2 ^ 32 ≡ parent_of c.args.bucket
unfolding parent_of
value_of c =
    let bit = c.ilog2.result in
    let power = one_shl bit 32 c.ilog2.ensures.bound in
    sym (highest_cleared_is 32 c.args.bucket bit _ (omega (arith, power)) (omega (arith, power)) c.ilog2.ensures.bound)

pub returns-clause-value : goal.returns-clause-value
returns-clause-value c = value_of c

pub returns-clause-order : goal.returns-clause-order
returns-clause-order c =
    let bucket = c.args.bucket in
    let above = one_shl c.ilog2.result 32 c.ilog2.ensures.bound in
    let other : parent_of bucket ≢ bucket = omega (arith, value_of c, above, pow_pos c.ilog2.result) in
    rw (value_of c) (ancestor_before (parent_of bucket) bucket (omega arith) (IsAncestor-parent_of bucket bucket (IsAncestor-self bucket)) other)

pub returns-clause-ancestor : goal.returns-clause-ancestor
returns-clause-ancestor c descendant is = rw (value_of c) (IsAncestor-parent_of c.args.bucket descendant is)
