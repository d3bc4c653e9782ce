use Rattle.std.proofs.Common.{refl, sym}
use Rattle.split_key.specs.Sort.{IsNotBefore}
use Rattle.split_key.proofs.AncestorLemmas.{IsAncestor-self}
use Rattle.list_steps.proofs.SweepLemmas.{before_marks}
use Rattle.table_tests.proofs.list_steps_tests.sweep_from_dummy.Goals as goal

pub bucket_at-bucket-requires : goal.bucket_at-bucket-requires
bucket_at-bucket-requires c = record { exponent = 3; is = refl }

pub sweep_from-requires : goal.sweep_from-requires
sweep_from-requires c =
    let late : IsNotBefore c.dummy.result c.in-Some-linked_node.node.now.at = sym c.if-not-is_before.ensures in
    let not_behind = rw c.dummy.ensures.value at late in
    let order = c.bucket_at-bucket.ensures.order _ (IsAncestor-self _) in
    before_marks _ _ _ _ _ c.linked_node.ensures.sound c.in-Some-linked_node.ensures.node c.in-Dummy.is not_behind order c.in-Some.ensures.from
