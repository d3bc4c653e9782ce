use Rattle.std.proofs.Common.{sym, ◌∙◌, arith}
use Rattle.bucket_table.proofs.NearestLemmas.{passing_self, passing_parent, nearest_passing, nearest_before, nearest_start}
use Rattle.bucket_table.proofs.buckets.Buckets.nearest.Goals as goal

pub loop-dummy-init : goal.loop-dummy-init
loop-dummy-init c = passing_self _ _

pub loop-dummy-preserved : goal.loop-dummy-preserved
loop-dummy-preserved c = rw c.parent-at.ensures.value (passing_parent _ _ _ c.loop-dummy.invariant (sym c.dummy.ensures.dummy ∙ c.in_default.is))

pub returns-in-Some-clause-nearest : goal.returns-in-Some-clause-nearest
returns-in-Some-clause-nearest c = nearest_passing _ _ _ _ c.loop-dummy.invariant (sym c.in-Some.ensures.dummy)

pub returns-in-Some-clause-before : goal.returns-in-Some-clause-before
returns-in-Some-clause-before c list home = nearest_before _ _ _ _ home (returns-in-Some-clause-nearest c) c.ranges.bucket.fits

pub returns-in-Some-clause-start : goal.returns-in-Some-clause-start
returns-in-Some-clause-start c list key home =
    let sound = c.dummy.ensures.sound in
    nearest_start _ _ _ _ home (returns-in-Some-clause-nearest c) sound.size (omega (arith, sound.most, sound.fits)) key
