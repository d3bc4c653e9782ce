use Rattle.key_locks.specs.Rights.{AreAll}
use Rattle.key_locks.proofs.stripe_right.StripeRight.all.Given as goal

abbrev pub invariant-loop-stripe : goal.invariant-loop-stripe
invariant-loop-stripe l = AreAll l.stripe l.rights.items
