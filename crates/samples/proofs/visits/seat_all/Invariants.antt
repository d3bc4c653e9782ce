use Rattle.std.specs.Prelude.{◌≡◌, length, map, take}
use Rattle.samples.proofs.visits.seat_all.Given as goal

abbrev pub invariant-loop-me : goal.invariant-loop-me
invariant-loop-me l = (map (λ v. v.me) l.visitors.items ≡ l.yielded) × (map (λ v. v.visit) l.visitors.items ≡ take (length l.yielded) l.visits)
