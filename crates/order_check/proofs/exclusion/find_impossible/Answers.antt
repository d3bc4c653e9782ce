use Rattle.std.proofs.lemmas.Option.{IfSome_then}
use Rattle.order_check.specs.Timing.{since_in}
use Rattle.order_check.proofs.exclusion.find_impossible.Goals as goal

pub returns-then-is_some : goal.returns-then-is_some
returns-then-is_some c = IfSome_then c.in_ok-found.found c.in_ok-found.ensures.found (λ access found. found c.args.count (since_in c.args.since.now) c.requires c.loop.invariant)

pub loop-preserved : goal.loop-preserved
loop-preserved c = c.close.ensures c.args.count (since_in c.args.since.now) c.args.accesses.now (c.in_ok-found.ensures.known c.args.count (since_in c.args.since.now) c.requires c.loop.invariant)

pub loop-init : goal.loop-init
loop-init c = c.learn_times.ensures c.args.count c.args.accesses.now (c.in_ok-known.ensures c.args.count (since_in c.args.since.now) c.args.accesses.now)
