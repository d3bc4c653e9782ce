use Rattle.std.specs.Prelude.{◌≡◌}
use Rattle.locked_map.specs.Holds.{IsGoing}
use Rattle.locked_map.specs.Calls.{IsHolding}
use Rattle.locked_map.proofs.shared_map.SharedMap.drive.Given as goal

abbrev pub invariant-loop : goal.invariant-loop
invariant-loop g l = record {
  number : l.me.number ≡ l.fn.me.number;
  limits : l.me.limits ≡ l.fn.me.limits;
  side : l.me.side ≡ l.fn.me.side;
  claims : l.me.claims ≡ l.fn.me.claims;
  going : IsGoing l.fn.me.seen l.me.seen l.drive;
  caller : l.drive.caller ≡ l.fn.me.number;
  call : l.drive.call ≡ l.fn.call;
  holding : IsHolding l.fn.me l.fn.call l.me l.drive;
}
