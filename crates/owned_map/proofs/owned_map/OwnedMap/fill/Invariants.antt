use Rattle.std.proofs.Common.{◌≡◌, ◌≤◌, ◌*◌, take}
use Rattle.owned_map.specs.Trimmed.{IsFilling}
use Rattle.owned_map.proofs.TrimmedMap.{HasPut}
use Rattle.owned_map.proofs.owned_map.OwnedMap.fill.Given as goal

abbrev pub invariant-loop-pair : goal.invariant-loop-pair
invariant-loop-pair l = record {
  put : HasPut (take l.pair-index l.pairs) l.self.core.history;
  limits : l.self.core.limits ≡ l.fn.self.core.limits;
  only : IsFilling l.self.core;
  stamp : l.self.core.stamp ≤ 2 * l.pair-index;
}
