use Rattle.std.proofs.Common.{◌≡◌, ◌<◌}
use Rattle.striped_map.specs.Hosts.{Collects, numbers, seen_by}
use Rattle.striped_map.proofs.host.Host.collect.Given as goal

abbrev pub invariant-loop-number : goal.invariant-loop-number
invariant-loop-number l = record {
  map : l.self.map ≡ l.initial.self.map;
  collects : Collects l.initial.self l.self;
  numbers : numbers l.self ≡ numbers l.initial.self;
  seen : seen_by l.self ≡ seen_by l.initial.self;
  some : 0 < l.number;
}
