use Rattle.std.proofs.Common.{◌≡◌, ◌-◌, ◌≤◌, ◌++◌, replicate}
use Rattle.striped_map.proofs.apart.Apart.fill.Given as goal

abbrev pub invariant-loop : goal.invariant-loop
invariant-loop g l = record {
  items : l.self.items ≡ l.initial.self.items ++ replicate l.counter l.item;
  room : l.more - l.counter ≤ l.self.room;
}
