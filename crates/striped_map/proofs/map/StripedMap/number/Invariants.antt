use Rattle.std.specs.Prelude.{◌≡◌, ◌≤◌, ◌-◌}
use Rattle.striped_map.specs.Rule.{most}
use Rattle.striped_map.specs.Seats.{keep_of}
use Rattle.striped_map.specs.Steps.{counting}
use Rattle.striped_map.proofs.map.StripedMap.number.Given as goal

abbrev pub invariant-loop-next : goal.invariant-loop-next
invariant-loop-next l = record {
  of : l.seat.table_id ≡ l.self.table.shared.table_id;
  looks : l.seat.me ≡ (counting l.fn.seat.me.0 l.next, l.fn.seat.me.1);
  more : l.fn.seat.me.0.made ≤ l.next;
  few : l.next ≤ most (keep_of l.self);
}

abbrev pub decreases-loop-next : goal.decreases-loop-next
decreases-loop-next l = l.most - l.next
