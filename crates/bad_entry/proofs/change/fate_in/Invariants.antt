use Rattle.std.proofs.Common.{◌≡◌, ◌≤◌, None, drop}
use Rattle.bad_entry.specs.Changes.{fate_from}
use Rattle.bad_entry.proofs.change.fate_in.Given as goal

abbrev pub invariant-loop-packed : goal.invariant-loop-packed
invariant-loop-packed l = record {
  rest : fate_from l.caller l.waiting l.above (drop l.packed-index l.after) ≡ fate_from l.caller None 0 l.after;
  few : l.above ≤ l.packed-index;
}
