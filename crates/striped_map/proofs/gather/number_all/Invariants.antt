use Rattle.std.specs.Prelude.{◌≡◌, ◌+◌, ◌≤◌, ◌++◌, drop, vec_len, vec_capacity}
use Rattle.striped_map.specs.Gathered.{numbered}
use Rattle.striped_map.proofs.gather.number_all.Given as goal

abbrev pub invariant-loop-place : goal.invariant-loop-place
invariant-loop-place l = record {
  items : numbered 0 0 l.table.items ≡ l.all.items ++ numbered l.begun l.commits (drop l.place l.table.items);
  few : l.begun + l.commits ≤ l.place;
  len : vec_len l.all ≡ l.place;
  room : vec_capacity l.all ≡ vec_len l.table;
}
