use Rattle.std.specs.Prelude.{◌≡◌, ◌++◌, ◌-◌, ◌≤◌, ◌+◌, take, map, vec_len, vec_capacity}
use Rattle.striped_map.specs.Contents.{whole}
use Rattle.striped_map.proofs.contents.add_pairs.Given as goal

abbrev pub invariant-loop-place : goal.invariant-loop-place
invariant-loop-place l = record {
  items : l.pairs.items ≡ l.initial.pairs.items ++ map (whole l.stripes l.stripe) (take l.place l.found.items);
  room : vec_len l.pairs + (vec_len l.found - l.place) ≤ vec_capacity l.pairs;
}
