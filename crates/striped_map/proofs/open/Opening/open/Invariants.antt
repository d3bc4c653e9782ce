use Rattle.std.specs.Prelude.{◌≡◌, ℕ, ◌+◌, ◌<◌, [], vec_len, vec_capacity}
use Rattle.std.specs.List.{HoldsAt}
use Rattle.striped_map.specs.Callers.{IsNew}
use Rattle.striped_map.specs.Rule.{opener}
use Rattle.striped_map.specs.Seats.{keep_of}
use Rattle.striped_map.proofs.open.Opening.open.Given as goal

abbrev pub invariant-loop-place : goal.invariant-loop-place
invariant-loop-place l = record {
  table : l.first.table_id ≡ l.map.value.table.shared.table_id;
  keep : keep_of l.map.value ≡ l.keep;
  first : l.first.me ≡ (record (opener l.keep l.callers) { next = l.place + 1 }, []);
  room : vec_capacity l.all ≡ l.callers;
  count : vec_len l.all ≡ l.place;
  each : (k : ℕ) → k < l.place → HoldsAt (IsNew l.map.value l.stripes (k + 1)) l.all.items k;
}
