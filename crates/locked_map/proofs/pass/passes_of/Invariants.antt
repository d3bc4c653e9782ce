use Rattle.std.specs.Prelude.{◌≡◌, ◌+◌, length, map}
use Rattle.locked_map.specs.Vocabulary.{range_with_len}
use Rattle.key_words.specs.Seats.{AreSeats}
use Rattle.locked_map.specs.Tokens.{new_ticket}
use Rattle.locked_map.proofs.pass.passes_of.Given as goal

abbrev pub invariant-loop-seat : goal.invariant-loop-seat
invariant-loop-seat g l = (l.all.parts ≡ length l.seats.items) × (l.all.amount ≡ 0) × AreSeats l.words.value (length l.seats.items) l.seats.items × (length l.seats.items + length l.passes.items ≡ l.limits.callers)
    × (l.passes.items ≡ map (new_ticket l.limits l.words.value.table.shared.table_id) (range_with_len (length l.seats.items) (length l.passes.items)))

abbrev pub decreases-loop-seat : goal.decreases-loop-seat
decreases-loop-seat g l = length l.seats.items
