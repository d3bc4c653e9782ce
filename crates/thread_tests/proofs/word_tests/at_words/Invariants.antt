use Rattle.std.specs.Prelude.{◌≡◌, length}
use Rattle.key_words.specs.Seats.{AreSeats, stripes_of}
use Rattle.thread_tests.proofs.word_tests.at_words.Given as goal

abbrev pub invariant-loop-seat : goal.invariant-loop-seat
invariant-loop-seat l = (stripes_of l.words.value ≡ l.stripes) × AreSeats l.words.value (length l.seats.items) l.seats.items

abbrev pub decreases-loop-seat : goal.decreases-loop-seat
decreases-loop-seat l = length l.seats.items
