use Rattle.std.proofs.Common.{◌≡◌, vec_len}
use Rattle.key_words.specs.Kept.{none_held}
use Rattle.key_words.specs.Seats.{IsOf, known}
use Rattle.key_words.proofs.rights.Rights.give_back.Given as goal

abbrev pub invariant-loop-right : goal.invariant-loop-right
invariant-loop-right l = record {
  seat : IsOf l.self.seat l.words;
  given : none_held (known l.self.seat) ≡ none_held (known l.initial.self.seat);
}

abbrev pub decreases-loop-right : goal.decreases-loop-right
decreases-loop-right l = vec_len l.self.rights
