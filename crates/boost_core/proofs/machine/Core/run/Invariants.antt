use Rattle.std.proofs.Common.{◌≡◌, ◌≤◌, length, take, vec_len, vec_capacity}
use Rattle.boost_core.proofs.Vocabulary.{Moves}
use Rattle.boost_core.proofs.machine.Core.run.Given as goal

abbrev pub invariant-loop-step : goal.invariant-loop-step
invariant-loop-step l = record {
  moves : Moves l.fn.self (take l.step-index l.steps) l.answers.items l.self;
  count : vec_len l.answers ≡ l.step-index;
  words : l.self.words ≡ l.fn.self.words;
  room : length l.steps ≤ vec_capacity l.answers;
}
