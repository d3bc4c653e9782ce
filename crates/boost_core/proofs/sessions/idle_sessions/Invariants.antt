use Rattle.std.proofs.Common.{◌≡◌, ◌≤◌, vec_len, vec_capacity, All}
use Rattle.boost_core.proofs.Vocabulary.{IsIdle}
use Rattle.boost_core.proofs.sessions.idle_sessions.Given as goal

abbrev pub invariant-loop : goal.invariant-loop
invariant-loop l = record {
  room : l.count ≤ vec_capacity l.sessions;
  count : vec_len l.sessions ≡ l.counter;
  idle : All IsIdle l.sessions.items;
}
