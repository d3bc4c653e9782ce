use Rattle.std.proofs.Common.{◌≡◌, ◌++◌, ◌∷◌, [], drop, take, length}
use Rattle.txn_words.specs.Map.{get}
use Rattle.txn_trace.specs.Serial.{serial}
use Rattle.serial_check.specs.Fed.{IsFed}
use Rattle.serial_check.specs.Serializable.{IsSerializableByCommits}
use Rattle.bad_entry.specs.Commits.{last_commit, settling_commit}
use Rattle.bad_entry.specs.Places.{last_from}
use Rattle.bad_entry.proofs.due.last_commit.Given as goal

abbrev pub invariant-loop-index : goal.invariant-loop-index
invariant-loop-index l = record {
  fed : IsFed (take l.index l.entries) l.checker;
  rest : IsSerializableByCommits l.entries → last_from (λ g e. settling_commit (length g) e (get (serial g) l.key) (get (serial (g ++ e ∷ [])) l.key)) (take l.index l.entries) (drop l.index l.entries) l.last ≡ last_commit l.key l.entries;
}
