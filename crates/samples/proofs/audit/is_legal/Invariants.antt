use Rattle.std.proofs.Common.{ℕ, ◌<◌, get_or}
use Rattle.samples.specs.Vocabulary.{Entry, caller_of}
use Rattle.samples.proofs.audit.is_legal.Given as goal

abbrev pub invariant-loop-entry : goal.invariant-loop-entry
invariant-loop-entry l = (k : ℕ) (d : Entry) → k < l.entry-index → caller_of (get_or l.entries k d) < 64
