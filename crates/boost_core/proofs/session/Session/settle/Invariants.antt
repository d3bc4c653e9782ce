use Rattle.std.proofs.Common.{◌≡◌, length}
use Rattle.boost_core.proofs.Vocabulary.{times_in, StaysCovered, side_of, Rests, CanSettle}
use Rattle.boost_core.proofs.session.Session.settle.Given as goal

abbrev pub invariant-loop-job : goal.invariant-loop-job
invariant-loop-job l = record {
  rests : Rests l.fn.table l.table;
  own : CanSettle l.self l.table;
  spares : StaysCovered l.fn.table (times_in l.fn.self.log.jobs) l.table (times_in l.self.log.jobs);
  side : side_of l.self ≡ record (side_of l.fn.self) { jobs = l.self.log.jobs };
}

abbrev pub decreases-loop-job : goal.decreases-loop-job
decreases-loop-job l = length l.self.log.jobs
