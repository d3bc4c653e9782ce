use Rattle.std.proofs.Common.{ap, [], ◌≡◌, ◌≤◌, length, ◌∙◌}
use Rattle.boost_core.proofs.Vocabulary.{Side, side_of}
use Rattle.boost_core.proofs.Spares.{rests_more, newest_owned, popped_covered, no_jobs, none_left, front_none}
use Rattle.boost_core.proofs.session.Session.settle.Goals as goal

pub discard-requires : goal.discard-requires
discard-requires c = newest_owned c.loop-job.table c.loop-job.self.log.jobs c.pop_above.new.self.jobs c.in-Some.job c.in-Some.ensures.jobs c.loop-job.invariant.own.0 c.loop-job.invariant.own.1

pub loop-job-preserved : goal.loop-job-preserved
loop-job-preserved c = record {
  rests = rests_more _ c.loop-job.table c.discard.new.self _ c.loop-job.invariant.rests c.discard.ensures.back c.discard.ensures.follows;
  own = (c.loop-job.invariant.own.0, popped_covered c.loop-job.table c.discard.new.self c.loop-job.self.log.jobs c.pop_above.new.self.jobs c.in-Some.job c.in-Some.ensures.jobs c.discard.ensures.back c.loop-job.invariant.own.0 c.loop-job.invariant.own.1);
  spares = λ others covered. popped_covered c.loop-job.table c.discard.new.self c.loop-job.self.log.jobs c.pop_above.new.self.jobs c.in-Some.job c.in-Some.ensures.jobs c.discard.ensures.back others (c.loop-job.invariant.spares others covered);
  side = (λ i. record (side_of c.loop-job.self) { jobs = c.pop_above.new.self.jobs; kept = c.in-Some.ensures.kept i }) ∙ ap (λ (side : Side). record side { jobs = c.pop_above.new.self.jobs }) c.loop-job.invariant.side;
}

pub returns : goal.returns
returns c =
    let none : length c.loop-job.self.log.jobs ≤ 0 = none_left c.pop_above.result (length c.loop-job.self.log.jobs) c.in_default.is c.pop_above.ensures.some.1 in
    let jobs : c.cut.new.self.jobs ≡ [] = c.cut.ensures.jobs ∙ front_none c.loop-job.self.log.jobs c.pop_above.new.self.jobs _ c.pop_above.ensures.jobs none in
    record {
      rests = c.loop-job.invariant.rests;
      spares = λ others covered. rw jobs (rw (no_jobs c.loop-job.self.log.jobs none) at (c.loop-job.invariant.spares others covered));
      becomes = (λ i. record (side_of c.loop-job.self) { jobs = jobs i; kept = c.cut.ensures.kept i }) ∙ ap (λ (side : Side). record side { jobs = []; kept = [] }) c.loop-job.invariant.side;
    }
