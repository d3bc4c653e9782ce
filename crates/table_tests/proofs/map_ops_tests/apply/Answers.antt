use Rattle.std.proofs.Common.{ℕ, Option}
use Rattle.std.specs.Prelude.{IfSome}
use Rattle.std.proofs.lemmas.Result.{IfOk-weaker}
use Rattle.map_ops.specs.declared.job.MapJob.{MapJob}
use Rattle.map_ops.specs.Changes.{Applies, ShowsAfter}
use Rattle.map_ops.proofs.Laws.{applied_shows_after}
use Rattle.table_tests.proofs.map_ops_tests.apply.Goals as goal

pub returns : goal.returns
returns c =
    IfOk-weaker c.apply.result (λ (done : Option ℕ × Option MapJob). Applies c.args.table.now c.apply.new.self c.args.op done.0 done.1) (λ (done : Option ℕ × Option MapJob). IfSome done.1 (λ job. ShowsAfter job c.apply.new.self))
    (λ (done : Option ℕ × Option MapJob) (applies : Applies c.args.table.now c.apply.new.self c.args.op done.0 done.1). applied_shows_after c.args.table.now c.apply.new.self c.args.op done.0 done.1 applies) c.apply.ensures.ok
