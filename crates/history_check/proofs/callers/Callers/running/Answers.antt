use Rattle.std.proofs.Common.{◌≡◌, rules, ◌∙◌}
use Rattle.std.specs.List.{count_by}
use Rattle.txn_trace.specs.Legal.{runs}
use Rattle.history_check.specs.declared.caller.Caller.{Caller}
use Rattle.history_check.specs.Callers.{stance_of}
use Rattle.history_check.proofs.Starts.{running_is}
use Rattle.history_check.proofs.callers.Callers.running.Goals as goal

pub returns : goal.returns
returns c h entered =
    let counted : c.count.result ≡ count_by (λ (caller : Caller). runs (stance_of caller).phase) c.args.self.now.table.items = search rules in
    counted ∙ running_is h c.args.self.now entered
