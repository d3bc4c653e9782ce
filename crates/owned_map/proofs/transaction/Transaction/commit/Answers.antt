use Rattle.std.proofs.Common.{subst, sym}
use Rattle.std.specs.Prelude.{OnErr}
use Rattle.owned_map.specs.Within.{IsTakenBack}
use Rattle.owned_map.proofs.Calls.{back_on, on_err}
use Rattle.owned_map.proofs.transaction.Transaction.commit.Goals as goal
use Rattle.owned_map.proofs.transaction.Transaction.commit.Goals.{in-Ok, in-Err}

pub returns-clause-err : goal.returns-clause-err
returns-clause-err c = elim c.match-commit.branch [
  | in-Ok w ↦ subst (λ r. OnErr r (IsTakenBack c.args.self.caller c.args.self.map.now.core c.match-commit.map.core)) (sym w.result-is) tt
  | in-Err w ↦ subst (λ m. OnErr c.match-commit.result (IsTakenBack c.args.self.caller c.args.self.map.now.core m.core)) (sym w.map-is)
      (on_err c.match-commit.result (back_on c.args.self.caller c.args.self.map.now.core c.commit.new.self.core w.abort-aborted.new.self.core w.in-Err.ensures.err w.abort-aborted.ensures.back))
]
