use Rattle.std.proofs.Common.{ap}
use Rattle.map_ops.proofs.Vocabulary.{err_from_is_err_and}
use Rattle.txn_words.specs.Owed.{may_change}
use Rattle.map_ops.proofs.DoesLemmas.{refused}
use Rattle.map_ops.proofs.change.plan.Goals as goal

pub returns-in_err-spare-in-Put-clause-err : goal.returns-in_err-spare-in-Put-clause-err
returns-in_err-spare-in-Put-clause-err c =
    let p = err_from_is_err_and c.from_residual.result c.from_residual.ensures.1 in
    rw (p.1, p.2) (refused c.args.list.now c.args.op _ (ap may_change c.in-Put.is) c.in_err-spare-in-Put.ensures.err)

pub returns-in_err-spare-in-Take-clause-err : goal.returns-in_err-spare-in-Take-clause-err
returns-in_err-spare-in-Take-clause-err c =
    let p = err_from_is_err_and c.from_residual-in_err-spare-in-Take.result c.from_residual-in_err-spare-in-Take.ensures.1 in
    rw (p.1, p.2) (refused c.args.list.now c.args.op _ (ap may_change c.in-Take.is) c.in_err-spare-in-Take.ensures.err)

pub returns-in_err-spare-in-PutIf-clause-err : goal.returns-in_err-spare-in-PutIf-clause-err
returns-in_err-spare-in-PutIf-clause-err c =
    let p = err_from_is_err_and c.from_residual-in_err-spare-in-PutIf.result c.from_residual-in_err-spare-in-PutIf.ensures.1 in
    rw (p.1, p.2) (refused c.args.list.now c.args.op _ (ap may_change c.in-PutIf.is) c.in_err-spare-in-PutIf.ensures.err)
