use Rattle.std.proofs.Common.{rules}
use Rattle.std.proofs.lemmas.Result.{err_from_is_err_and}
use Rattle.samples.specs.StripedTransfers.{HasWorked}
use Rattle.samples.proofs.Commits.{transferred}
use Rattle.samples.proofs.Tries.{gives_up}
use Rattle.samples.proofs.accounts.transfer.Goals as goal

pub returns-clause-ok : goal.returns-clause-ok
returns-clause-ok c =
    let (b, t, u, did, since, run, busy, few, failed) = c.in_ok-moved.ensures.ok in
    let worked : HasWorked c.args.from c.args.to c.args.sum c.in_ok-moved.moved t.now.me.now u.now.me.now = search rules in
    transferred c.args.from c.args.to c.args.sum c.in_ok-moved._place c.in_ok-moved.moved c.args.caller.now b t.now.me.now u.now.me.now c.transact.new.self c.requires since run worked

pub returns-in_err-moved-clause-tries : goal.returns-in_err-moved-clause-tries
returns-in_err-moved-clause-tries c =
    let p = err_from_is_err_and c.from_residual.result c.from_residual.ensures.1 in
    rw (p.1, p.2) (λ closed. gives_up (λ t. t.now.me.now) _ c.args.from c.args.to c.args.sum c.args.tries _ c.args.caller.now c.transact.new.self (λ t moved u did. search rules) (c.in_err-moved.ensures.err closed))
