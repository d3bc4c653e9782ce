use Rattle.std.proofs.Common.{rules}
use Rattle.samples.specs.Visits.{HasDone}
use Rattle.samples.proofs.Whole.{has_made}
use Rattle.samples.proofs.visits.Visit.make.Goals as goal

pub returns : goal.returns
returns c =
    let (b, t, u, did, since, run, busy, few, failed) = c.in_ok-reply.ensures.ok in
    let work : HasDone c.args.self c.in_ok-reply.reply t.now.me.now u.now.me.now = search rules in
    has_made c.args.self c.in_ok-reply.reply c.in_ok-reply.field-0-1 c.args.me.now b t.now.me.now u.now.me.now c.transact.new.self since run work c.in_ok-reply.ensures.closed
