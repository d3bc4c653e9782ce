use Rattle.locked_map.proofs.Calling.{ended_of}
use Rattle.locked_map.proofs.shared_map.SharedMap.run.Goals as goal

pub returns : goal.returns
returns g c =
    let ready = c.in_default.ensures in
    let drove = c.drive-end.ensures in
    ended_of g.S.Side.words_of c.args.me.now c.make_ready.new.self c.drive-end.new.me c.follow.new.self c.args.call ready.free ready.same ready.side ready.readied drove.side drove.caller drove.claims c.follow.ensures.same
    c.drive-end.result drove.broken drove.run drove.held c.follow.ensures.side c.follow.ensures.claims
