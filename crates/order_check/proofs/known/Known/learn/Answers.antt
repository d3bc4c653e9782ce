use Rattle.std.proofs.Common.{arith}
use Rattle.order_check.proofs.Knowing.{known_more}
use Rattle.order_check.proofs.known.Known.learn.Goals as goal

pub returns-then-not-is_before : goal.returns-then-not-is_before
returns-then-not-is_before c n since accesses were so =
    known_more n since accesses c.args.self.now.rows.items c.args.first c.args.second c.index_mut.result.now c.set.new.row
    (omega (arith, c.args.self.now.rows.ok.0, c.if-first-len.true, c.len.ensures)) c.index_mut.ensures.value c.set.ensures were so
