use Rattle.std.proofs.Common.{◌-◌, ◌+◌, sym, ◌∙◌, arith}
use Rattle.striped_map.proofs.Recording.{put_next, put_last}
use Rattle.striped_map.proofs.gather.put_undone.Goals as goal

pub loop-preserved : goal.loop-preserved
loop-preserved c = let lt = c.loop-test.true in
    c.loop.invariant ∙ put_next c.loop.table.items c.put.new.table.items c.loop.next c.args.number (c.args.count - c.loop.counter) (c.args.count - (c.loop.counter + 1)) c.args.last (let f = c.loop.auto.next-fits in omega arith) (omega arith) c.put.ensures

pub returns : goal.returns
returns c = let ge = c.loop-test.false in let le = c.loop.auto.counter-end in
    sym (c.loop.invariant ∙ put_last c.loop.table.items c.put-2.new.table.items c.loop.next c.args.number (c.args.count - c.loop.counter) c.args.last (let f = c.loop.auto.next-fits in omega arith) (omega arith) c.requires c.put-2.ensures)
