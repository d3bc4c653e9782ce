use Rattle.std.proofs.Common.{◌+◌, arith, take}
use Rattle.txn_files.proofs.Writes.{Appends-nothing, Appends-kept, written_more, still_within, written_all}
use Rattle.txn_files.proofs.output.write_text.Goals as goal

pub loop-done-init : goal.loop-done-init
loop-done-init g c = record { within = omega arith; written = Appends-nothing (g.W.Write.contents c.args.output.now) }

pub returns-in-Ok-eq0-clause-err : goal.returns-in-Ok-eq0-clause-err
returns-in-Ok-eq0-clause-err g c =
    (c.loop-done.done + c.in-Ok-eq0.field-0, omega arith, written_more (g.W.Write.contents c.args.output.now) (g.W.Write.contents c.loop-done.output) (g.W.Write.contents c.write.new.self) c.args.text.now c.loop-done.done c.in-Ok-eq0.field-0 c.loop-done.invariant.written c.in-Ok-eq0.ensures.bytes)

pub loop-done-preserved : goal.loop-done-preserved
loop-done-preserved g c = record {
  within = still_within c.args.text.now c.loop-done.done c.in-Ok.count c.loop-done.invariant.within c.in-Ok.ensures.bound;
  written = written_more (g.W.Write.contents c.args.output.now) (g.W.Write.contents c.loop-done.output) (g.W.Write.contents c.write.new.self) c.args.text.now c.loop-done.done c.in-Ok.count c.loop-done.invariant.written c.in-Ok.ensures.bytes;
}

pub returns-in-Err-clause-err : goal.returns-in-Err-clause-err
returns-in-Err-clause-err g c =
    (c.loop-done.done, omega arith, Appends-kept (g.W.Write.contents c.args.output.now) (g.W.Write.contents c.loop-done.output) (g.W.Write.contents c.write.new.self) (take c.loop-done.done c.args.text.now) c.loop-done.invariant.written c.in-Err.ensures.bytes)

pub returns-clause-ok : goal.returns-clause-ok
returns-clause-ok g c = written_all (g.W.Write.contents c.args.output.now) (g.W.Write.contents c.loop-done.output) c.args.text.now c.loop-done.done c.loop-done.invariant.within c.loop-done-test.false c.loop-done.invariant.written
