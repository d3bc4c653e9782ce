use Rattle.std.specs.Prelude.{string_bytes}
use Rattle.judge_engine.specs.Whys.{IsExplained}
use Rattle.judge_engine.proofs.Ends.{err_more, leaves_explained, leaves_told}
use Rattle.judge_engine.proofs.engine.why.Goals as goal

pub tell-requires : goal.tell-requires
tell-requires g c = rw (c.deref-in-Err.ensures.value, ← c.deref.ensures.value) c.in-Err.ensures.err

pub returns-in-Ok-clause-fault : goal.returns-in-Ok-clause-fault
returns-in-Ok-clause-fault g c =
    let is = rw c.deref.ensures.value at c.in-Ok.ensures.ok in
    let left = rw c.as_str.ensures.value at c.write_explained.ensures.err in
    err_more c.write_explained.result _ _ (λ fault. leaves_explained (g.R.Read.remaining c.args.input) (g.W.Write.contents c.args.output.now) (g.W.Write.contents c.write_explained.new.output) c.in_ok-bytes.bytes.items c.in_ok-bytes.ensures c.args.by_commits c.in-Ok.verdict (string_bytes c.in-Ok.lines) fault is) left

pub returns-clause-fault : goal.returns-clause-fault
returns-clause-fault g c =
    leaves_told (g.R.Read.remaining c.args.input) _ _ c.in_ok-bytes.bytes.items c.in_ok-bytes.ensures (IsExplained c.args.by_commits) c.tell.result (rw c.deref-in-Err.ensures.value at c.tell.ensures)
