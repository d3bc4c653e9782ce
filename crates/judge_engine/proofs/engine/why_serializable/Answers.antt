use Rattle.std.specs.Prelude.{string_bytes}
use Rattle.judge_engine.specs.DotLines.{text_or_graph}
use Rattle.judge_engine.specs.Ordered.{IsTextFor}
use Rattle.judge_engine.proofs.Ends.{answer_written, err_more, leaves_text, leaves_told}
use Rattle.judge_engine.proofs.engine.why_serializable.Goals as goal

pub tell-requires : goal.tell-requires
tell-requires g c = rw (c.deref-in-Err.ensures.value, ← c.deref.ensures.value) c.in-Err.ensures.err

pub returns-in-Ok-clause-answers : goal.returns-in-Ok-clause-answers
returns-in-Ok-clause-answers g c =
    let is = rw c.deref.ensures.value at c.in-Ok.ensures.ok in
    answer_written c.args.real_time (text_or_graph c.args.real_time c.args.as_graph) (g.R.Read.remaining c.args.input) (g.W.Write.contents c.args.output.now) (g.W.Write.contents c.write_answer.new.output) c.in_ok-bytes.bytes.items c.in-Ok.answer (string_bytes c.in-Ok.text) c.write_answer.result c.in_ok-bytes.ensures is
    (rw c.as_str.ensures.value at c.write_answer.ensures.ok)

pub returns-in-Ok-clause-fault : goal.returns-in-Ok-clause-fault
returns-in-Ok-clause-fault g c =
    let is = rw c.deref.ensures.value at c.in-Ok.ensures.ok in
    let left = rw c.as_str.ensures.value at c.write_answer.ensures.err in
    err_more c.write_answer.result _ _ (λ fault. leaves_text (g.R.Read.remaining c.args.input) (g.W.Write.contents c.args.output.now) (g.W.Write.contents c.write_answer.new.output) c.in_ok-bytes.bytes.items c.in_ok-bytes.ensures (IsTextFor c.args.real_time (text_or_graph c.args.real_time c.args.as_graph)) (string_bytes c.in-Ok.text) fault (c.in-Ok.answer, is)) left

pub returns-clause-fault : goal.returns-clause-fault
returns-clause-fault g c =
    leaves_told (g.R.Read.remaining c.args.input) _ _ c.in_ok-bytes.bytes.items c.in_ok-bytes.ensures (IsTextFor c.args.real_time (text_or_graph c.args.real_time c.args.as_graph)) c.tell.result (rw c.deref-in-Err.ensures.value at c.tell.ensures)
