use Rattle.std.specs.Prelude.{string_bytes}
use Rattle.std.proofs.lemmas.Result.{err_from_is_err_and}
use Rattle.judge_engine.specs.Files.{FailsToCheck}
use Rattle.judge_engine.specs.OrderLines.{order_text}
use Rattle.judge_engine.specs.Ordered.{IsAnswerText}
use Rattle.judge_engine.proofs.Ends.{answer_written, err_more, leaves_answer, leaves_check}
use Rattle.judge_engine.proofs.engine.check_serializable.Goals as goal

pub returns-in_err-answer-clause-fault : goal.returns-in_err-answer-clause-fault
returns-in_err-answer-clause-fault g c =
    let p = err_from_is_err_and c.from_residual-in_err-answer.result c.from_residual-in_err-answer.ensures.1 in
    rw (p.1, p.2) (leaves_check _ _ _ c.in_ok-bytes.bytes.items c.in_err-answer.field-0.0 c.in_ok-bytes.ensures c.in_err-answer.ensures.err)

pub returns-clause-answers : goal.returns-clause-answers
returns-clause-answers g c =
    answer_written c.args.real_time (order_text c.args.real_time c.args.shows_order) (g.R.Read.remaining c.args.input) (g.W.Write.contents c.args.output.now) (g.W.Write.contents c.write_answer.new.output) c.in_ok-bytes.bytes.items c.in_ok-answer.answer (string_bytes c.in_ok-answer.text) c.write_answer.result c.in_ok-bytes.ensures c.in_ok-answer.ensures.ok
    (rw c.as_str.ensures.value at c.write_answer.ensures.ok)

pub returns-clause-fault : goal.returns-clause-fault
returns-clause-fault g c =
    let remaining = g.R.Read.remaining c.args.input in
    let left = rw c.as_str.ensures.value at c.write_answer.ensures.err in
    err_more c.write_answer.result _ _ (λ fault. leaves_answer (IsAnswerText c.args.real_time (order_text c.args.real_time c.args.shows_order) remaining) (FailsToCheck remaining) (g.W.Write.contents c.args.output.now) (g.W.Write.contents c.write_answer.new.output) (string_bytes c.in_ok-answer.text) fault (c.in_ok-bytes.bytes.items, c.in_ok-bytes.ensures, (c.in_ok-answer.answer, c.in_ok-answer.ensures.ok))) left
