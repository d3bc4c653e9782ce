use Rattle.std.proofs.Common.{map, string_bytes}
use Rattle.std.specs.IoError.{error_kind}
use Rattle.judge_program.specs.Words.{asked_of}
use Rattle.judge_program.proofs.Running.{no_words, no_request, fulfils}
use Rattle.judge_program.proofs.program.run_words.Goals as goal

pub returns-in-Err : goal.returns-in-Err
returns-in-Err g c = rw c.memory_or.ensures (no_words (g.S.System.spoken c.args.system.now) _ _ (error_kind c.in-Err.error) c.in-Err.ensures.err)

pub returns-in_err-request : goal.returns-in_err-request
returns-in_err-request g c =
    no_request (g.S.System.spoken c.args.system.now) (map string_bytes c.in-Ok.words.items) _ _ c.from_residual.result c.in_err-request.field-0.0 c.in-Ok.ensures.words
    (rw c.deref.ensures.value at c.in_err-request.ensures.err) c.from_residual.ensures.1

pub returns : goal.returns
returns g c =
    fulfils (g.S.System.spoken c.args.system.now) (map string_bytes c.in-Ok.words.items) (g.S.System.bytes c.args.system.now) (asked_of c.in_ok-request.request) _ _ c.answer.result
    c.in-Ok.ensures.words (rw c.deref.ensures.value at c.in_ok-request.ensures.request) c.answer.ensures
