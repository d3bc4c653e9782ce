use Rattle.std.proofs.Common.{◌≡◌, Some, map, refl, string_bytes, sym, ap, ◌∙◌}
use Rattle.std.specs.IoError.{error_kind}
use Rattle.command_line.specs.Words.{asked, asked_of}
use Rattle.unthreaded_program.proofs.Unopened.{of_known, no_words, no_request, not_opened}
use Rattle.unthreaded_program.proofs.opening.open.Goals as goal

pub returns-in-Err-clause-err : goal.returns-in-Err-clause-err
returns-in-Err-clause-err g c =
    rw c.memory_or.ensures (no_words (g.S.System.spoken c.args.system.now) (error_kind c.in-Err.error) c.in-Err.ensures.err)

pub returns-in-Err-request_in-clause-err : goal.returns-in-Err-request_in-clause-err
returns-in-Err-request_in-clause-err g c =
    rw c.fault_of.ensures (no_request (g.S.System.spoken c.args.system.now) (map string_bytes c.in-Ok.words.items) c.in-Err-request_in.reason c.in-Ok.ensures.words (rw c.deref.ensures.value at c.in-Err-request_in.ensures.err))

pub returns-clause-err : goal.returns-clause-err
returns-clause-err g c =
    rw c.memory_or-in-Err-open.ensures (not_opened (g.S.System.spoken c.args.system.now) (map string_bytes c.in-Ok.words.items) c.in-Ok-request_in.request (error_kind c.in-Err-open.error) c.in-Ok.ensures.words
    (ap (λ words. asked (map string_bytes words)) (sym c.deref.ensures.value) ∙ c.in-Ok-request_in.ensures.request))

pub returns-in-Ok-open-clause-ok : goal.returns-in-Ok-open-clause-ok
returns-in-Ok-open-clause-ok g c = record {
  request = c.in-Ok-request_in.request;
  commands = refl;
  spells = of_known (g.S.System.spoken c.args.system.now) (map string_bytes c.in-Ok.words.items) (λ given. asked given ≡ Some (asked_of c.in-Ok-request_in.request)) c.in-Ok.ensures.words
      (ap (λ words. asked (map string_bytes words)) (sym c.deref.ensures.value) ∙ c.in-Ok-request_in.ensures.request);
  reads = c.in-Ok-open.ensures;
}
