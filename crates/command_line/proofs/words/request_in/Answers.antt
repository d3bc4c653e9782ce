use Rattle.std.proofs.Common.{◌≡◌, inl, inr, map, sym, ap, ◌∙◌}
use Rattle.std.specs.Prelude.{option_map}
use Rattle.std.specs.String.{string_bytes}
use Rattle.command_line.specs.declared.no_request.NoRequest.TheVariants.{NoMemory, Usage}
use Rattle.clap.specs.Words.{found_of, rows_of}
use Rattle.program_system.proofs.Asking.{answered, together}
use Rattle.command_line.specs.Words.{asked, asked_of}
use Rattle.command_line.proofs.Asking.{found, look, refused}
use Rattle.command_line.proofs.words.request_in.Goals.{in-OutOfMemory, in_default}
use Rattle.command_line.proofs.words.request_in.Goals as goal

looked : (c : goal.Joined-matches-2) → asked (map string_bytes c.args.words.now) ≡ option_map asked_of c.request_named.result
looked c =
    let words = map string_bytes c.args.words.now in
    let met = together c.in-Ok.matches c.in-Some.name.now (rows_of (found_of c.in-Some.found.now)) c.in-Some.ensures.name c.in-Some.ensures.rows in
    found _ words _ c.in_ok-command.ensures.0 c.in-Ok.ensures.kinds (λ is. (c.in-Ok.ensures.matches is).1) ∙ ap look met ∙ sym c.request_named.ensures

pub returns-in-Err-clause-err : goal.returns-in-Err-clause-err
returns-in-Err-clause-err c = elim c.match-kind.branch [
  | in-OutOfMemory w ↦ inl w.result-is
  | in_default w ↦ inr (
    w.result-is,
    refused _ (map string_bytes c.args.words.now) c.in-Err.error c.in_ok-command.ensures.0 c.in-Err.ensures.kinds (λ memory. w.in_default.not-OutOfMemory (c.kind.ensures ∙ memory)),
  )
]

pub returns-clause-request : goal.returns-clause-request
returns-clause-request c = (answered (λ what. asked (map string_bytes c.args.words.now) ≡ what) asked_of NoMemory Usage c.request_named.result c.ok_or.result c.ok_or.ensures.value (looked c)).0

pub returns-clause-err : goal.returns-clause-err
returns-clause-err c = (answered (λ what. asked (map string_bytes c.args.words.now) ≡ what) asked_of NoMemory Usage c.request_named.result c.ok_or.result c.ok_or.ensures.value (looked c)).1
