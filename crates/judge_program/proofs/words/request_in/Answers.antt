use Rattle.std.proofs.Common.{◌≡◌, ◌⊎◌, Some, None, Result, Ok, Err, inl, inr, map, sym, ap, ◌∙◌}
use Rattle.std.proofs.lemmas.Result.{IfOk-weaker}
use Rattle.std.specs.Prelude.{IfErr, option_map}
use Rattle.std.specs.String.{string_bytes}
use Rattle.judge_engine.specs.declared.fault.Fault.TheVariants as faults
use Rattle.judge_program.specs.declared.failure.Failure.TheVariants.{Fault, Usage}
use Rattle.clap.specs.Words.{found_of, rows_of}
use Rattle.program_system.proofs.Asking.{answered, together}
use Rattle.judge_program.specs.declared.failure.Failure.{Failure}
use Rattle.judge_program.specs.declared.words.Request.{Request}
use Rattle.judge_program.specs.Words.{Spells, IsRequestOf, asked_of}
use Rattle.judge_program.proofs.Asking.{refused, found, look}
use Rattle.judge_program.proofs.words.request_in.Goals as goal

looked : (c : goal.Joined-matches-2) → Spells (map string_bytes c.args.words.now) (option_map asked_of c.request_named.result)
looked c =
    let words = map string_bytes c.args.words.now in
    let met = together c.in-Ok.matches c.in-Some.name.now (rows_of (found_of c.in-Some.found.now)) c.in-Some.ensures.name c.in-Some.ensures.rows in
    found _ words _ _ c.in_ok-command.ensures.0 c.in-Ok.ensures.kinds (λ is. (c.in-Ok.ensures.matches is).1)
    (c.request_named.ensures.request ∙ sym (ap look met))

pub returns-in-Err-clause-request : goal.returns-in-Err-clause-request
returns-in-Err-clause-request c =
    IfOk-weaker c.request_for.result _ _ (λ request answered. refused _ (map string_bytes c.args.words.now) c.in-Err.error (Some (asked_of request)) c.in_ok-command.ensures.0 c.in-Err.ensures.kinds
    (rw c.kind.ensures at answered.0) (rw c.kind.ensures at answered.1)) c.request_for.ensures.request

pub returns-in-Err-clause-err : goal.returns-in-Err-clause-err
returns-in-Err-clause-err c = told c.request_for.result c.request_for.ensures.err
  where
    told : (r : Result Request Failure) → IfErr r (λ failure. (failure ≡ Fault faults.NoMemory) ⊎ ((failure ≡ Usage) × IsRequestOf c.kind.result None))
        → IfErr r (λ failure. (failure ≡ Fault faults.NoMemory) ⊎ ((failure ≡ Usage) × Spells (map string_bytes c.args.words.now) None))
    told (Ok request) is = tt
    told (Err failure) (inl memory) = inl memory
    told (Err failure) (inr (usage, answered)) = inr (
      usage,
      refused _ (map string_bytes c.args.words.now) c.in-Err.error None c.in_ok-command.ensures.0 c.in-Err.ensures.kinds (rw c.kind.ensures at answered.0) (rw c.kind.ensures at answered.1),
    )

pub returns-clause-request : goal.returns-clause-request
returns-clause-request c = (answered (Spells (map string_bytes c.args.words.now)) asked_of (Fault faults.NoMemory) Usage c.request_named.result c.ok_or.result c.ok_or.ensures.value (looked c)).0

pub returns-clause-err : goal.returns-clause-err
returns-clause-err c = (answered (Spells (map string_bytes c.args.words.now)) asked_of (Fault faults.NoMemory) Usage c.request_named.result c.ok_or.result c.ok_or.ensures.value (looked c)).1
