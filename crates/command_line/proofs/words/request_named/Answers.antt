use Rattle.std.proofs.Common.{codes, Some, None, refl, ap, ◌∙◌}
use Rattle.std.specs.Prelude.{option_map}
use Rattle.clap.specs.Words.{found_of}
use Rattle.command_line.specs.Words.{asked_of}
use Rattle.command_line.proofs.Requests.{over, over_seed, over_no_seed}
use Rattle.command_line.proofs.words.request_named.Goals as goal

pub returns-in_err-file : goal.returns-in_err-file
returns-in_err-file c =
    ap (option_map asked_of) c.from_residual.ensures ∙ over c.args.name.now c.args.name.now (found_of c.args.found.now) None refl c.in_err-file.ensures

pub returns-in_err-get_str-in-mix : goal.returns-in_err-get_str-in-mix
returns-in_err-get_str-in-mix c =
    ap (option_map asked_of) c.from_residual-in_err-get_str-in-mix.ensures
    ∙ over_no_seed c.args.name.now (found_of c.args.found.now) c.in_ok-file.file.now c.in-mix.is c.in_ok-file.ensures c.in_err-get_str-in-mix.ensures

pub returns-in_err-seed-in-mix : goal.returns-in_err-seed-in-mix
returns-in_err-seed-in-mix c =
    ap (option_map asked_of) c.from_residual-in_err-seed-in-mix.ensures
    ∙ ap (option_map (λ n. (codes "mix", Some n, c.in_ok-file.file.now))) c.in_err-seed-in-mix.ensures
    ∙ over_seed c.args.name.now (found_of c.args.found.now) c.in_ok-get_str-in-mix.field-0.now c.in_ok-file.file.now c.in-mix.is c.in_ok-file.ensures c.in_ok-get_str-in-mix.ensures

pub returns-in-replay : goal.returns-in-replay
returns-in-replay c = over c.args.name.now (codes "replay") (found_of c.args.found.now) (Some c.in_ok-file.file.now) c.in-replay.is c.in_ok-file.ensures

pub returns-in-run : goal.returns-in-run
returns-in-run c = over c.args.name.now (codes "run") (found_of c.args.found.now) (Some c.in_ok-file.file.now) c.in-run.is c.in_ok-file.ensures

pub returns-in_ok-seed-in-mix : goal.returns-in_ok-seed-in-mix
returns-in_ok-seed-in-mix c =
    ap (option_map (λ n. (codes "mix", Some n, c.in_ok-file.file.now))) c.in_ok-seed-in-mix.ensures
    ∙ over_seed c.args.name.now (found_of c.args.found.now) c.in_ok-get_str-in-mix.field-0.now c.in_ok-file.file.now c.in-mix.is c.in_ok-file.ensures c.in_ok-get_str-in-mix.ensures

pub returns-in-check : goal.returns-in-check
returns-in-check c = over c.args.name.now (codes "check") (found_of c.args.found.now) (Some c.in_ok-file.file.now) c.in-check.is c.in_ok-file.ensures
