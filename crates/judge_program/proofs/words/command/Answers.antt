use Rattle.std.proofs.Common.{true, ap, ◌∙◌}
use Rattle.std.proofs.lemmas.Result.{IfOk-weaker}
use Rattle.clap.specs.declared.builder.command.Command.{Command}
use Rattle.clap.specs.declared.builder.command.Command.TheOpen.{Command-F}
use Rattle.clap.specs.Simple.{Shape, app_of_fields, on_top}
use Rattle.program_system.specs.Words.{IsApp}
use Rattle.judge_program.specs.Words.{without_commands}
use Rattle.program_system.proofs.Building.{added}
use Rattle.judge_program.proofs.words.command.Goals as goal

pub returns : goal.returns
returns c =
    let fields = c.subcommand_required.ensures ∙ ap (λ (f : Command-F Command). record f { subcommand_required = true }) c.version.ensures in
    let start : IsApp c.subcommand_required.result without_commands = (
      ap app_of_fields fields ∙ ap (on_top (λ (s : Shape). record s { has_version = true; subcommand_required = true })) c.new.ensures.app,
      ap (λ f. f.has_globals) fields ∙ c.new.ensures.local,
    ) in
    let check = added _ _ c.in_ok-subcommand.field-0 _ _ start c.in_ok-check_command.ensures c.in_ok-subcommand.ensures in
    let outcomes = added _ _ c.in_ok-subcommand-2.field-0 _ _ check c.in_ok-outcomes_command.ensures c.in_ok-subcommand-2.ensures in
    let watch = added _ _ c.in_ok-subcommand-3.field-0 _ _ outcomes c.in_ok-watch_command.ensures c.in_ok-subcommand-3.ensures in
    IfOk-weaker c.subcommand-4.result _ _ (λ command adds. added _ _ command _ _ watch c.in_ok-why_command.ensures adds) c.subcommand-4.ensures
