use Rattle.std.proofs.Common.{true, ap, ◌∙◌}
use Rattle.std.proofs.lemmas.Result.{IfOk-weaker}
use Rattle.clap.specs.Simple.{Shape, app_of_fields, on_top}
use Rattle.program_system.specs.Words.{IsApp}
use Rattle.program_system.proofs.Building.{added}
use Rattle.command_line.specs.Words.{without_commands}
use Rattle.command_line.proofs.words.all_commands.Goals as goal

pub returns : goal.returns
returns c =
    let start : IsApp c.subcommand_required.result without_commands = (
      ap app_of_fields c.subcommand_required.ensures ∙ ap (on_top (λ (s : Shape). record s { subcommand_required = true })) c.new.ensures.app,
      ap (λ f. f.has_globals) c.subcommand_required.ensures ∙ c.new.ensures.local,
    ) in
    let replay = added _ _ c.in_ok-subcommand.field-0 _ _ start c.in_ok-command_on_file.ensures c.in_ok-subcommand.ensures in
    let run = added _ _ c.in_ok-subcommand-2.field-0 _ _ replay c.in_ok-command_on_file-2.ensures c.in_ok-subcommand-2.ensures in
    let mix = added _ _ c.in_ok-subcommand-3.field-0 _ _ run c.in_ok-mix_command.ensures c.in_ok-subcommand-3.ensures in
    IfOk-weaker c.subcommand-4.result _ _ (λ command adds. added _ _ command _ _ mix c.in_ok-command_on_file-3.ensures adds) c.subcommand-4.ensures
