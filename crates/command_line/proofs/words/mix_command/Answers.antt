use Rattle.std.proofs.Common.{codes}
use Rattle.std.proofs.lemmas.Result.{IfOk-weaker}
use Rattle.command_line.specs.Words.{over_file, seed_word}
use Rattle.program_system.proofs.Building.{with_word}
use Rattle.command_line.proofs.words.mix_command.Goals as goal

pub returns : goal.returns
returns c =
    IfOk-weaker c.arg.result _ _
    (λ command adds. with_word c.in_ok-command_on_file.field-0 c.seed_option.result command (over_file (codes "mix")) seed_word c.in_ok-command_on_file.ensures c.seed_option.ensures.rule c.seed_option.ensures.local adds)
    c.arg.ensures
