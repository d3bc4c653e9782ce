use Rattle.std.proofs.Common.{codes}
use Rattle.std.proofs.lemmas.Result.{IfOk-weaker}
use Rattle.judge_program.specs.Words.{flagged, number_word}
use Rattle.program_system.proofs.Building.{with_word}
use Rattle.judge_program.proofs.words.watch_command.Goals as goal

pub returns : goal.returns
returns c =
    IfOk-weaker c.arg.result _ _
    (λ command adds. with_word c.in_ok-flagged_command.field-0 c.number_option.result command (flagged (codes "watch")) (number_word (codes "stripes")) c.in_ok-flagged_command.ensures c.number_option.ensures.rule c.number_option.ensures.local adds)
    c.arg.ensures
