use Rattle.std.proofs.Common.{codes}
use Rattle.std.proofs.lemmas.Result.{IfOk-weaker}
use Rattle.clap.specs.Words.{with_rule}
use Rattle.program_system.specs.Words.{file_word}
use Rattle.judge_program.specs.Words.{flag_word, ruled}
use Rattle.program_system.proofs.Building.{with_word}
use Rattle.judge_program.proofs.words.why_command.Goals as goal

pub returns : goal.returns
returns c =
    let dot = flag_word (codes "dot") in
    let graph = with_word c.in_ok-ruled_command.field-0 c.flag.result c.in_ok-command.command (ruled (codes "why")) dot c.in_ok-ruled_command.ensures c.flag.ensures.rule c.flag.ensures.local c.in_ok-command.ensures in
    IfOk-weaker c.arg-2.result _ _
    (λ command adds. with_word c.in_ok-command.command c.file_name.result command (with_rule (ruled (codes "why")) dot) (file_word (codes "FILE")) graph c.file_name.ensures.rule c.file_name.ensures.local adds) c.arg-2.ensures
