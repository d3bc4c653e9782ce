use Rattle.std.proofs.Common.{codes}
use Rattle.std.proofs.lemmas.Result.{IfOk-weaker}
use Rattle.clap.specs.Words.{new_app, with_rule}
use Rattle.program_system.specs.Words.{IsApp, file_word}
use Rattle.program_system.proofs.Building.{with_word}
use Rattle.judge_program.proofs.words.outcomes_command.Goals as goal

pub returns : goal.returns
returns c =
    let name = codes "outcomes" in
    let start : IsApp c.new.result (new_app (codes "outcomes")) = (c.new.ensures.app, c.new.ensures.local) in
    let scripts = with_word c.new.result c.file_name.result c.in_ok-command.command (new_app name) (file_word (codes "SCRIPTS")) start c.file_name.ensures.rule c.file_name.ensures.local c.in_ok-command.ensures in
    IfOk-weaker c.arg-2.result _ _
    (λ command adds. with_word c.in_ok-command.command c.file_name-2.result command (with_rule (new_app name) (file_word (codes "SCRIPTS"))) (file_word (codes "HISTORY")) scripts c.file_name-2.ensures.rule
    c.file_name-2.ensures.local adds) c.arg-2.ensures
