use Rattle.std.proofs.Common.{codes}
use Rattle.std.proofs.lemmas.Result.{IfOk-weaker}
use Rattle.clap.specs.Words.{new_app}
use Rattle.program_system.specs.Words.{IsApp, file_word}
use Rattle.program_system.proofs.Building.{with_word}
use Rattle.command_line.proofs.words.command_on_file.Goals as goal

pub returns : goal.returns
returns c =
    let start : IsApp c.new.result (new_app c.args.name.now) = (c.new.ensures.app, c.new.ensures.local) in
    IfOk-weaker c.arg.result _ _
    (λ command adds. with_word c.new.result c.file_name.result command (new_app c.args.name.now) (file_word (codes "FILE")) start c.file_name.ensures.rule c.file_name.ensures.local adds) c.arg.ensures
