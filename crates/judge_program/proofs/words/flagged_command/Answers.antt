use Rattle.std.proofs.Common.{codes}
use Rattle.std.proofs.lemmas.Result.{IfOk-weaker}
use Rattle.clap.specs.Words.{new_app}
use Rattle.program_system.specs.Words.{IsApp}
use Rattle.judge_program.specs.Words.{flag_word}
use Rattle.program_system.proofs.Building.{with_word}
use Rattle.judge_program.proofs.words.flagged_command.Goals as goal

pub returns : goal.returns
returns c =
    let start : IsApp c.new.result (new_app c.args.name.now) = (c.new.ensures.app, c.new.ensures.local) in
    IfOk-weaker c.arg.result _ _
    (λ command adds. with_word c.new.result c.flag.result command (new_app c.args.name.now) (flag_word (codes "commit-order")) start c.flag.ensures.rule c.flag.ensures.local adds) c.arg.ensures
