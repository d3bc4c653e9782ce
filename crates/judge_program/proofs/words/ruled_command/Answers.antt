use Rattle.std.proofs.Common.{codes}
use Rattle.std.proofs.lemmas.Result.{IfOk-weaker}
use Rattle.clap.specs.Words.{with_rule}
use Rattle.judge_program.specs.Words.{flag_word, flagged, number_word}
use Rattle.program_system.proofs.Building.{with_word}
use Rattle.judge_program.proofs.words.ruled_command.Goals as goal

pub returns : goal.returns
returns c =
    let any = flag_word (codes "serializable") in
    let ruled = with_word c.in_ok-flagged_command.field-0 c.flag.result c.in_ok-command.command (flagged c.args.name.now) any c.in_ok-flagged_command.ensures c.flag.ensures.rule c.flag.ensures.local c.in_ok-command.ensures in
    let timed = with_word c.in_ok-command.command c.flag-2.result c.in_ok-command-2.command (with_rule (flagged c.args.name.now) any) (flag_word (codes "real-time")) ruled c.flag-2.ensures.rule c.flag-2.ensures.local c.in_ok-command-2.ensures in
    IfOk-weaker c.arg-3.result _ _
    (λ command adds. with_word c.in_ok-command-2.command c.number_option.result command (with_rule (with_rule (flagged c.args.name.now) any) (flag_word (codes "real-time"))) (number_word (codes "most-branches")) timed c.number_option.ensures.rule c.number_option.ensures.local adds) c.arg-3.ensures
