use Rattle.std.proofs.Common.{◌≡◌, rules, codes, ap, ◌∙◌}
use Rattle.std.specs.Str.{bytes_eq}
use Rattle.clap.specs.Words.{found_of}
use Rattle.clap.proofs.WalkLemmas.{first_value-rows}
use Rattle.judge_program.specs.Words.{is_set}
use Rattle.judge_program.proofs.words.has_flag.Goals as goal

pub returns-in-Some : goal.returns-in-Some
returns-in-Some c =
    let same : c.eq.result ≡ bytes_eq c.in-Some.word.now (codes "true") = search rules in
    same ∙ ap is_set (c.in-Some.ensures ∙ first_value-rows (found_of c.args.found.now) c.args.name.now)

pub returns-in-None : goal.returns-in-None
returns-in-None c = ap is_set (c.in-None.ensures ∙ first_value-rows (found_of c.args.found.now) c.args.name.now)
