use Rattle.std.proofs.Common.{◌∙◌}
use Rattle.judge_program.proofs.Stripes.{number_parsed}
use Rattle.judge_program.proofs.words.branches_in.Goals as goal

pub returns-in-Some : goal.returns-in-Some
returns-in-Some c = rw c.in-Some.is (c.ok.ensures.value ∙ number_parsed c.in-Some.word.now c.parse.result c.parse.ensures.value.0)
