use Rattle.std.proofs.Common.{ap, ◌∙◌}
use Rattle.std.specs.Prelude.{option_and_then}
use Rattle.judge_program.proofs.Stripes.{fits, in_range, parsed}
use Rattle.judge_program.proofs.words.stripes_in.Goals as goal

pub returns-in_err-stripes : goal.returns-in_err-stripes
returns-in_err-stripes c = c.from_residual.ensures ∙ ap (option_and_then in_range) c.in_err-stripes.ensures.value ∙ parsed c.args.word.now c.parse.result c.parse.ensures.value.0

pub returns-then-stripes-le-MAX_STRIPES : goal.returns-then-stripes-le-MAX_STRIPES
returns-then-stripes-le-MAX_STRIPES c =
    fits c.in_ok-stripes.stripes c.if-stripes-ge1.true c.if-stripes-le-MAX_STRIPES.true ∙ ap (option_and_then in_range) c.in_ok-stripes.ensures.value
    ∙ parsed c.args.word.now c.parse.result c.parse.ensures.value.0
