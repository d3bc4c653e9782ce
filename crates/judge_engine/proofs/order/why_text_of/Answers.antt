use Rattle.std.proofs.Common.{◌++◌, ap, ◌∙◌}
use Rattle.judge_engine.specs.WhyLines.{why_verdict_lines}
use Rattle.judge_engine.proofs.order.why_text_of.Goals as goal

pub returns : goal.returns
returns c found = c.in_ok-put_why.ensures ∙ ap (λ text. text ++ why_verdict_lines c.args.entries.now c.args.ordered.now.verdict) (c.in_ok-text.ensures c.args.entries.now found)
