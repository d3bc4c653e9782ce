use Rattle.std.proofs.Common.{◌++◌, ◌∷◌, [], None, replicate, ◌∙◌, ap, arith}
use Rattle.std.proofs.lemmas.List.{replicate_more}
use Rattle.bucket_table.proofs.segments.missing.Goals as goal

pub loop-preserved : goal.loop-preserved
loop-preserved c = c.in_ok-push.ensures.items ∙ ap (λ items. items ++ None ∷ []) c.loop.invariant ∙ replicate_more _ _

pub returns : goal.returns
returns c = c.loop.invariant ∙ ap (λ count. replicate count None) (omega arith)
