use Rattle.std.proofs.Common.{◌++◌, ◌∷◌, [], replicate, ◌∙◌, ap, arith}
use Rattle.std.proofs.lemmas.List.{replicate_more}
use Rattle.bucket_table.proofs.fill.vec_of.Goals as goal

pub loop-preserved : goal.loop-preserved
loop-preserved g c = c.in_ok-push.ensures.items ∙ ap (λ items. items ++ c.args.value ∷ []) c.loop.invariant ∙ replicate_more _ _

pub returns : goal.returns
returns g c = c.loop.invariant ∙ ap (λ count. replicate count c.args.value) (omega arith)
