use Rattle.std.proofs.Common.{ap, ◌∙◌}
use Rattle.txn_words.specs.Sizes.{Sizes}
use Rattle.boostmap_engine.proofs.Mixtures.{mixture_is}
use Rattle.boostmap_engine.proofs.mixture.mixture.Goals as goal

pub returns-clause-ok : goal.returns-clause-ok
returns-clause-ok c =
    mixture_is c.args.bytes.items c.in_ok-work.work c.args.seed c.in_ok-core.core c.into_trace.result.items c.version-version.result c.stripes.result
    c.in_ok-work.ensures c.in_ok-core.ensures c.into_trace.ensures.value c.into_trace.ensures.legal c.into_trace.ensures.callers c.version-version.ensures
    (c.stripes.ensures.value ∙ ap (λ (s : Sizes). s.stripes) c.limits-limits.ensures)
