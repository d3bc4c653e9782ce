use Rattle.std.proofs.Common.{◌∙◌, ap}
use Rattle.list_steps.specs.Content.{pairs}
use Rattle.list_steps.proofs.ContentLemmas.{pairs_unlinked}
use Rattle.list_steps.proofs.sweeps.sweep_from.Goals as goal

pub returns-clause-content : goal.returns-clause-content
returns-clause-content c =
    ap pairs c.unlink_after.ensures.unlinked.nodes ∙ pairs_unlinked _ _ c.before_first_marked-place.ensures.marked
