use Rattle.std.proofs.Common.{sym, ◌∙◌}
use Rattle.boost_core.proofs.Sides.{can_undo}
use Rattle.boost_core.proofs.session.Session.act.Goals as goal

pub undo-requires : goal.undo-requires
undo-requires c = can_undo _ _ c.requires.goes c.requires.placed (sym c.has_job.ensures ∙ c.if-has_job.true)
