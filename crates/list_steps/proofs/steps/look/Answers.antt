use Rattle.std.proofs.Common.{sym, ◌∙◌}
use Rattle.list_steps.proofs.CursorLemmas.{fits_linked}
use Rattle.list_steps.proofs.StepLemmas.{finds}
use Rattle.list_steps.proofs.steps.look.Goals as goal

pub node_there-requires : goal.node_there-requires
node_there-requires c = fits_linked _ _ (sym c.is_fitting.ensures.fits ∙ c.if-is_fitting.true)

pub returns-then-is_fitting-clause-ok : goal.returns-then-is_fitting-clause-ok
returns-then-is_fitting-clause-ok c =
    finds _ _ c.is_fitting.ensures.sound c.requires (sym c.is_fitting.ensures.fits ∙ c.if-is_fitting.true) _ c.node_there.ensures
