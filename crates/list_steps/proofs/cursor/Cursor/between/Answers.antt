use Rattle.std.proofs.Common.{ap, sym, ◌∙◌}
use Rattle.node_list.proofs.NodesLemmas.{found_linked}
use Rattle.list_steps.specs.Found.{noted}
use Rattle.list_steps.proofs.NodeLemmas.{next_linked, no_place}
use Rattle.list_steps.proofs.CursorLemmas.{noted_found, noted_next, found_fits, found_placed}
use Rattle.list_steps.proofs.cursor.Cursor.between.Goals as goal
use Rattle.list_steps.proofs.cursor.Cursor.between.Goals.{in-Some, in-None}

pub of-requires : goal.of-requires
of-requires c = found_linked _ _ _ c.requires.pred.is

pub of-requires-in-Some : goal.of-requires-in-Some
of-requires-in-Some c = next_linked _ _ _ c.of.ensures.sound.spread (c.requires.next ∙ c.in-Some.is)

pub returns-clause-found : goal.returns-clause-found
returns-clause-found c =
    noted_found _ _ _ c.requires.pred c.requires.beyond c.of.ensures.noted
    (elim c.match-next.branch [
      | in-Some w ↦ w.result-is ∙ sym (noted_next _ _ _ _ c.of.ensures.sound.spread (c.requires.next ∙ w.in-Some.is) w.of-in-Some.ensures.noted)
      | in-None w ↦ w.result-is ∙ sym (ap noted (no_place _ (c.requires.next ∙ w.in-None.is)))
    ])
    c.changes.ensures.changes

pub returns-clause-placed : goal.returns-clause-placed
returns-clause-placed c = found_placed _ _ (returns-clause-found c) c.changes.ensures.sound

pub returns-clause-fits : goal.returns-clause-fits
returns-clause-fits c = found_fits _ _ (returns-clause-found c)
