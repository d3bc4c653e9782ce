use Rattle.std.proofs.Common.{sym, ◌∙◌}
use Rattle.node_list.proofs.NodesLemmas.{found_linked}
use Rattle.list_steps.proofs.CursorLemmas.{fits_then, fits_else, fits_none}
use Rattle.list_steps.proofs.cursor.Cursor.is_fitting.Goals as goal

pub is_next_fitting-requires : goal.is_next_fitting-requires
is_next_fitting-requires c = found_linked _ _ _ c.in-Some.ensures.node

pub returns-then-is_unmarked_with-clause-fits : goal.returns-then-is_unmarked_with-clause-fits
returns-then-is_unmarked_with-clause-fits c =
    let noted = sym c.is_unmarked_with.ensures ∙ c.if-is_unmarked_with.true in
    c.is_next_fitting.ensures ∙ sym (fits_then _ _ _ c.in-Some.ensures.node noted)

pub returns-else-is_unmarked_with-clause-fits : goal.returns-else-is_unmarked_with-clause-fits
returns-else-is_unmarked_with-clause-fits c =
    let noted = sym c.is_unmarked_with.ensures ∙ c.if-is_unmarked_with.false in
    c.if-is_unmarked_with.false ∙ sym (fits_else _ _ _ c.in-Some.ensures.node noted)

pub returns-in-None-clause-fits : goal.returns-in-None-clause-fits
returns-in-None-clause-fits c = sym (fits_none _ _ c.in-None.ensures.absent)
