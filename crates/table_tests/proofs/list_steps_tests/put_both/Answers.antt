use Rattle.list_steps.proofs.CursorLemmas.{still_placed}
use Rattle.table_tests.proofs.list_steps_tests.put_both.Goals as goal

pub link_stale-requires-clause-placed : goal.link_stale-requires-clause-placed
link_stale-requires-clause-placed c =
    still_placed _ _ _ (still_placed _ _ _ c.seek_from_head-early.ensures.placed c.seek_from_head-late.ensures.follows) c.link_fitting.ensures.follows
