use Rattle.list_steps.proofs.CursorLemmas.{still_placed}
use Rattle.table_tests.proofs.list_steps_tests.link_stale.Goals as goal

pub look-requires : goal.look-requires
look-requires c = still_placed _ _ _ c.requires.placed c.regular_spare.ensures.follows
