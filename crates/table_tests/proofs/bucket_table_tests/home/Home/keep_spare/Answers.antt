use Rattle.bucket_table.proofs.HomeLemmas.{still_home}
use Rattle.table_tests.proofs.bucket_table_tests.home.Home.keep_spare.Goals as goal

pub invariant_of-self-2 : goal.invariant_of-self-2
invariant_of-self-2 c =
    (still_home _ _ c.in_ok-spare.ensures.follows _ c.self.invariant.0, rw c.in_ok-spare.ensures.ok.nodes c.self.invariant.1)
