use Rattle.std.proofs.Common.{◌≡◌, ℕ, ◌<◌, ◌≤◌, Ok, sym, ◌∙◌, subst, arith}
use Rattle.node_list.specs.Nodes.{Listing}
use Rattle.bucket_table.specs.declared.helper.Helper.{Helper}
use Rattle.bucket_table.specs.declared.helper.Helper.TheVariants.{Idle, Seeking, Holding}
use Rattle.bucket_table.specs.Directory.{Directory, IsReadyHelper, limit_of}
use Rattle.bucket_table.specs.Dummies.{IsDummyAt}
use Rattle.bucket_table.specs.Helpers.{holding_of}
use Rattle.bucket_table.specs.Home.{IsHelperHome}
use Rattle.bucket_table.proofs.DirectoryLemmas.{helper_found}
use Rattle.bucket_table.proofs.HomeLemmas.{home_with_dummy, home_with_helper}
use Rattle.bucket_table.proofs.buckets.Buckets.init_store.Goals as goal

-- The dummy that a helper holds is linked, and the helper's bucket is below the limit.
holding_home : (l : Listing) (d : Directory) (helper : Helper) (bucket dummy : ℕ) → d.size ≤ limit_of d → IsHelperHome l helper → IsReadyHelper d helper → holding_of helper ≡ Ok (bucket, dummy) → IsDummyAt l.nodes dummy bucket × (bucket < limit_of d)
holding_home l d Idle bucket dummy most home order is = absurd (cc is)
holding_home l d (Seeking own cursor) bucket dummy most home order is = absurd (cc is)
holding_home l d (Holding own place) bucket dummy most home order is =
    let P : ℕ × ℕ → Type 0 = λ pair. IsDummyAt l.nodes pair.1 pair.0 × (pair.0 < limit_of d) in
    let within = order.within in
    subst P (let same : ◌≡◌ {A = ℕ × ℕ} (own, place) (bucket, dummy) = cc is in same) (home, omega (arith, within, most))

pub returns-clause-home : goal.returns-clause-home
returns-clause-home c list home =
    let sound = c.helper.ensures.sound in
    let had = helper_found (IsHelperHome list) _ _ _ home.helpers c.in_ok-helper.ensures.ok in
    let order = helper_found (IsReadyHelper c.args.self.now) _ _ _ sound.helpers c.in_ok-helper.ensures.ok in
    let here = holding_home list c.args.self.now _ _ _ sound.most had order (sym c.holding.ensures ∙ c.in_ok-bucket.was) in
    rw (c.set_helper.ensures, c.in_ok-set_dummy.ensures.ok)
    (home_with_helper _ _ (home_with_dummy _ _ home _ _ here.1 here.0) _ Idle tt)
