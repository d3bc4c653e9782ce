use Rattle.std.proofs.Common.{◌≡◌, ◌∙◌, rules, sym, true}
use Rattle.boostmap_c.proofs.Naming.{named_next}
use Rattle.boostmap_c.proofs.striped_run.read_all.Goals as goal

pub tests-preserved : goal.tests-preserved
tests-preserved c =
    let there : c.has_op.result ≡ true = search rules in
    named_next c.args.entries.now c.tests.i _ c.tests-test.true (sym c.has_op.ensures ∙ there) c.tests.invariant
