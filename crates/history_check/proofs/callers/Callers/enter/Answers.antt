use Rattle.std.proofs.Common.{◌≡◌, get_or, ap, subst}
use Rattle.std.proofs.Math.ListN.{set}
use Rattle.txn_trace.proofs.Callers.{shaped_number}
use Rattle.history_check.proofs.CallerTable.{sits_at, entered-push}
use Rattle.history_check.proofs.callers.Callers.enter.Goals as goal

pub returns : goal.returns
returns c h entered shaped =
    let old = c.args.self.now in
    let before = c.index_mut.result.now in
    let numbered = shaped_number h c.args.entry shaped in
    let there = subst (λ d. before ≡ get_or old.table.items d before) c.caller-caller.ensures c.index_mut.ensures.value in
    entered-push h c.args.entry old _ before c.enter.new.self entered shaped c.requires.caller (sits_at h old _ before entered c.requires.caller there)
    c.enter.ensures (ap (λ d. set old.table.items d c.enter.new.self) c.caller-caller.ensures)
    (c.began_after-self.ensures h entered.begins numbered) (c.committed_after-self.ensures h entered.commits numbered)
