use Rattle.std.proofs.Common.{◌≡◌, get_or, ap, subst}
use Rattle.std.proofs.Math.ListN.{set}
use Rattle.bad_entry.proofs.Noted.{noted_at, noted-push}
use Rattle.bad_entry.proofs.desks.Desks.enter.Goals as goal

pub returns : goal.returns
returns c h noted =
    let old = c.args.self.now in
    let before = c.index_mut.result.now in
    let there = subst (λ d. before ≡ get_or old.table.items d before) c.caller-caller.ensures c.index_mut.ensures.value in
    noted-push h c.args.entry old _ before c.enter.new.self noted (noted_at h old _ before noted c.requires there)
    c.enter.ensures.waiting c.enter.ensures.txn (ap (λ d. set old.table.items d c.enter.new.self) c.caller-caller.ensures)
