use Rattle.std.proofs.Common.{rules, subst, sym, inl, inr}
use Rattle.samples.specs.Vocabulary.{OnlyWorked, now}
use Rattle.samples.proofs.Vocabulary.{after}
use Rattle.samples.specs.Transfers.{IsTransfer}
use Rattle.samples.specs.OwnedTransfers.{IsWhy}
use Rattle.samples.proofs.Works.{on_ok}
use Rattle.samples.proofs.Whys.{on_err, at_begin, at_commit, in_work}
use Rattle.owned_map.specs.Keeps.{Keeps}
use Rattle.samples.proofs.bank.transfer.Goals as goal

pub returns-clause-moved : goal.returns-clause-moved
returns-clause-moved c = on_ok c.transact.result (λ value made.
    let (t, u, did, run, whose, begun, place, ended) = made in
    let moved : IsTransfer c.args.from c.args.to c.args.sum (now t.now.map.now.core.history) (now u.now.map.now.core.history) = search rules in
    subst (λ m. IsTransfer c.args.from c.args.to c.args.sum m (now c.transact.new.self.core.history)) run.began
    (subst (λ m. IsTransfer c.args.from c.args.to c.args.sum (now t.now.map.now.core.history) m) (sym run.ended) moved)) c.transact.ensures.ok

pub returns-clause-cause : goal.returns-clause-cause
returns-clause-cause c =
    let old = c.args.accounts.now.core in
    on_err c.transact.result (λ why cause. elim cause [
      | inl (stop, is, stopped) ↦ at_begin c.args.caller c.args.from c.args.to c.args.sum stop why old _ is stopped
      | inr (inl (t, u, whose, begun, did, aborted)) ↦
          let found : IsWhy t.now.caller c.args.from c.args.to c.args.sum why t.now.map.now.core = search rules in
          in_work c.args.caller c.args.from c.args.to c.args.sum why old t.now.map.now.core begun
          (subst (λ d. IsWhy d c.args.from c.args.to c.args.sum why t.now.map.now.core) whose found)
      | inr (inr (t, u, whose, begun, value, did, stop, is, undone)) ↦
          let keeps : Keeps t.now u.now = search rules in
          at_commit c.args.caller c.args.from c.args.to c.args.sum stop why old u.now.map.now.core undone.0 is
          (after c.args.caller old t.now.map.now.core u.now.map.now.core begun.beside
          (subst (λ d. OnlyWorked d t.now.map.now.core u.now.map.now.core) whose keeps.goes_on.beside)) undone.1
    ]) c.transact.ensures.cause
