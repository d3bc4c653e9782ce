use Rattle.std.proofs.Common.{◌≡◌, ◌++◌, map, rules, ap, ◌∙◌}
use Rattle.std.specs.Prelude.{Result, Ok, Err, OnErr}
use Rattle.std.specs.Map.Iter.{deref_pair}
use Rattle.std.proofs.lemmas.Map.Iter.{iter_end}
use Rattle.order_check.specs.Accesses.{accesses_of}
use Rattle.order_check.proofs.Gathering.{accesses_push}
use Rattle.order_check.proofs.gather.push_accesses.Goals as goal

on_err : {A E P : Type 0} (r : Result A E) → P → OnErr r P
on_err (Ok a) p = tt
on_err (Err e) p = p

pub loop-key-preserved : goal.loop-key-preserved
loop-key-preserved c = accesses_push c.args.accesses.now.items c.loop-key.accesses.items c.push.new.self.items c.args.txn c.loop-key.yielded (c.in-Some.key, c.in-Some.cell) c.loop-key.invariant c.in_ok-push.ensures.items

pub returns-in_err-push-clause-err : goal.returns-in_err-push-clause-err
returns-in_err-push-clause-err c = on_err c.from_residual.result (accesses_of c.args.txn (map deref_pair c.loop-key.yielded), c.in_err-push.ensures.items ∙ c.loop-key.invariant)

pub returns-clause-ok : goal.returns-clause-ok
returns-clause-ok c =
    let all : map deref_pair c.loop-key.yielded ≡ c.args.footprint.now.cells.entries = search (rules, iter_end) in
    c.loop-key.invariant ∙ ap (λ es. c.args.accesses.now.items ++ accesses_of c.args.txn es) all
