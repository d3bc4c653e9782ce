use Rattle.std.proofs.Common.{ap, ◌∙◌, arith}
use Rattle.samples.specs.Vocabulary.{insert, now}
use Rattle.samples.specs.Transfers.{balance}
use Rattle.owned_map.proofs.Calls.{keeps_on}
use Rattle.samples.proofs.Works.{transferred}
use Rattle.samples.proofs.bank.move_sum.Goals as goal

pub returns-clause-moved : goal.returns-clause-moved
returns-clause-moved c =
    let had = c.in_ok-had.ensures.has in
    let has = c.in_ok-has.ensures.has ∙ ap (λ m. balance m c.args.to) c.in_ok-had.ensures.same in
    transferred c.args.from c.args.to c.args.sum c.in-Some.less c.in-Some-checked_add.more (now c.args.t.now.map.now.core.history) _ c.requires
    (omega (arith, had, c.in-Some.ensures)) (omega (arith, has, c.in-Some-checked_add.ensures))
    (c.in_ok-put-2.ensures.does.ok.changed ∙ ap (λ m. insert m c.args.to c.in-Some-checked_add.more) (c.in_ok-put.ensures.does.ok.changed ∙ ap (λ m. insert m c.args.from c.in-Some.less) (c.in_ok-has.ensures.same ∙ c.in_ok-had.ensures.same)))

pub returns-in_err-put-clause-keeps : goal.returns-in_err-put-clause-keeps
returns-in_err-put-clause-keeps c = keeps_on _ _ _ c.read.ensures.keeps (keeps_on _ _ _ c.read-2.ensures.keeps c.put.ensures.keeps)

pub returns-in_err-put-2-clause-keeps : goal.returns-in_err-put-2-clause-keeps
returns-in_err-put-2-clause-keeps c =
    keeps_on _ _ _ c.read.ensures.keeps (keeps_on _ _ _ c.read-2.ensures.keeps (keeps_on _ _ _ c.put.ensures.keeps c.put-2.ensures.keeps))

pub returns-clause-keeps : goal.returns-clause-keeps
returns-clause-keeps c =
    keeps_on _ _ _ c.read.ensures.keeps (keeps_on _ _ _ c.read-2.ensures.keeps (keeps_on _ _ _ c.put.ensures.keeps c.put-2.ensures.keeps))

pub returns-in_err-has-clause-keeps : goal.returns-in_err-has-clause-keeps
returns-in_err-has-clause-keeps c = keeps_on _ _ _ c.read.ensures.keeps c.read-2.ensures.keeps
