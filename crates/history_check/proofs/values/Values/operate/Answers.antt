use Rattle.std.proofs.Common.{◌≡◌, ◌∙◌, cond, true, nat_eq, ap, sym, subst}
use Rattle.std.specs.Option.{option_eq}
use Rattle.txn_words.specs.Map.{insert}
use Rattle.history_check.specs.Remainders.{Have}
use Rattle.history_check.proofs.values.Values.operate.Goals as goal

pub returns-in_ok-insert-in-PutIf-clause-ok : goal.returns-in_ok-insert-in-PutIf-clause-ok
returns-in_ok-insert-in-PutIf-clause-ok c m has =
    let key = c.in-PutIf.key in
    let expected = c.in-PutIf.expected in
    let is : option_eq nat_eq c.get.result expected ≡ true = sym c.eq.ensures ∙ c.if-eq.true in
    let same = subst (λ o. option_eq nat_eq o expected ≡ true) (c.get.ensures m has) is in
    let put : Have (insert m key c.in-PutIf.value) c.insert-then-eq.new.self = c.in_ok-insert-in-PutIf.ensures.ok m has in
    rw c.in-PutIf.is (subst (λ n. Have n c.insert-then-eq.new.self) (sym (ap (λ b. cond b (insert m key c.in-PutIf.value) m) same)) put)

pub returns-in-Take-clause-ok : goal.returns-in-Take-clause-ok
returns-in-Take-clause-ok c m has = rw c.in-Take.is (c.remove.ensures m has)
