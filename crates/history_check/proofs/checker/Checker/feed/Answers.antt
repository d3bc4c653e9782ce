use Rattle.std.proofs.Common.{◌≡◌, ◌+◌, ◌++◌, ◌∷◌, [], sym, subst, ◌∙◌, arith, length-append}
use Rattle.txn_trace.specs.Legal.{broken}
use Rattle.history_check.specs.FirstBad.{FedBy}
use Rattle.history_check.specs.States.{Tells, Judged}
use Rattle.history_check.proofs.FirstBad.{bad_stays, bad_now, none_there, next_is}
use Rattle.history_check.proofs.Ends.{none_bad_in}
use Rattle.history_check.proofs.checker.Checker.feed.Goals as goal

pub returns-then-is_some-clause-ok : goal.returns-then-is_some-clause-ok
returns-then-is_some-clause-ok c holder stripes h fed =
    let old = c.args.self.now in
    bad_stays (broken holder stripes) (Tells holder stripes h old.state) (Tells holder stripes (h ++ c.args.entry.now ∷ []) old.state) h c.args.entry.now old.fed old.bad (sym c.is_some.ensures ∙ c.if-is_some.true) fed

pub returns-in-Some-clause-ok : goal.returns-in-Some-clause-ok
returns-in-Some-clause-ok c holder stripes h fed =
    let old = c.args.self.now in
    let none = none_there old.bad (sym c.is_some.ensures ∙ c.if-is_some.false) in
    let told = subst (FedBy (broken holder stripes) (Tells holder stripes h old.state) h old.fed) none fed in
    bad_now (broken holder stripes) h c.args.entry.now old.fed _ (none_bad_in holder stripes h told.0.legal) told.1
    (subst (λ r. Judged holder stripes h c.args.entry.now r c.take_in.new.self) c.in-Some.is (c.in_ok-rule.ensures.ok holder stripes h told.0))

pub returns-in-None-clause-ok : goal.returns-in-None-clause-ok
returns-in-None-clause-ok c holder stripes h fed =
    let old = c.args.self.now in
    let none = none_there old.bad (sym c.is_some.ensures ∙ c.if-is_some.false) in
    let told = subst (FedBy (broken holder stripes) (Tells holder stripes h old.state) h old.fed) none fed in
    let more = h ++ c.args.entry.now ∷ [] in
    let one_more : c.in_ok-next.next ≡ old.fed + 1 = next_is c.checked_add.result _ (old.fed + 1) c.in_ok-next.next c.checked_add.ensures c.in_ok-next.ensures.ok_part in
    subst (FedBy (broken holder stripes) (Tells holder stripes more c.take_in.new.self) more c.in_ok-next.next) (sym none) (
      subst (λ r. Judged holder stripes h c.args.entry.now r c.take_in.new.self) c.in-None.is (c.in_ok-rule.ensures.ok holder stripes h told.0),
      (let n = length-append h (c.args.entry.now ∷ []) in let m = told.1 in omega (arith, one_more, m, n)),
    )
