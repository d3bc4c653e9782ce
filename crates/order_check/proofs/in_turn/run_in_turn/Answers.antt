use Rattle.std.proofs.Common.{get_or, refl, sym, ap, ◌∙◌, not}
use Rattle.std.specs.Option.{option_eq}
use Rattle.std.specs.Prelude.{nat_eq}
use Rattle.std.proofs.lemmas.Bool.{false≢true, not-false}
use Rattle.txn_trace.proofs.Now.{same_option, same_is}
use Rattle.order_check.proofs.AccessOrder.{turns_begin, turns_more, turns_stop, turns_end}
use Rattle.order_check.specs.InTurn.{value_in}
use Rattle.order_check.proofs.Noting.{no_access}
use Rattle.order_check.proofs.in_turn.run_in_turn.Goals as goal

pub loop-access-init : goal.loop-access-init
loop-access-init c = turns_begin c.args.accesses.now c.new-values.result c.new-values.ensures.empty

pub loop-access-preserved : goal.loop-access-preserved
loop-access-preserved c =
    let a = get_or c.args.accesses.now c.loop-access.access-index no_access in
    turns_more c.args.accesses.now c.loop-access.access-index no_access c.loop-access-test.true c.loop-access.values c.loop-access.invariant c.insert.new.self
    (sym c.value_in.ensures ∙ same_option c.value_in.result a.need (not-false (option_eq nat_eq c.value_in.result a.need) (sym c.ne.ensures ∙ c.if-ne.false)))
    c.in_ok-insert.ensures.updates.0

pub returns-then-ne : goal.returns-then-ne
returns-then-ne c =
    let a = get_or c.args.accesses.now c.loop-access.access-index no_access in (
      λ no. absurd (false≢true no),
      λ runs. absurd (turns_stop c.args.accesses.now c.loop-access.access-index no_access c.loop-access-test.true c.loop-access.values c.loop-access.invariant
          (λ needs. false≢true (sym (ap not (same_is c.value_in.result a.need (c.value_in.ensures ∙ needs))) ∙ sym c.ne.ensures ∙ c.if-ne.true)) runs),
    )

pub returns : goal.returns
returns c = (λ yes. turns_end c.args.accesses.now c.loop-access.access-index (value_in c.loop-access.values) c.loop-access-test.false c.loop-access.invariant, λ runs. refl)
