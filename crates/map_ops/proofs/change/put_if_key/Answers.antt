use Rattle.std.proofs.Common.{◌≡◌, ◌∙◌, ℕ, Option, true, sym, ap, subst}
use Rattle.std.specs.Prelude.{nat_eq}
use Rattle.map_ops.specs.Vocabulary.{get, option_eq}
use Rattle.map_ops.specs.Lists.{content}
use Rattle.map_ops.specs.Sound.{Belong}
use Rattle.map_ops.proofs.ThereLemmas.{node_linked, value_there}
use Rattle.map_ops.proofs.DoesLemmas.{does_put_if, does_put_if_not}
use Rattle.map_ops.proofs.change.put_if_key.Goals.{in-None, in-Some}
use Rattle.map_ops.proofs.change.put_if_key.Goals as goal

pub node-requires : goal.node-requires
node-requires c =
    let has = rw c.in-Some.is at c.requires.stands in
    node_linked _ _ _ has

pub returns-then-is_expected-clause-does : goal.returns-then-is_expected-clause-does
returns-then-is_expected-clause-does c =
    let was : c.match-there.was ≡ get (content c.args.list.now) c.args.key = elim c.match-there.branch [
      | in-None w ↦ let room = rw w.in-None.is at c.requires.stands in w.was-is ∙ sym room.none
      | in-Some w ↦ let has = rw w.in-Some.is at c.requires.stands in w.was-is ∙ value_there _ _ _ _ has w.node.ensures.node
    ] in
    let holds : option_eq nat_eq c.put_key.result.0 c.args.expected ≡ true =
    ap (λ (o : Option ℕ). option_eq nat_eq o c.args.expected) (c.put_key.ensures.does.reply_is ∙ sym was) ∙ sym c.is_expected.ensures ∙ c.if-is_expected.true in
    does_put_if c.args.list.now c.put_key.new.list c.args.key c.put_key.result.0 c.put_key.ensures.does.reply_is c.args.spare c.args.value c.args.expected c.put_key.result.1 holds c.put_key.ensures.does

pub returns-else-is_expected-clause-does : goal.returns-else-is_expected-clause-does
returns-else-is_expected-clause-does c =
    let was : c.match-there.was ≡ get (content c.args.list.now) c.args.key = elim c.match-there.branch [
      | in-None w ↦ let room = rw w.in-None.is at c.requires.stands in w.was-is ∙ sym room.none
      | in-Some w ↦ let has = rw w.in-Some.is at c.requires.stands in w.was-is ∙ value_there _ _ _ _ has w.node.ensures.node
    ] in
    does_put_if_not c.args.list.now c.give_back.new.list c.args.key c.match-there.was was c.args.spare c.args.value c.args.expected (sym c.is_expected.ensures ∙ c.if-is_expected.false) c.give_back.ensures.back

pub returns-else-is_expected-clause-writes : goal.returns-else-is_expected-clause-writes
returns-else-is_expected-clause-writes c =
    let was : c.match-there.was ≡ get (content c.args.list.now) c.args.key = elim c.match-there.branch [
      | in-None w ↦ let room = rw w.in-None.is at c.requires.stands in w.was-is ∙ sym room.none
      | in-Some w ↦ let has = rw w.in-Some.is at c.requires.stands in w.was-is ∙ value_there _ _ _ _ has w.node.ensures.node
    ] in
    rw (← was, sym c.is_expected.ensures ∙ c.if-is_expected.false) c.give_back.ensures.back.writes

pub returns-else-is_expected-clause-belong : goal.returns-else-is_expected-clause-belong
returns-else-is_expected-clause-belong c = subst Belong (sym c.give_back.ensures.back.writes.nodes) c.requires.belong
