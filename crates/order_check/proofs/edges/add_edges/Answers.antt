use Rattle.std.proofs.Common.{◌≡◌, arith, not, sym, ap, ◌∙◌, subst, length}
use Rattle.std.specs.Option.{option_eq}
use Rattle.std.specs.Prelude.{nat_eq}
use Rattle.std.proofs.lemmas.Bool.{false≢true, not-false}
use Rattle.txn_trace.proofs.Now.{same_option, same_is}
use Rattle.order_check.proofs.AccessEdges.{Reads, reads_nothing, reads_from, none_replaces, itself_replaces, other_replaces, both_replace}
use Rattle.order_check.proofs.edges.add_edges.Goals as goal
use Rattle.order_check.proofs.edges.add_edges.Goals.{in-Some+in_ok-add, in_default}

pub add-requires-then-first-access : goal.add-requires-then-first-access
add-requires-then-first-access c =
    let same : length c.match-source_txn.graph.items ≡ length c.args.graph.now.items = elim c.match-source_txn.branch [
      | in-Some+in_ok-add w ↦ ap (λ r. length r.items) w.graph-is ∙ w.in_ok-add.ensures.len
      | in_default w ↦ ap (λ r. length r.items) w.graph-is
    ] in
    let below = c.requires.doers c.args.access.now.key c.args.access.now.source c.in-Some-replacer.first (sym c.replacer.ensures ∙ c.in-Some-replacer.is) in
    omega (arith, below, same, c.match-source_txn.graph.ok.0, c.args.graph.now.ok.0)

pub returns-else-ne : goal.returns-else-ne
returns-else-ne c told sourced =
    let part : Reads c.args.accesses.now c.args.replacers.now c.args.index c.args.access.now told sourced c.requires.here c.args.graph.now.items c.match-source_txn.graph.items = elim c.match-source_txn.branch [
      | in-Some+in_ok-add w ↦ subst (Reads c.args.accesses.now c.args.replacers.now c.args.index c.args.access.now told sourced c.requires.here c.args.graph.now.items) (sym (ap (λ r. r.items) w.graph-is)) (reads_from c.args.accesses.now c.args.replacers.now c.args.index c.args.access.now told sourced c.requires.here c.args.graph.now.items w.add.new.graph.items w.in-Some.source (sym c.source_txn.ensures ∙ w.in-Some.is) w.in_ok-add.ensures)
      | in_default w ↦ reads_nothing c.args.accesses.now c.args.replacers.now c.args.index c.args.access.now told sourced c.requires.here c.args.graph.now.items c.match-source_txn.graph.items (ap (λ r. r.items) w.graph-is) (λ t is. w.in_default.not-Some t (c.source_txn.ensures ∙ is))
    ] in
    other_replaces c.args.accesses.now c.args.replacers.now c.args.index c.args.access.now told sourced c.requires.here c.args.graph.now.items c.match-source_txn.graph.items part c.in-Some-replacer.first (sym c.replacer.ensures ∙ c.in-Some-replacer.is) c.add-then-first-access.new.graph.items c.if-first-access.true c.in_ok-add-2.ensures (same_option c.args.access.now.need c.args.access.now.left (not-false (option_eq nat_eq c.args.access.now.need c.args.access.now.left) (sym c.ne.ensures ∙ c.if-ne.false)))

pub returns-in_ok-add-3 : goal.returns-in_ok-add-3
returns-in_ok-add-3 c told sourced =
    let part : Reads c.args.accesses.now c.args.replacers.now c.args.index c.args.access.now told sourced c.requires.here c.args.graph.now.items c.match-source_txn.graph.items = elim c.match-source_txn.branch [
      | in-Some+in_ok-add w ↦ subst (Reads c.args.accesses.now c.args.replacers.now c.args.index c.args.access.now told sourced c.requires.here c.args.graph.now.items) (sym (ap (λ r. r.items) w.graph-is)) (reads_from c.args.accesses.now c.args.replacers.now c.args.index c.args.access.now told sourced c.requires.here c.args.graph.now.items w.add.new.graph.items w.in-Some.source (sym c.source_txn.ensures ∙ w.in-Some.is) w.in_ok-add.ensures)
      | in_default w ↦ reads_nothing c.args.accesses.now c.args.replacers.now c.args.index c.args.access.now told sourced c.requires.here c.args.graph.now.items c.match-source_txn.graph.items (ap (λ r. r.items) w.graph-is) (λ t is. w.in_default.not-Some t (c.source_txn.ensures ∙ is))
    ] in
    both_replace c.args.accesses.now c.args.replacers.now c.args.index c.args.access.now told sourced c.requires.here c.args.graph.now.items c.match-source_txn.graph.items part c.in-Some-replacer.first (sym c.replacer.ensures ∙ c.in-Some-replacer.is) c.add-then-first-access.new.graph.items c.add-then-ne.new.graph.items c.if-first-access.true c.in_ok-add-2.ensures c.in_ok-add-3.ensures (λ same. false≢true (sym (ap not (same_is c.args.access.now.need c.args.access.now.left same)) ∙ sym c.ne.ensures ∙ c.if-ne.true))

pub returns-else-first-access : goal.returns-else-first-access
returns-else-first-access c told sourced =
    let part : Reads c.args.accesses.now c.args.replacers.now c.args.index c.args.access.now told sourced c.requires.here c.args.graph.now.items c.match-source_txn.graph.items = elim c.match-source_txn.branch [
      | in-Some+in_ok-add w ↦ subst (Reads c.args.accesses.now c.args.replacers.now c.args.index c.args.access.now told sourced c.requires.here c.args.graph.now.items) (sym (ap (λ r. r.items) w.graph-is)) (reads_from c.args.accesses.now c.args.replacers.now c.args.index c.args.access.now told sourced c.requires.here c.args.graph.now.items w.add.new.graph.items w.in-Some.source (sym c.source_txn.ensures ∙ w.in-Some.is) w.in_ok-add.ensures)
      | in_default w ↦ reads_nothing c.args.accesses.now c.args.replacers.now c.args.index c.args.access.now told sourced c.requires.here c.args.graph.now.items c.match-source_txn.graph.items (ap (λ r. r.items) w.graph-is) (λ t is. w.in_default.not-Some t (c.source_txn.ensures ∙ is))
    ] in
    itself_replaces c.args.accesses.now c.args.replacers.now c.args.index c.args.access.now told sourced c.requires.here c.args.graph.now.items c.match-source_txn.graph.items part c.in-Some-replacer.first (sym c.replacer.ensures ∙ c.in-Some-replacer.is) c.if-first-access.false

pub returns-in_default-replacer : goal.returns-in_default-replacer
returns-in_default-replacer c told sourced =
    let part : Reads c.args.accesses.now c.args.replacers.now c.args.index c.args.access.now told sourced c.requires.here c.args.graph.now.items c.match-source_txn.graph.items = elim c.match-source_txn.branch [
      | in-Some+in_ok-add w ↦ subst (Reads c.args.accesses.now c.args.replacers.now c.args.index c.args.access.now told sourced c.requires.here c.args.graph.now.items) (sym (ap (λ r. r.items) w.graph-is)) (reads_from c.args.accesses.now c.args.replacers.now c.args.index c.args.access.now told sourced c.requires.here c.args.graph.now.items w.add.new.graph.items w.in-Some.source (sym c.source_txn.ensures ∙ w.in-Some.is) w.in_ok-add.ensures)
      | in_default w ↦ reads_nothing c.args.accesses.now c.args.replacers.now c.args.index c.args.access.now told sourced c.requires.here c.args.graph.now.items c.match-source_txn.graph.items (ap (λ r. r.items) w.graph-is) (λ t is. w.in_default.not-Some t (c.source_txn.ensures ∙ is))
    ] in
    none_replaces c.args.accesses.now c.args.replacers.now c.args.index c.args.access.now told sourced c.requires.here c.args.graph.now.items c.match-source_txn.graph.items part (sym c.replacer.ensures ∙ c.in_default-replacer.is)
