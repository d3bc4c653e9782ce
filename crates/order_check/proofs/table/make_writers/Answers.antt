use Rattle.std.proofs.Common.{arith, ◌<◌, ◌≤◌, length, sym, ◌∙◌, subst}
use Rattle.std.proofs.lemmas.List.{take_all}
use Rattle.order_check.specs.Tables.{DoesWrite, AreWriters}
use Rattle.order_check.proofs.Noting.{written_by, writes_it, only_written, never_written, loop_more, loop_same}
use Rattle.order_check.proofs.table.make_writers.Goals as goal
use Rattle.order_check.proofs.table.make_writers.Goals.{then-ne+in_ok-note, else-ne}

pub loop-access-preserved : goal.loop-access-preserved
loop-access-preserved c =
    let below : c.loop-access.access-index < length c.args.accesses.now = omega arith in
    elim c.if-ne.branch [
      | then-ne+in_ok-note w ↦
          loop_more DoesWrite written_by writes_it only_written never_written c.args.accesses.now c.loop-access.access-index below c.loop-access.writers c.loop-access.invariant w.note.new.table c.if-ne.writers (sym c.ne.ensures ∙ w.if-ne.true) w.in_ok-note.ensures w.writers-is
      | else-ne w ↦
          loop_same DoesWrite written_by writes_it only_written never_written c.args.accesses.now c.loop-access.access-index below c.loop-access.writers c.loop-access.invariant c.if-ne.writers (sym c.ne.ensures ∙ w.if-ne.false) w.writers-is
    ]

pub returns : goal.returns
returns c =
    let end : length c.args.accesses.now ≤ c.loop-access.access-index = omega arith in
    subst (λ xs. AreWriters xs c.loop-access.writers) (take_all c.loop-access.access-index c.args.accesses.now end) c.loop-access.invariant
