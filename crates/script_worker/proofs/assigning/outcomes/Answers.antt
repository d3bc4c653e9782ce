use Rattle.std.proofs.Common.{◌≡◌, ◌+◌, ◌≤◌, List, length, Some, refl, sym, ap, subst, ◌∙◌, arith}
use Rattle.std.specs.Prelude.{slice_get, slice_set}
use Rattle.std.proofs.lemmas.Option.{slice_get_read}
use Rattle.txn_words.specs.Kinds.{caller_of}
use Rattle.script_worker.specs.Ways.{AreFresh, AreNone}
use Rattle.script_worker.proofs.OutcomeSteps.{AllFollow}
use Rattle.script_worker.proofs.Starting.{all_start, all_end}
use Rattle.script_worker.proofs.Running.{may_count, all_skip, all_step, may_same, goes_same, whole_written}
use Rattle.script_worker.proofs.assigning.outcomes.Goals as goal

pub loop-index-init : goal.loop-index-init
loop-index-init c =
    let workers_are = c.callers-workers.ensures.value ∙ ap (λ l. l.callers) c.limits.ensures in
    all_start c.args.scripts.now.sizes.callers c.args.scripts.now.scripts c.args.entries.now c.in_ok-outcomes.outcomes.items c.in_ok-ways.ways.items
    (subst (λ k. AreFresh k c.in_ok-ways.ways.items) workers_are c.in_ok-ways.ensures)
    (subst (λ ss. AreNone (length ss) c.in_ok-outcomes.outcomes.items) c.scripts.ensures c.in_ok-outcomes.ensures)

pub loop-index-preserved-then-len-caller : goal.loop-index-preserved-then-len-caller
loop-index-preserved-then-len-caller c =
    let at : slice_get c.args.entries.now c.loop-index.index ≡ Some c.entry-entry.result =
    slice_get_read c.args.entries.now (length c.args.entries.now) c.loop-index.index c.index-entries-index.result refl c.loop-index-test.true c.index-entries-index.is ∙ ap (λ x. Some x) (sym c.entry-entry.ensures) in
    let whole = c.len.ensures ∙ c.loop-index.ways.ok.0 in
    let its = c.caller-caller.ensures in
    let past = c.if-len-caller.true in
    all_skip c.args.scripts.now.sizes.callers c.args.scripts.now.scripts c.args.entries.now c.loop-index.index c.entry-entry.result at c.loop-index.outcomes.items c.loop-index.ways.items c.loop-index.invariant
    (omega (arith, whole, its, past))

pub take_in-requires : goal.take_in-requires
take_in-requires c =
    let at : slice_get c.args.entries.now c.loop-index.index ≡ Some c.entry-entry.result =
    slice_get_read c.args.entries.now (length c.args.entries.now) c.loop-index.index c.index-entries-index.result refl c.loop-index-test.true c.index-entries-index.is ∙ ap (λ x. Some x) (sym c.entry-entry.ensures) in
    let workers_are = c.callers-workers.ensures.value ∙ ap (λ l. l.callers) c.limits.ensures in
    let whole = c.len.ensures ∙ c.loop-index.ways.ok.0 in
    let below = c.if-len-caller.false in
    let there : slice_get c.loop-index.ways.items (caller_of c.entry-entry.result) ≡ Some c.index_mut.result.now =
    ap (slice_get c.loop-index.ways.items) (sym c.caller-caller.ensures) ∙ slice_get_read c.loop-index.ways.items c.len.result c.caller-caller.result c.index_mut.result.now whole below c.index_mut.ensures.value in
    record {
      may = may_same c.args.scripts.now.sizes.callers c.callers-workers.result c.args.scripts.now.scripts c.scripts.result.now c.index_mut.result.now c.loop-index.outcomes.items c.deref_mut.result.now
          workers_are c.scripts.ensures c.deref_mut.ensures.value
          (may_count c.args.scripts.now.sizes.callers c.args.scripts.now.scripts c.args.entries.now c.loop-index.index c.entry-entry.result at c.loop-index.outcomes.items c.loop-index.ways.items c.loop-index.invariant
          c.index_mut.result.now there);
    }

pub loop-index-preserved : goal.loop-index-preserved
loop-index-preserved c =
    let at : slice_get c.args.entries.now c.loop-index.index ≡ Some c.entry-entry.result =
    slice_get_read c.args.entries.now (length c.args.entries.now) c.loop-index.index c.index-entries-index.result refl c.loop-index-test.true c.index-entries-index.is ∙ ap (λ x. Some x) (sym c.entry-entry.ensures) in
    let workers_are = c.callers-workers.ensures.value ∙ ap (λ l. l.callers) c.limits.ensures in
    let whole = c.len.ensures ∙ c.loop-index.ways.ok.0 in
    let below = c.if-len-caller.false in
    let there : slice_get c.loop-index.ways.items (caller_of c.entry-entry.result) ≡ Some c.index_mut.result.now =
    ap (slice_get c.loop-index.ways.items) (sym c.caller-caller.ensures) ∙ slice_get_read c.loop-index.ways.items c.len.result c.caller-caller.result c.index_mut.result.now whole below c.index_mut.ensures.value in
    let after =
    all_step c.args.scripts.now.sizes.callers c.args.scripts.now.scripts c.args.entries.now c.loop-index.index c.entry-entry.result at c.loop-index.outcomes.items c.loop-index.ways.items c.loop-index.invariant
    c.take_in.new.outcomes c.index_mut.result.now c.take_in.new.self _ there
    (goes_same c.args.scripts.now.sizes.callers c.callers-workers.result c.args.scripts.now.scripts c.scripts.result.now c.entry-entry.result c.loop-index.index c.index_mut.result.now c.take_in.new.self
    c.loop-index.outcomes.items c.deref_mut.result.now c.take_in.new.outcomes workers_are c.scripts.ensures c.deref_mut.ensures.value c.in_ok-take_in.ensures)
    (ap (λ k. slice_set c.loop-index.ways.items k c.take_in.new.self) c.caller-caller.ensures) in
    let sized = after.one_each ∙ sym c.loop-index.invariant.one_each in
    subst (λ os. AllFollow c.args.scripts.now.sizes.callers c.args.scripts.now.scripts c.args.entries.now (c.loop-index.index + 1) os (slice_set c.loop-index.ways.items c.caller-caller.result c.take_in.new.self))
    (sym (whole_written c.loop-index.outcomes.items c.take_in.new.outcomes c.loop-index.outcomes.len sized c.loop-index.outcomes.ok.0)) after

pub returns : goal.returns
returns c = all_end c.args.scripts.now.sizes.callers c.args.scripts.now.scripts c.args.entries.now c.loop-index.outcomes.items c.loop-index.ways.items c.loop-index.index c.loop-index-test.false c.loop-index.auto.index-end c.loop-index.invariant
