use Rattle.std.proofs.Common.{◌∙◌, rules, refl, sym, ap, subst}
use Rattle.script_worker.proofs.Vocabulary.{Heard, Sizes}
use Rattle.thread_runs.proofs.{ScriptEnds.over_may, Adding.IsBefore, Adding.before_first, Adding.called, Adding.fell_out}
use Rattle.thread_runs.proofs.run_script.run_script.Goals as goal

pub loop-init : goal.loop-init
loop-init g c = (record { number = refl; limits = refl }, before_first _ _ _ _ _ _ c.new-heard.ensures c.requires.closed)

pub loop-preserved : goal.loop-preserved
loop-preserved g c =
    let same = c.hear-end.ensures.same in
    let more = c.grow.ensures.same in
    let inv = c.loop.invariant in
    let after = called _ _ c.args.tries c.args.script.now c.args.me.now.seen _ _ _ c.hear-end.new.me c.grow.new.me _ c.hear-end.result _
    inv.0.number (ap (λ (z : Sizes). z.half) inv.0.limits) c.call-call.ensures c.hear-end.ensures.heard c.progress.ensures
    c.hear-end.ensures.adds c.hear-end.ensures.ended c.hear-end.ensures.rows (rw c.if-not-grow.false at c.grow.ensures.grown) inv.1 in
    let next = rw c.in-Next.is at after in (
      record { number = more.number ∙ same.number ∙ inv.0.number; limits = more.limits ∙ same.limits ∙ inv.0.limits },
      subst (λ (h : Heard). IsBefore c.args.me.now.number c.args.me.now.limits.half c.args.script.now c.args.me.now.seen h c.grow.new.me.broken c.grow.new.me.seen) (sym c.go_on.ensures) next,
    )

-- If a call for help ends with `OutOfStep`, the script ends.
pub returns-then-not-grow : goal.returns-then-not-grow
returns-then-not-grow g c =
    let inv = c.loop.invariant in
    let (told, closed) = fell_out _ _ c.args.tries c.args.script.now _ _ _ _ c.hear-end.result c.hear-end.new.me c.grow.new.me
    c.hear-end.ensures.adds c.hear-end.ensures.rows (rw c.if-not-grow.true at c.grow.ensures.grown) inv.1.0 in
    record { same = search rules; may = tt; closed = closed; told = told }

pub returns-in-Over : goal.returns-in-Over
returns-in-Over g c =
    let inv = c.loop.invariant in
    let after = called _ _ c.args.tries c.args.script.now c.args.me.now.seen _ _ _ c.hear-end.new.me c.grow.new.me _ c.hear-end.result _
    inv.0.number (ap (λ (z : Sizes). z.half) inv.0.limits) c.call-call.ensures c.hear-end.ensures.heard c.progress.ensures
    c.hear-end.ensures.adds c.hear-end.ensures.ended c.hear-end.ensures.rows (rw c.if-not-grow.false at c.grow.ensures.grown) inv.1 in
    let over = rw c.in-Over.is at after in
    record {
      same = search rules;
      may = rw c.outcome.ensures (over_may c.args.me.now.limits.half c.args.script.now _ _ _ over.1.1);
      closed = over.1.0;
      told = rw c.outcome.ensures over.0;
    }
