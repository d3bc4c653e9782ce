use Rattle.std.proofs.Common.{◌≡◌, ◌+◌, [], ◌∷◌, ◌++◌, length, length-append, sym, ap, ◌∙◌, arith, suc}
use Rattle.boostmap_engine.proofs.Vocabulary.{first_crew, Worker}
use Rattle.boostmap_engine.proofs.Turns.{crew_more}
use Rattle.boostmap_engine.proofs.crew.workers_of.Goals as goal

pub loop-number-preserved : goal.loop-number-preserved
loop-number-preserved c =
    let before = c.loop-number.invariant in
    let items = c.in_ok-push.ensures.items in
    let next : suc c.loop-number.number ≡ c.loop-number.number + 1 = omega arith in
    record {
      size = ap length items ∙ length-append c.loop-number.workers.items (c.new.result ∷ []) ∙ ap (λ n. n + 1) before.size;
      first = items ∙ (λ i. before.first i ++ c.new.ensures.worker i ∷ []) ∙ ap (first_crew c.args.scripts.now c.args.limits) next;
      each = λ tries w other less. rw items
          (crew_more c.args.scripts.now tries c.args.limits.callers c.loop-number.workers.items c.new.result (record {
            number = ap (λ (x : Worker). x.number) c.new.ensures.worker ∙ sym before.size;
            workers = ap (λ (x : Worker). x.limits.callers) c.new.ensures.worker;
            keeps = c.new.ensures.keeps tries;
            ready = c.new.ensures.ready;
          }) (before.each tries) w other (rw items at less));
    }
