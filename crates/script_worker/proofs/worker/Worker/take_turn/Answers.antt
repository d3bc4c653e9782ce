use Rattle.std.proofs.Common.{◌≡◌, rules, of_calls, refl, ap}
use Rattle.script_worker.proofs.Taking.{turn_next, next_at}
use Rattle.script_worker.proofs.worker.Worker.take_turn.Goals as goal

pub returns-clause-takes : goal.returns-clause-takes
returns-clause-takes g c =
    let taken = turn_next (λ f s answer e. goal.F-step g f s answer e) _
    (λ x f. (f.0.ghost_name ≡ x.0.ghost_name) × (f.1.ghost_name ≡ x.1.ghost_name) × (f.2.ghost_name ≡ x.2.ghost_name)
    × (f.3 ≡ x.3) × (f.4 ≡ x.4))
    (λ f. record { taker = f.0.now; worker = f.2.now; finish = f.1.now }) c.args.size c.args.scripts.now c.args.tries c.args.self.now
    c.turn.new.self c.turn.result c.in-Some.turn _ _ c.turn.ensures.worker c.turn.ensures.turn c.turn.ensures.step c.in-Some.is refl refl
    (refl, refl, refl, refl, refl) c.take.ensures (λ z s a y i taken. (
      record {
        taken = search (rules, of_calls);
        told = rw (← (ap (λ b. b.now) i.3), ← (ap (λ b. b.now) i.4)) (search (rules, of_calls));
        ended = rw (← (ap (λ b. b.now) i.3), ← (ap (λ b. b.now) i.4)) (search (rules, of_calls));
      },
      search (rules, of_calls),
    )) in
    next_at _ _ _ _ _ _ _ _ _ _ _ _ taken.0 (search (rules, taken)) (search (rules, taken)) (search (rules, taken))
