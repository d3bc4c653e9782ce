use Rattle.std.proofs.Common.{◌≡◌, rules, of_calls, refl}
use Rattle.boostmap_engine.proofs.Vocabulary.{Happens, next_at, next_maps}
use Rattle.boostmap_engine.proofs.Turns.{turn_goes}
use Rattle.boostmap_engine.proofs.turn.take_turn.Goals as goal

pub returns-clause-takes : goal.returns-clause-takes
returns-clause-takes c =
    let takes = next_maps Happens _ (λ x f. f.0.ghost_name ≡ x.0.ghost_name) (λ f. f.0.now) c.args.scripts.now c.args.tries c.size-size.result _ c.args.worker.now _ _ _ refl c.take_turn-finish.ensures.takes (λ x s a y i taken. search (rules, of_calls)) in
    (c.take_turn-finish.result, next_at _ _ _ _ _ _ _ _ _ _ _ _ (rw c.size-size.ensures at takes.0) refl (search (rules, takes)) refl)

pub returns-clause-goes : goal.returns-clause-goes
returns-clause-goes c =
    turn_goes c.args.scripts.now c.args.tries _ _ _ _ _ _ (rw c.size-size.ensures at c.take_turn-finish.ensures.turn) c.requires.keeps
    (returns-clause-takes c).1
