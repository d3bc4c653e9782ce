use Rattle.std.proofs.Common.{Option, refl, sym, subst}
use Rattle.boost_core.proofs.Vocabulary.{Owner, Move, Tells, step_from, world_of, state_of}
use Rattle.boost_core.proofs.Moves.{move_of}
use Rattle.boost_core.proofs.TableMoves.{served}
use Rattle.boost_core.proofs.Serving.{serves}
use Rattle.boost_core.proofs.NodeSteps.{lists_of, serves as listed}
use Rattle.boost_core.proofs.GapSteps.{cursors_of, serves_cursors}
use Rattle.boost_core.proofs.machine.Core.serve.Goals as goal

pub invariant_of-self : goal.invariant_of-self
invariant_of-self c =
    let placed = rw c.to_step.ensures at c.placed_after-self-inside.ensures in
    let is = serves _ c.self.invariant.tells c.size-size.ensures.parents c.serve-answer.new.table c.serve-answer.ensures.follows c.args.step c.serve-answer.result c.serve-answer.ensures.serves in
    record {
      tells = subst (λ (o : Option Owner). Tells (served (world_of c.self.inside.limits c.self.inside.history c.self.inside.counts c.self.inside.table c.self.inside.sessions c.self.inside.locks c.self.inside.placed c.self.inside.words) c.serve-answer.new.table o)) (sym placed) is.tells;
      owes = c.self.invariant.owes;
      room = c.self.invariant.room;
      noted = c.self.invariant.noted;
    }

pub returns-clause-event : goal.returns-clause-event
returns-clause-event c =
    let w = world_of c.self.inside.limits c.self.inside.history c.self.inside.counts c.self.inside.table c.self.inside.sessions c.self.inside.locks c.self.inside.placed c.self.inside.words in
    let now = served w c.serve-answer.new.table c.placed_after-self-inside.result in
    let placed = rw c.to_step.ensures at c.placed_after-self-inside.ensures in
    let is = serves _ c.self.invariant.tells c.size-size.ensures.parents c.serve-answer.new.table c.serve-answer.ensures.follows c.args.step c.serve-answer.result c.serve-answer.ensures.serves in
    record {
      move = subst (λ (o : Option Owner). Move c.args.self.now (step_from c.args.step) c.serve-answer.result (state_of (served w c.serve-answer.new.table o))) (sym placed) (move_of _ _ _ _ _ c.self.view_is is.move);
      lists = lists_of _ _ _ _ _ c.self.view_is (listed w now c.size-size.ensures.stored c.serve-answer.ensures.rises c.args.step c.serve-answer.result c.serve-answer.ensures.serves);
      cursors = cursors_of _ _ _ _ _ c.self.view_is (serves_cursors w now c.self.invariant.tells (c.serve-answer.ensures.follows.list.sound c.self.invariant.tells.sound) refl c.args.step c.serve-answer.result c.serve-answer.ensures.serves);
    }
