use Rattle.std.proofs.Common.{refl}
use Rattle.locked_map.proofs.Holding.{goes_sized, in_step_sized}
use Rattle.locked_map.proofs.Holding.{goes_held, held_in_step, held_sized, no_room_run}
use Rattle.locked_map.specs.Holds.{FoundOther, HadNoRoom, TookTurn}
use Rattle.locked_map.proofs.caller.Caller.hold.Goals as goal

pub returns-then-stripes-clause-held : goal.returns-then-stripes-clause-held
returns-then-stripes-clause-held g c = rw (← c.self.view_is) (held_sized FoundOther _ _ _ _ _ _ _ _ _ c.size.ensures c.turn-turn.ensures.drive (c.if-self.false, λ same. c.if-stripes.true (cc), refl, refl, refl, refl))

pub returns-then-not-take_turn-clause-held : goal.returns-then-not-take_turn-clause-held
returns-then-not-take_turn-clause-held g c =
    let none = c.take_turn.ensures.no_room c.if-not-take_turn.true in
    rw (← c.self.view_is) (held_sized HadNoRoom _ _ _ _ _ _ _ _ _ c.size.ensures c.turn-turn.ensures.drive (c.if-self.false, refl, none.0, rw none.1, none.2))

pub returns-then-not-take_turn-clause-in_step : goal.returns-then-not-take_turn-clause-in_step
returns-then-not-take_turn-clause-in_step g c = rw (← c.self.view_is) (λ ins.
    let sized = in_step_sized _ _ _ _ _ _ _ c.size.ensures c.turn-turn.ensures.drive ins.1 in
    ((c.if-self.false, c.take_turn.ensures.in_step _ _ sized.0 sized.1), λ is. absurd (cc is)))

pub returns-then-not-take_turn-clause-goes : goal.returns-then-not-take_turn-clause-goes
returns-then-not-take_turn-clause-goes g c = rw (← c.self.view_is) (λ base goes.
    let on = goes_sized base _ _ _ _ c.turn-turn.ensures.drive goes.on in
    let none = c.take_turn.ensures.no_room c.if-not-take_turn.true in
    no_room_run base _ _ _ _ none.1 none.2 (c.take_turn.ensures.starts c.if-not-take_turn.true base on) on)

pub returns-clause-held : goal.returns-clause-held
returns-clause-held g c = rw (← c.self.view_is) (held_sized TookTurn _ _ _ _ _ _ _ _ _ c.size.ensures c.turn-turn.ensures.drive (record {
  sound = c.if-self.false;
  stripes = cc;
  turn = rw (← c.turn-turn.ensures.turn) (c.take_turn.ensures.took c.if-not-take_turn.false);
  broken = rw (← c.is_whole.ensures, ← c.ended-end.ensures.drive) c.breaks-self-inside.ensures;
  ends = rw (← c.ended-end.ensures.drive) c.end_in.ensures;
  whose = record { number = refl; limits = refl };
  claims = refl;
  side = refl;
}))

pub returns-clause-in_step : goal.returns-clause-in_step
returns-clause-in_step g c = rw (← c.self.view_is) (λ ins.
    let sized = in_step_sized _ _ _ _ _ _ _ c.size.ensures c.turn-turn.ensures.drive ins.1 in
    held_in_step _ _ _ _ _ _ _ _ _ (c.take_turn.ensures.in_step _ _ sized.0 sized.1) c.trace-core.ensures.shape c.is_whole.ensures c.ended-end.ensures.drive c.breaks-self-inside.ensures c.end_in.ensures)

pub returns-clause-goes : goal.returns-clause-goes
returns-clause-goes g c = rw (← c.self.view_is) (λ base goes.
    goes_held base _ _ _ _ _ _ c.is_whole.ensures c.ended-end.ensures.drive c.breaks-self-inside.ensures c.end_in.ensures
    (c.take_turn.ensures.goes base (goes_sized base _ _ _ _ c.turn-turn.ensures.drive goes.on)))
