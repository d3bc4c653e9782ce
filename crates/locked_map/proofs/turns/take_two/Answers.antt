use Rattle.std.proofs.Common.{◌∙◌}
use Rattle.locked_map.proofs.Holding.{no_second, second_of}
use Rattle.locked_map.proofs.turns.take_two.Goals as goal

pub take-requires-in-Placed-clause-step : goal.take-requires-in-Placed-clause-step
take-requires-in-Placed-clause-step g c = (second_of 0 c.args.drive.now _ c.take.result c.args.first c.args.second c.requires.turn c.take.ensures.takes.told c.in-Placed.is).0

pub returns-in-Placed : goal.returns-in-Placed
returns-in-Placed g c = rw (← c.reserve.ensures.entries) (record {
  took = λ yes. (
    c.take.result,
    c.take.new.booked.core,
    c.take.new.seen.entries,
    c.take.new.drive,
    c.take.ensures.takes,
    rw c.in-Placed.is (c.take-in-Placed.result, c.take-in-Placed.ensures.takes),
  );
  whose = (c.take-in-Placed.ensures.whose.0 ∙ c.take.ensures.whose.0, c.take-in-Placed.ensures.whose.1 ∙ c.take.ensures.whose.1);
  no_room = λ is. absurd (cc is);
  in_step = λ limits number sized ins. c.take-in-Placed.ensures.in_step limits number
      (second_of _ c.args.drive.now _ c.take.result c.args.first c.args.second c.requires.turn c.take.ensures.takes.told c.in-Placed.is).1 (c.take.ensures.in_step limits number sized ins);
  goes = λ base goes. c.take-in-Placed.ensures.goes base (c.take.ensures.goes base goes);
  starts = λ is. absurd (cc is);
})

pub returns-in_default : goal.returns-in_default
returns-in_default g c = rw (← c.reserve.ensures.entries) (record {
  took = λ yes. (
    c.take.result,
    c.take.new.booked.core,
    c.take.new.seen.entries,
    c.take.new.drive,
    c.take.ensures.takes,
    no_second c.args.claims.now.tried c.take.new.booked.core c.take.new.seen.entries c.take.new.drive c.args.second c.take.result c.in_default.not-Placed,
  );
  whose = c.take.ensures.whose;
  no_room = λ is. absurd (cc is);
  in_step = c.take.ensures.in_step;
  goes = c.take.ensures.goes;
  starts = λ is. absurd (cc is);
})
