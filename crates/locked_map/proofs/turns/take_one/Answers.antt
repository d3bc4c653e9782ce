use Rattle.locked_map.proofs.turns.take_one.Goals as goal

pub returns : goal.returns
returns g c = rw (← c.reserve.ensures.entries) (record {
  took = λ yes. (c.take.result, c.take.ensures.takes);
  whose = c.take.ensures.whose;
  no_room = λ is. absurd (cc is);
  in_step = c.take.ensures.in_step;
  goes = c.take.ensures.goes;
  starts = λ is. absurd (cc is);
})
