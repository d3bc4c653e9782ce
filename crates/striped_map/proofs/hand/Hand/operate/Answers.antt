use Rattle.std.proofs.Common.{rules, ◌≡◌, ap}
use Rattle.striped_map.specs.declared.hand.Hand.{Hand}
use Rattle.striped_map.proofs.Ends.{moved_busy, moved_did, moved_on, on_from}
use Rattle.striped_map.proofs.hand.Hand.operate.Goals as goal
use Rattle.striped_map.proofs.hand.Hand.operate.Goals.{else-may_change-via-then-may_change+else-is_err, else-may_change-via-else-may_change}

pub returns-in-Ok-work-clause-ok : goal.returns-in-Ok-work-clause-ok
returns-in-Ok-work-clause-ok c =
    let seat : c.else-may_change.self.seat ≡ c.args.self.now.seat = elim c.else-may_change.branch [
      | else-may_change-via-then-may_change+else-is_err w ↦ ap (λ (h : Hand). h.seat) w.self-is
      | else-may_change-via-else-may_change w ↦ ap (λ (h : Hand). h.seat) w.self-is
    ] in
    let on = on_from c.args.map.now c.args.self.now c.else-may_change.self c.hold.new.self seat c.hold.ensures.goes_on in
    (c.work.ensures.open, moved_did c.args.map.now c.args.self.now c.hold.new.self c.work.new.self c.args.op c.in-Ok-work.reply on c.in-Ok-work.ensures.done)

pub returns-in-Err-clause-err : goal.returns-in-Err-clause-err
returns-in-Err-clause-err c =
    let seat : c.else-may_change.self.seat ≡ c.args.self.now.seat = elim c.else-may_change.branch [
      | else-may_change-via-then-may_change+else-is_err w ↦ ap (λ (h : Hand). h.seat) w.self-is
      | else-may_change-via-else-may_change w ↦ ap (λ (h : Hand). h.seat) w.self-is
    ] in
    let on = on_from c.args.map.now c.args.self.now c.else-may_change.self c.hold.new.self seat c.hold.ensures.goes_on in
    (search rules, c.work.ensures.open, moved_on c.args.map.now c.args.self.now c.hold.new.self c.work.new.self on c.in-Err.ensures.unmoved)

pub returns-in-Err-Busy-clause-err : goal.returns-in-Err-Busy-clause-err
returns-in-Err-Busy-clause-err c =
    let seat : c.else-may_change.self.seat ≡ c.args.self.now.seat = elim c.else-may_change.branch [
      | else-may_change-via-then-may_change+else-is_err w ↦ ap (λ (h : Hand). h.seat) w.self-is
      | else-may_change-via-else-may_change w ↦ ap (λ (h : Hand). h.seat) w.self-is
    ] in
    let on = on_from c.args.map.now c.args.self.now c.else-may_change.self c.hold.new.self seat c.hold.ensures.goes_on in
    (c.leave.ensures.closed, c.leave.ensures.idle, moved_busy c.args.map.now c.args.self.now c.hold.new.self c.leave.new.self c.args.op _ on c.leave.ensures.moves)
