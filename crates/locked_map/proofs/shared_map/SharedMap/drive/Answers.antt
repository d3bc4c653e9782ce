use Rattle.std.proofs.Common.{refl, subst, ◌∙◌}
use Rattle.locked_map.specs.Holds.{GoesTo}
use Rattle.locked_map.proofs.Calling.{starts, holds_on, is_held}
use Rattle.locked_map.proofs.shared_map.SharedMap.drive.Goals as goal

pub loop-init : goal.loop-init
loop-init g c =
    let new = starts c.args.me.now c.args.call c.new-drive.result c.limits.result c.number.result c.limits.ensures c.number.ensures c.new-drive.ensures.drive c.new-drive.ensures.made c.requires.fits in
    record { number = refl; limits = refl; side = refl; claims = refl; going = new.going; caller = new.whose; call = new.what; holding = new.holding }

pub loop-preserved : goal.loop-preserved
loop-preserved g c =
    let inv = c.loop.invariant in
    let held = c.hold-end.ensures in record {
      number = held.caller.number ∙ inv.number;
      limits = held.caller.limits ∙ inv.limits;
      side = held.same ∙ inv.side;
      claims = held.claims ∙ inv.claims;
      going = subst (GoesTo c.args.me.now.seen c.hold-end.new.self.seen c.hold-end.new.drive) c.in_default.is (held.goes c.args.me.now.seen inv.going);
      caller = held.drive.0 ∙ inv.caller;
      call = held.drive.1 ∙ inv.call;
      holding = holds_on _ _ _ _ _ _ _ _ _ inv.holding c.in_default.is held.held;
    }

pub returns-in-Some-end-clause-held : goal.returns-in-Some-end-clause-held
returns-in-Some-end-clause-held g c = is_held _ _ _ _ _ _ _ _ _ _ c.loop.invariant.holding c.in-Some-end.is c.hold-end.ensures.held
