use Rattle.std.proofs.Common.{rules, ◌≡◌, ◌∙◌, sym, subst, arith}
use mathlib.Core.Logic.{dite}
use native.Mathlib.Decide.{ℕ_discrete}
use Rattle.txn_words.specs.declared.op.Op.TheVariants.{Get}
use Rattle.txn_trace.specs.Now.{now}
use Rattle.striped_map.specs.Rule.{Holds}
use Rattle.striped_map.specs.Seats.{known}
use Rattle.striped_map.specs.Sound.{AreHeld, held_shards}
use Rattle.striped_map.proofs.Ends.{moved_busy, went_on}
use Rattle.striped_map.proofs.Hands.{holds_in}
use Rattle.striped_map.proofs.hand.Hand.hold_all.Goals as goal

pub returns-in-Err-Busy-clause-err : goal.returns-in-Err-Busy-clause-err
returns-in-Err-Busy-clause-err c = let map = c.args.map.now in let me = c.args.self.now in let stripe = c.loop-stripe.stripe in
    let on = went_on map me c.loop-stripe.self c.hold_patiently.new.self c.loop-stripe.invariant.goes_on c.hold_patiently.ensures.goes_on in
    (stripe, (c.leave.ensures.closed, c.leave.ensures.idle, moved_busy map me c.hold_patiently.new.self c.leave.new.self (Get stripe) _ on c.leave.ensures.moves))

pub loop-stripe-preserved : goal.loop-stripe-preserved
loop-stripe-preserved c = let map = c.args.map.now in let n = map.table.shared.table_id.slots in let inv = c.loop-stripe.invariant in
    let me = c.hold_patiently.new.self in let v = known me.seat in let stripe = c.loop-stripe.stripe in
    let shards : AreHeld n v (held_shards me.seat me.held.items) (now v.seen) = subst (λ z. AreHeld z.slots v (held_shards me.seat me.held.items) (now v.seen)) c.hold_patiently.ensures.map me.sound.shards in
    record {
      map = c.hold_patiently.ensures.map;
      opened = c.hold_patiently.ensures.open;
      levels = c.hold_patiently.ensures.levels ∙ inv.levels;
      goes_on = went_on map c.args.self.now c.loop-stripe.self me inv.goes_on c.hold_patiently.ensures.goes_on;
      held = λ other lt. dite (ℕ_discrete other stripe)
          (λ (e : other ≡ stripe). subst (Holds v) (sym e) (holds_in n v me.seat me.held.items (now v.seen) shards c.in-Ok.field-0 stripe c.in-Ok.ensures.held))
          (λ ne. c.hold_patiently.ensures.goes_on.keeps other (inv.held other (omega arith)));
    }

-- Memory was refused. The outcome names some key, and any key will do.
pub returns-in-Err-Refused-clause-err : goal.returns-in-Err-Refused-clause-err
returns-in-Err-Refused-clause-err c = let on = went_on c.args.map.now c.args.self.now c.loop-stripe.self c.hold_patiently.new.self c.loop-stripe.invariant.goes_on c.hold_patiently.ensures.goes_on in
    (0, (search rules, c.hold_patiently.ensures.open, on.moves))

pub returns-in-Err-Refused-clause-keeps : goal.returns-in-Err-Refused-clause-keeps
returns-in-Err-Refused-clause-keeps c = λ _. (went_on c.args.map.now c.args.self.now c.loop-stripe.self c.hold_patiently.new.self c.loop-stripe.invariant.goes_on c.hold_patiently.ensures.goes_on).keeps
