use Rattle.std.proofs.Common.{refl, ◌<◌, ◌∙◌, sym, ap, subst, arith}
use Rattle.striped_map.specs.declared.view.View.{View}
use Rattle.striped_map.specs.Rule.{Holds}
use Rattle.striped_map.specs.Steps.{IsAt, Sat, marks}
use Rattle.striped_map.proofs.RuleSteps.{Slotted, brings, slotted_front}
use Rattle.txn_words.specs.declared.stance.Phase.TheVariants.{Opened}
use Rattle.striped_map.proofs.map.StripedMap.bring.Goals as goal

pub load-requires : goal.load-requires
load-requires c = let k = c.args.stripe in let seat = c.args.seat.now in let s = c.args.self.now.sized in
    let lt : k < c.args.self.now.table.shared.table_id.slots = subst (λ z. k < z.slots) c.requires.seat (seat.inside k c.requires.held) in
    (c.requires.seat, omega arith, brings _ _ _ _ seat.slotted c.requires.held)

pub invariant_of-seat : goal.invariant_of-seat
invariant_of-seat c = let k = c.args.stripe in let seat = c.args.seat.now in let e = c.load.ensures in let is = e.2 k refl in
    let view = ap (λ (m : Sat). m.0) is in
    record {
      low = seat.low;
      placed = seat.placed;
      acting = ap (λ (v : View). v.acts) view ∙ seat.acting;
      moded = ap (λ (v : View). v.keep) view ∙ seat.moded;
      marked = λ all. ap (λ (v : View). marks seat.number 0 v.seen) view ∙ seat.marked all;
      roomy = λ all at. seat.roomy all (subst (IsAt Opened) view at);
      numbered = ap (λ (v : View). v.number) view ∙ seat.numbered;
      inside = λ s h. subst (λ z. s < z.slots) (sym e.0) (seat.inside s (subst (λ (v : View). Holds v s) view h));
      slotted = subst Slotted (sym is) (slotted_front k seat.seat.me seat.slotted c.requires.held);
    }
