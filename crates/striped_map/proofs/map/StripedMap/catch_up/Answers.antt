use Rattle.std.proofs.Common.{ℕ, ◌<◌, List, ap, arith, ◌∙◌, sym, subst}
use Rattle.stripe_shard.specs.ShardAt.{ShardAt}
use Rattle.txn_words.specs.Held.{times}
use Rattle.striped_map.proofs.Recording.{still_marked}
use Rattle.atomic_table.specs.Table.{Joins}
use Rattle.striped_map.specs.declared.view.View.{View}
use Rattle.striped_map.specs.Rule.{Holds, IsKept}
use Rattle.striped_map.specs.Steps.{Sat, SeesIn, blank, heard, places}
use Rattle.striped_map.proofs.Meets.{witnesses, hears, meets_up, sees_met}
use Rattle.txn_words.specs.declared.stance.Phase.TheVariants.{Opened}
use Rattle.striped_map.proofs.Rooms.{at_between}
use Rattle.striped_map.proofs.map.StripedMap.catch_up.Goals as goal

pub split_seat-witness-requires : goal.split_seat-witness-requires
split_seat-witness-requires c = let s = c.args.self.now.sized in (c.requires.other, omega arith, witnesses _ _)

pub join_seat-requires : goal.join_seat-requires
join_seat-requires c = let me = c.args.seat.now in let s = c.args.self.now.sized in let split = c.split_seat-witness.ensures in (
  c.requires.seat,
  split.3 ∙ c.requires.other,
  ap (λ (m : Sat). m.1) split.4,
  omega arith,
  subst (λ (w : View). Joins IsKept me.seat.id me.seat.me.0 c.split_seat-witness.result.id w (heard me.seat.me.0 w) blank) (sym (ap (λ (m : Sat). m.0) split.4)) (hears _ _ _ _ me.acting),
)

pub load-requires : goal.load-requires
load-requires c = let me = c.args.seat.now in let s = c.args.self.now.sized in
    (c.join_seat.ensures.0 ∙ c.requires.seat, omega arith, meets_up _ _ _ _ (ap (λ (m : Sat). m.0.acts) c.join_seat.ensures.2 ∙ me.acting))

pub returns-clause-sees : goal.returns-clause-sees
returns-clause-sees c = let v : View = c.args.seat.now.seat.me.0 in let heard_view = ap (λ (m : Sat). m.0) c.join_seat.ensures.2 in
    sees_met _ v c.join_seat.new.seat.me.0 c.load.new.seat.me.0 c.split_seat-witness.result.me.0.seen heard_view c.load.ensures.2.1

pub invariant_of-seat : goal.invariant_of-seat
invariant_of-seat c = let seat = c.args.seat.now in let w = c.load.new.seat.me.0 in
    let sees : SeesIn c.args.self.now.table.shared.table_id.slots seat.seat.me.0 w = sees_met _ seat.seat.me.0 c.join_seat.new.seat.me.0 w c.split_seat-witness.result.me.0.seen (ap (λ (m : Sat). m.0) c.join_seat.ensures.2) c.load.ensures.2.1 in
    let is = sees.view_is in
    record {
      low = seat.low;
      placed = seat.placed;
      acting = ap (λ (v : View). v.acts) is ∙ seat.acting;
      moded = ap (λ (v : View). v.keep) is ∙ seat.moded;
      marked = λ all. still_marked _ seat.number seat.seat.me.0 w seat.records.items seat.numbered sees.goes (seat.marked all);
      roomy = λ all at. seat.roomy all (at_between Opened _ seat.seat.me.0 w (ap (λ (v : View). v.number) is) sees.goes at);
      numbered = ap (λ (v : View). v.number) is ∙ seat.numbered;
      inside = λ s h. subst (λ z. s < z.slots) (sym (c.load.ensures.0 ∙ c.join_seat.ensures.0)) (seat.inside s (subst (λ (v : View). Holds v s) is h));
      slotted = λ s. ap (λ (c : List (ℕ × ShardAt)). times s (places c)) (c.load.ensures.2.0 ∙ ap (λ (m : Sat). m.1) c.join_seat.ensures.2) ∙ seat.slotted s ∙ ap (λ (v : View). times s v.held) (sym is);
    }
