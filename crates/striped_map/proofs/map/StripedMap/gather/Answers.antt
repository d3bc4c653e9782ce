use Rattle.std.proofs.Common.{ℕ, ◌<◌, ◌∙◌, List, sym, ap, subst, arith}
use mathlib.Core.Option.{none}
use Rattle.atomic_table.specs.Table.{Allows, step}
use Rattle.striped_map.specs.declared.view.View.{View}
use Rattle.striped_map.specs.Rule.{Holds, IsKept}
use Rattle.striped_map.specs.Steps.{gathered, places}
use Rattle.stripe_shard.specs.ShardAt.{ShardAt}
use Rattle.txn_words.specs.Held.{times}
use Rattle.striped_map.proofs.Recording.{still_marked}
use Rattle.striped_map.proofs.MergedSeats.{gathers}
use Rattle.striped_map.proofs.RuleSteps.{shards_at}
use Rattle.txn_words.specs.declared.stance.Phase.TheVariants.{Opened}
use Rattle.striped_map.proofs.Rooms.{at_between}
use Rattle.striped_map.proofs.map.StripedMap.gather.Goals as goal

pub load-requires : goal.load-requires
load-requires c = let map = c.args.self.now in let s = map.sized in let is = c.callers.ensures in let n = map.table.shared.table_id.slots in let seat = c.args.seat.now in (
  c.requires,
  omega arith,
  subst (λ (i : ℕ). Allows IsKept n seat.seat.id seat.seat.me i (λ y. y) (gathered (step n i 0 0 none) seat.seat.me)) (omega arith) (gathers n _ _ seat.acting),
)

pub returns-clause-gathers : goal.returns-clause-gathers
returns-clause-gathers c = let is = c.callers.ensures in (c.load.ensures.2 (omega arith)).1

pub returns-clause-shards : goal.returns-clause-shards
returns-clause-shards c = let is = c.callers.ensures in ap shards_at (c.load.ensures.2 (omega arith)).0

pub invariant_of-seat : goal.invariant_of-seat
invariant_of-seat c = let seat = c.args.seat.now in let w = c.load.new.seat.me.0 in let map = c.args.self.now in let at = c.callers.ensures in
    let e = c.load.ensures.2 (omega arith) in
    let sees = e.1.sees in
    let is = sees.view_is in
    record {
      low = seat.low;
      placed = seat.placed;
      acting = ap (λ (v : View). v.acts) is ∙ seat.acting;
      moded = ap (λ (v : View). v.keep) is ∙ seat.moded;
      marked = λ all. still_marked _ seat.number seat.seat.me.0 w seat.records.items seat.numbered sees.goes (seat.marked all);
      roomy = λ all at. seat.roomy all (at_between Opened _ seat.seat.me.0 w (ap (λ (v : View). v.number) is) sees.goes at);
      numbered = ap (λ (v : View). v.number) is ∙ seat.numbered;
      inside = λ s h. subst (λ z. s < z.slots) (sym (c.load.ensures.0)) (seat.inside s (subst (λ (v : View). Holds v s) is h));
      slotted = λ s. ap (λ (c : List (ℕ × ShardAt)). times s (places c)) e.0 ∙ seat.slotted s ∙ ap (λ (v : View). times s v.held) (sym is);
    }
