use Rattle.std.proofs.Common.{◌≡◌, ℕ, ◌+◌, ◌%◌, ◌^◌, ◌<◌, ◌∙◌, List, length, sym, ap, subst, arith, lit<}
use Rattle.stripe_shard.specs.ShardAt.{ShardAt}
use Rattle.txn_words.specs.Held.{times}
use Rattle.striped_map.specs.declared.view.View.{View}
use Rattle.striped_map.specs.declared.record.Record.{Record}
use Rattle.striped_map.specs.Records.{spread, told_by}
use Rattle.striped_map.specs.Steps.{marks, placed, places}
use Rattle.striped_map.proofs.Recording.{now_marked, length-told}
use mathlib.Core.Option.{none}
use Rattle.atomic_table.specs.Table.{Allows, step}
use Rattle.striped_map.specs.declared.addition.Addition.{Addition}
use Rattle.striped_map.specs.Rule.{Holds, IsKept}
use Rattle.striped_map.specs.Additions.{appended, appended_counted, entries_of, left_of}
use Rattle.striped_map.specs.Steps.{AddsIn}
use Rattle.striped_map.proofs.RuleSteps.{adds_so, adds_counted, shards_at}
use Rattle.striped_map.proofs.Rooms.{room_after}
use Rattle.striped_map.proofs.map.StripedMap.add_as.Goals as goal

pub fetch_add-at-requires : goal.fetch_add-at-requires
fetch_add-at-requires g c = let map = c.args.self.now in let seat = c.args.seat.now in let s = map.sized in let n = map.table.shared.table_id.slots in
    let mode = seat.moded ∙ sym c.requires.keep ∙ c.in-Entries.is in (
      c.requires.seat,
      (let t = c.ticks.ensures in omega arith),
      subst (λ (what : Addition). Allows IsKept n seat.seat.id seat.seat.me c.ticks.result (λ y. (y + c.count-count.result) % 2 ^ 64) (appended_counted what (step n c.ticks.result c.count-count.result 0 none) seat.seat.me)) c.requires.said
          (subst (λ (i : ℕ). Allows IsKept n seat.seat.id seat.seat.me i (λ y. (y + c.count-count.result) % 2 ^ 64) (appended_counted c.args.what (step n i c.count-count.result 0 none) seat.seat.me)) (sym c.ticks.ensures)
          (adds_counted _ _ _ _ _ _ seat.acting mode (ap length (c.requires.told (sym c.requires.keep ∙ c.in-Entries.is)) ∙ length-told _ 0 c.args.told ∙ sym c.count-count.ensures) c.requires.may)),
    )

pub load-requires : goal.load-requires
load-requires g c = let map = c.args.self.now in let seat = c.args.seat.now in let s = map.sized in let w = c.requires.word in let n = map.table.shared.table_id.slots in (
  c.requires.seat,
  omega arith,
  subst (λ (what : Addition). Allows IsKept n seat.seat.id seat.seat.me c.args.word (λ y. y) (appended what (step n c.args.word 0 0 none) seat.seat.me)) c.requires.said
      (adds_so _ _ _ _ _ _ seat.acting (λ z. c.in_default.not-Entries (c.requires.keep ∙ sym seat.moded ∙ z)) c.requires.may),
)

pub returns-in-Entries-clause-shards : goal.returns-in-Entries-clause-shards
returns-in-Entries-clause-shards g c = ap shards_at c.fetch_add-at.ensures.2.0

pub invariant_of-seat : goal.invariant_of-seat
invariant_of-seat g c = let seat = c.args.seat.now in let e = c.fetch_add-at.ensures in let w = c.fetch_add-at.new.seat.me.0 in
    let found = c.fetch_add-at.result in let is = e.2.1.view_is in
    record {
      low = seat.low;
      placed = seat.placed;
      acting = ap (λ (v : View). v.acts) is ∙ seat.acting;
      moded = ap (λ (v : View). v.keep) is ∙ seat.moded;
      marked = λ all. subst (λ (rs : List Record). marks seat.number 0 w.seen ≡ spread seat.number rs) (sym c.push_reserved.ensures.items)
          (now_marked seat.number seat.seat.me.0 w found _ seat.records.items (record { at = found; what = c.args.told }) seat.numbered e.2.2 (seat.marked all) (ap (placed found) (subst (λ (what : Addition). entries_of seat.seat.me.0 what ≡ told_by seat.number c.args.told) c.requires.said (c.requires.told all))));
      roomy = λ all at.
          let adds = subst (λ (what : Addition). AddsIn c.args.self.now.table.shared.table_id.slots seat.seat.me.0 (entries_of seat.seat.me.0 what) (left_of seat.seat.me.0 what) w) (sym c.requires.said) e.2.1 in
          let r = room_after _ c.args.what seat w adds c.requires.room all at in let l = c.push_reserved.ensures.room in omega arith;
      numbered = ap (λ (v : View). v.number) is ∙ seat.numbered;
      inside = λ s h. subst (λ z. s < z.slots) (sym e.0) (seat.inside s (subst (λ (v : View). Holds v s) is h));
      slotted = λ s. ap (λ (c : List (ℕ × ShardAt)). times s (places c)) e.2.0 ∙ seat.slotted s ∙ ap (λ (v : View). times s v.held) (sym is);
    }

pub push_reserved-requires : goal.push_reserved-requires
push_reserved-requires g c = (lit< tt, c.args.seat.now.roomy (sym c.requires.keep ∙ c.in-Entries.is) c.requires.open)
