use Rattle.std.proofs.Common.{◌≡◌, ◌≢◌, ℕ, suc, ◌-◌, ◌<◌, List, ◌∷◌, Some, slice_get, set, sym, ap, subst, ◌∙◌, arith}
use Rattle.txn_words.specs.declared.entry.Entry.{Entry}
use Rattle.txn_words.specs.declared.stance.Phase.TheVariants.{Closed}
use Rattle.striped_map.specs.Apart.{Listed}
use Rattle.striped_map.specs.declared.keep.Keep.TheVariants.{Entries}
use Rattle.striped_map.specs.declared.map.StripedMap.{StripedMap}
use Rattle.striped_map.specs.declared.host.Host.{Host}
use Rattle.striped_map.specs.declared.record.Record.{Record}
use Rattle.striped_map.specs.declared.seat.MapSeat.{MapSeat}
use Rattle.striped_map.specs.declared.view.View.{View}
use Rattle.striped_map.specs.Gathered.{HasRecords}
use Rattle.striped_map.specs.Records.{spread}
use Rattle.striped_map.specs.Seats.{IsOverIn, known}
use Rattle.striped_map.specs.Steps.{AreMade, marks, taken_in}
use Rattle.striped_map.proofs.Hosting.{one_merged}
use Rattle.striped_map.proofs.HandSoundness.{at_retired}
use Rattle.striped_map.proofs.host.Host.merge.Goals as goal

-- The first of the merged seats was made, and no other has its number.
newest : (v u w : View) → w ≡ taken_in v u → AreMade w → (0 < u.number) × ((j : ℕ) (r : ℕ × List Entry) → slice_get v.retired j ≡ Some r → (r.0 ≢ u.number) × (0 < r.0))
newest v u w is made =
    let at : slice_get w.retired 0 ≡ Some (u.number, u.seen) = ap (λ (x : View). slice_get x.retired 0) is in
    let old : (j : ℕ) (r : ℕ × List Entry) → slice_get v.retired j ≡ Some r → slice_get w.retired (suc j) ≡ Some r = λ j r has. ap (λ (x : View). slice_get x.retired (suc j)) is ∙ has in
    (made.some 0 (u.number, u.seen) at, λ j r has. (λ twice. let e : 0 ≡ suc j = made.once 0 (suc j) (u.number, u.seen) r at (old j r has) (sym twice) in omega arith, made.some (suc j) r (old j r has)))

-- The seat keeps what the host's seat keeps.
alike : (host : Host) (seat : MapSeat) → IsOverIn host.map.value seat → (known seat).keep ≡ (known host.hand.seat).keep
alike host seat over = over.alike ∙ sym host.alike

pub overflow_sub-number : goal.overflow_sub-number
overflow_sub-number c = let seat = c.args.seat in let new = newest _ (known seat) _ c.take_in-records.ensures.taken c.take_in-records.ensures.made in
    let some : 0 < (known seat).number = new.0 in let is : (known seat).number ≡ seat.number = seat.numbered in omega arith

pub index_mut-requires : goal.index_mut-requires
index_mut-requires c = let me = c.args.self.now in let seat = c.args.seat in let taken = c.take_in-records.ensures.taken in let now = c.take_in-records.new.self.seat in
    let new = newest _ (known seat) _ taken c.take_in-records.ensures.made in
    let all : (known me.hand.seat).keep ≡ Entries = sym (ap (λ (x : View). x.keep) taken) ∙ now.moded ∙ c.in-Entries.is in
    let same : (known seat).keep ≡ (known me.hand.seat).keep = alike me seat c.requires in
    let some : 0 < (known seat).number = new.0 in let low = seat.placed (sym seat.moded ∙ same ∙ all) in
    let is : (known seat).number ≡ seat.number = seat.numbered in let long = me.sized all in omega arith

pub invariant_of-self : goal.invariant_of-self
invariant_of-self c = let me = c.args.self.now in let seat = c.args.seat in let taken = c.take_in-records.ensures.taken in let now = c.take_in-records.new.self.seat in
    let v = known me.hand.seat in let u = known seat in
    let new = newest v u _ taken c.take_in-records.ensures.made in
    let all : v.keep ≡ Entries = sym (ap (λ (x : View). x.keep) taken) ∙ now.moded ∙ c.in-Entries.is in
    let some : 0 < u.number = new.0 in
    let is : u.number ≡ seat.number = seat.numbered in let long = me.sized all in let o = me.theirs.ok.0 in
    let same : u.keep ≡ v.keep = alike me seat c.requires in
    let low = seat.placed (sym seat.moded ∙ same ∙ all) in
    let marked : marks seat.number 0 u.seen ≡ spread seat.number c.take_in-records.result.items = seat.marked (sym seat.moded ∙ same ∙ all) ∙ ap (λ (rs : Listed Record). spread seat.number rs.items) (sym c.take_in-records.ensures.records) in
    let apart : (j : ℕ) (r : ℕ × List Entry) → slice_get v.retired j ≡ Some r → (r.0 ≢ seat.number) × (0 < r.0) = λ j r has. (λ twice. (new.1 j r has).0 (twice ∙ sym is), (new.1 j r has).1) in
    let has : HasRecords ((seat.number, u.seen) ∷ v.retired) (set me.theirs.items (seat.number - 1) (Some c.take_in-records.result)) = one_merged v.retired me.theirs.items seat.number u.seen c.take_in-records.result (omega arith) (omega arith) apart marked (me.recorded all) in
    record {
      of = c.take_in-records.ensures.map ∙ ap (λ (m : StripedMap). m.table.shared.table_id) c.deref.ensures;
      alike = ap (λ (x : View). x.keep) taken ∙ me.alike;
      first = ap (λ (x : View). x.number) taken ∙ me.first;
      closed = at_retired Closed v u _ me.closed taken;
      idle = ap (λ (x : View). x.held) taken ∙ me.idle;
      sized = λ _. (let long = me.sized all in omega arith);
      recorded = λ _. subst (λ (rs : List (ℕ × List Entry)). HasRecords rs (set me.theirs.items (seat.number - 1) (Some c.take_in-records.result))) (sym (ap (λ (x : View). x.retired) taken))
          (subst (λ (k : ℕ). HasRecords ((k, u.seen) ∷ v.retired) (set me.theirs.items (seat.number - 1) (Some c.take_in-records.result))) (sym is) has);
    }
