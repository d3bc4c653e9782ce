use Rattle.std.proofs.Common.{◌≡◌, ℕ, ◌^◌, ◌<◌, ◌∙◌, length, ◌-◌, List, map, take, sym, ap, subst, arith}
use Rattle.txn_words.specs.declared.stance.Phase.TheVariants.{Closed, Opened}
use Rattle.txn_trace.specs.Now.{now}
use Rattle.stripe_shard.specs.ShardAt.{ShardAt}
use Rattle.txn_trace.specs.Log.{rolled_back}
use Rattle.striped_map.specs.declared.view.View.{View}
use Rattle.striped_map.specs.Adding.{MayAdd}
use Rattle.striped_map.specs.Additions.{due, entries_of, left_of}
use Rattle.striped_map.specs.Seats.{known}
use Rattle.striped_map.specs.Sound.{AreHeld, IsSound, held_shards, with_shard}
use Rattle.striped_map.specs.declared.record.Told.{Told}
use Rattle.striped_map.specs.Handling.{IsEnd}
use Rattle.striped_map.specs.Records.{told_by}
use Rattle.striped_map.proofs.Recording.{end_told, end_few}
use Rattle.striped_map.proofs.Rooms.{end_roomy}
use Rattle.striped_map.specs.Steps.{IsAt, StateAfter, AddsIn, at_end}
use Rattle.striped_map.proofs.Ends.{moved_idle}
use Rattle.striped_map.proofs.Hands.{Job, shards_on}
use Rattle.striped_map.proofs.Index.{indexed_none}
use Rattle.striped_map.proofs.HandSoundness.{added_as, sound_ended, sound_lists, at_added, at_idle, may_end, left_end, take_all, order_length}
use Rattle.striped_map.proofs.hand.Hand.leave.Goals as goal

pub add-requires-clause-may : goal.add-requires-clause-may
add-requires-clause-may c = let me = c.args.self.now in let n = c.args.map.now.table.shared.table_id.slots in
    subst (λ (u : View). MayAdd n u (entries_of u c.args.what) (left_of u c.args.what)) (sym c.take_back.ensures.known)
    (may_end n (known me.seat) me.seat.acting c.requires.open c.args.map.now.some c.args.what c.requires.may)

pub give_all-requires-clause-over : goal.give_all-requires-clause-over
give_all-requires-clause-over c = let v = known c.args.self.now.seat in let w = known c.add.new.seat in let n = c.args.map.now.table.shared.table_id.slots in
    at_added n v w _ (left_of v c.args.what) Closed (added_as n v (known c.take_back.new.seat) w c.args.what c.take_back.ensures.known c.add.ensures.added) (ap (λ (s : StateAfter). s.stance.phase) (left_end v c.args.what c.requires.may))

pub give_all-requires-clause-shards : goal.give_all-requires-clause-shards
give_all-requires-clause-shards c = let me = c.args.self.now in let n = c.args.map.now.table.shared.table_id.slots in let v = known me.seat in let w = known c.add.new.seat in let ks = me.held.items in
    let a = added_as n v (known c.take_back.new.seat) w c.args.what c.take_back.ensures.known c.add.ensures.added in
    let many = order_length n (held_shards me.seat ks) me.order.items (due v) (subst (λ z. IsSound z.slots v (held_shards me.seat ks) me.order.items me.levels.items) c.requires.map me.sound).logged in
    let all : take (length me.order.items - 0) (due v) ≡ due v = take_all (length me.order.items - 0) (due v) (omega arith) in
    let held = held_shards c.take_back.new.seat ks in
    let back : AreHeld n v held (rolled_back (now v.seen) (due v)) = subst (λ (jobs : List Job). AreHeld n v held (rolled_back (now v.seen) jobs)) all c.take_back.ensures.shards in
    let left : AddsIn n v (entries_of v c.args.what) (at_end (rolled_back (now v.seen) (due v))) w = subst (λ (l : StateAfter). AddsIn n v (entries_of v c.args.what) l w) (left_end v c.args.what c.requires.may) a in
    subst (λ (f : ℕ → ShardAt). AreHeld n w (map (with_shard f) ks) (now w.seen)) (sym c.add.ensures.shards)
    (shards_on n v w held (rolled_back (now v.seen) (due v)) (now w.seen) back (ap (λ (x : View). x.held) a.view_is) left.have)

pub invariant_of-self : goal.invariant_of-self
invariant_of-self c = let me = c.args.self.now in let n = c.args.map.now.table.shared.table_id.slots in let v = known me.seat in let w = known c.add.new.seat in let u = known c.give_all.new.seat in
    let a = added_as n v (known c.take_back.new.seat) w c.args.what c.take_back.ensures.known c.add.ensures.added in
    let left : AddsIn n v (entries_of v c.args.what) (at_end (rolled_back (now v.seen) (due v))) w = subst (λ (l : StateAfter). AddsIn n v (entries_of v c.args.what) l w) (left_end v c.args.what c.requires.may) a in
    record {
      sound = subst (λ z. IsSound z.slots u (held_shards c.give_all.new.seat c.give_all.new.held.items) c.clear.new.self.items c.clear-2.new.self.items) (sym c.give_all.ensures.map)
          (sound_lists n u _ _ _ (ap (held_shards c.give_all.new.seat) c.give_all.ensures.none) c.clear.ensures.items c.clear-2.ensures.items (sound_ended n v w u _ (rolled_back (now v.seen) (due v)) left c.give_all.ensures.idle));
      indexed = indexed_none c.give_all.new.held.items me.index.items c.give_all.ensures.none;
    }

pub returns-clause-closed : goal.returns-clause-closed
returns-clause-closed c = let v = known c.args.self.now.seat in let w = known c.add.new.seat in let u = known c.give_all.new.seat in let n = c.args.map.now.table.shared.table_id.slots in
    let a = added_as n v (known c.take_back.new.seat) w c.args.what c.take_back.ensures.known c.add.ensures.added in
    at_idle Closed w u (at_added n v w _ (left_of v c.args.what) Closed a (ap (λ (s : StateAfter). s.stance.phase) (left_end v c.args.what c.requires.may))) c.give_all.ensures.idle

pub returns-clause-idle : goal.returns-clause-idle
returns-clause-idle c = ap (λ (v : View). v.held) c.give_all.ensures.idle

pub returns-clause-moves : goal.returns-clause-moves
returns-clause-moves c = let n = c.args.map.now.table.shared.table_id.slots in
    moved_idle _ _ _ (known c.add.new.seat) _ _ (added_as n (known c.args.self.now.seat) (known c.take_back.new.seat) (known c.add.new.seat) c.args.what c.take_back.ensures.known c.add.ensures.added) c.give_all.ensures.idle

pub add-requires-clause-told : goal.add-requires-clause-told
add-requires-clause-told c all = let me = c.args.self.now in let v = known me.seat in let b = c.take_back.new.seat in
    let many = order_length _ (held_shards me.seat me.held.items) me.order.items (due v) me.sound.logged in let l = c.len.ensures.value in
    subst (λ (t : Told). entries_of (known b) c.args.what ≡ told_by b.number t) (sym c.told_of-told.ensures)
    (end_told (known b) c.args.what b.number c.len.result (subst (λ (u : View). IsEnd u c.args.what) (sym c.take_back.ensures.known) c.requires.may) b.numbered
    (ap (λ (u : View). length (due u)) c.take_back.ensures.known ∙ (omega arith)))

pub add-requires-clause-few : goal.add-requires-clause-few
add-requires-clause-few c =
    subst (λ (t : Told). length (told_by 0 t) < 2 ^ 64) (sym c.told_of-told.ensures) (end_few c.args.what c.len.result (let s = c.len.ensures.small in omega arith))

pub add-requires-clause-open : goal.add-requires-clause-open
add-requires-clause-open c = subst (IsAt Opened) (sym c.take_back.ensures.known) c.requires.open

pub add-requires-clause-room : goal.add-requires-clause-room
add-requires-clause-room c = end_roomy (known c.args.self.now.seat) c.args.what c.take_back.new.seat c.requires.may
