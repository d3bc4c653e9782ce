use Rattle.std.proofs.Common.{◌<◌, ◌≤◌, ◌≡◌, ◌≢◌, ℕ, List, [], ◌∷◌, ◌++◌, Some, slice_get, length, set, sym, ap, subst, ◌∙◌, arith}
use Rattle.txn_trace.specs.Now.{now}
use Rattle.striped_map.specs.Seats.{known, shard_in}
use Rattle.striped_map.specs.Sound.{AreHeld, HeldShard, IsIndexed, IsSound, held_shards}
use Rattle.striped_map.proofs.Hands.{apart_in, holds_in, none_in, not_held, shards_pushed, push_last}
use Rattle.striped_map.proofs.Index.{few, indexed_taken}
use Rattle.striped_map.proofs.HandSoundness.{sound_shards, sound_taken, sound_seen}
use Rattle.striped_map.proofs.hand.Hand.take.Goals as goal

pub take-requires-clause-free : goal.take-requires-clause-free
take-requires-clause-free c = let me = c.args.self.now in let n = me.seat.seat.table_id.slots in let v = known me.seat in
    not_held n v (held_shards me.seat me.held.items) (now v.seen) me.sound.shards c.args.stripe (none_in me.seat me.held.items c.args.stripe c.requires.away)

-- No stripe is twice in the list, so the list has at most 4,096 stripes.
pub overflow_cast-place : goal.overflow_cast-place
overflow_cast-place c = let me = c.args.self.now in let n = c.args.map.now.table.shared.table_id.slots in let v = known me.seat in let ks = me.held.items in
    let shards : AreHeld n v (held_shards me.seat ks) (now v.seen) = subst (λ z. AreHeld z.slots v (held_shards me.seat ks) (now v.seen)) c.requires.map me.sound.shards in
    let long : c.push_reserved-place.result ≡ length ks = c.push_reserved-place.ensures.place in
    let within : length ks ≤ n = few n ks (apart_in n v me.seat ks (now v.seen) shards)
    (λ i stripe at. subst (λ z. stripe < z.slots) c.requires.map (me.seat.inside stripe (holds_in n v me.seat ks (now v.seen) shards i stripe at))) in
    let most = c.args.map.now.few in omega arith

pub invariant_of-self : goal.invariant_of-self
invariant_of-self c = let me = c.args.self.now in let n = c.args.map.now.table.shared.table_id.slots in let a = me.seat in let b = c.take.new.seat in let v = known a in let w = known b in let k = c.args.stripe in let ks = me.held.items in
    let none : (i : ℕ) → slice_get ks i ≢ Some k = c.requires.away in
    let s : IsSound n v (held_shards a ks) me.order.items me.levels.items = subst (λ z. IsSound z.slots v (held_shards a ks) me.order.items me.levels.items) c.requires.map me.sound in
    let items : c.push_reserved-place.new.self.items ≡ ks ++ k ∷ [] = c.push_reserved-place.ensures.items in
    let long : c.push_reserved-place.result ≡ length ks = c.push_reserved-place.ensures.place in
    let held = ap (held_shards b) items ∙ shards_pushed a b ks k none c.in-Granted.ensures.taken.1 in
    record {
      sound = subst (λ z. IsSound z.slots w (held_shards b c.push_reserved-place.new.self.items) me.order.items me.levels.items) (sym c.take.ensures.seat)
          (subst (λ (l : List HeldShard). IsSound n w l me.order.items me.levels.items) (sym held)
          (sound_taken n k v w (held_shards a ks) me.order.items me.levels.items (shard_in b k) s (none_in a ks k none) c.in-Granted.ensures.taken.0));
      indexed = subst (λ (l : List ℕ). IsIndexed c.push_reserved-place.new.self.items l) (sym c.set.ensures.items)
          (subst (λ (l : List ℕ). IsIndexed l (set me.index.items k c.push_reserved-place.result)) (sym items)
          (indexed_taken ks me.index.items k c.push_reserved-place.result none c.requires.index long me.indexed));
    }

pub invariant_of-self-in-Denied-1 : goal.invariant_of-self-in-Denied-1
invariant_of-self-in-Denied-1 c = let me = c.args.self.now in let n = c.args.map.now.table.shared.table_id.slots in let a = me.seat in let b = c.take.new.seat in let v = known a in let w = known b in let ks = me.held.items in
    let s : IsSound n v (held_shards a ks) me.order.items me.levels.items = subst (λ z. IsSound z.slots v (held_shards a ks) me.order.items me.levels.items) c.requires.map me.sound in
    record {
      sound = subst (λ z. IsSound z.slots w (held_shards b ks) me.order.items me.levels.items) (sym c.take.ensures.seat)
          (sound_shards n w a b ks me.order.items me.levels.items c.in-Denied.ensures.taken.1
          (sound_seen n v w (held_shards a ks) me.order.items me.levels.items s c.in-Denied.ensures.taken.0.sees));
      indexed = me.indexed;
    }

pub returns-in-Granted-clause-held : goal.returns-in-Granted-clause-held
returns-in-Granted-clause-held c = let ks = c.args.self.now.held.items in let k = c.args.stripe in
    let items : c.push_reserved-place.new.self.items ≡ ks ++ k ∷ [] = c.push_reserved-place.ensures.items in
    let long : length ks ≡ c.push_reserved-place.result = sym c.push_reserved-place.ensures.place in
    subst (λ (l : List ℕ). slice_get l c.push_reserved-place.result ≡ Some k) (sym items)
    (subst (λ (i : ℕ). slice_get (ks ++ k ∷ []) i ≡ Some k) long (push_last ks k))
