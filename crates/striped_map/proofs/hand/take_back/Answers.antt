use Rattle.std.proofs.Common.{◌≡◌, ℕ, suc, ◌-◌, ◌/◌, List, [], ◌∷◌, ◌++◌, Some, slice_get, length, sym, refl, ap, subst, ◌∙◌, arith, lit<}
use Rattle.std.proofs.lemmas.Option.{same_Some, slice_get_within}
use Rattle.txn_trace.specs.Locks.{stripe_of}
use Rattle.txn_trace.specs.Now.{now}
use Rattle.txn_words.specs.Map.{set_at}
use Rattle.stripe_shard.specs.Calls.{TakesBack}
use Rattle.striped_map.specs.declared.view.View.{View}
use Rattle.striped_map.specs.Additions.{due}
use Rattle.striped_map.specs.Rule.{Holds}
use Rattle.striped_map.specs.Seats.{known, shard_in}
use Rattle.striped_map.specs.Sound.{AreHeld, AreLogged, Change, HeldShard, held_shards, with_shard}
use Rattle.striped_map.proofs.Hands.{Job, newest, newest_owed, holds_in, stripes_with, with_at, shards_back, logged_back, shards_worked, back_step, back_done}
use Rattle.striped_map.proofs.hand.take_back.Goals as goal

pub loop-order-init : goal.loop-order-init
loop-order-init c = let v = known c.args.seat.now in let m = c.requires.mark in
    (now v.seen, due v, length c.args.order.now.items - c.args.mark, omega arith, c.requires.shards, c.requires.logged, refl, refl, c.requires.map, refl, λ room. room)

pub at-requires : goal.at-requires
at-requires c = let inv = c.loop-order.invariant in let n = c.args.map.now.table.shared.table_id.slots in let v = known c.args.seat.now in let a = c.loop-order.seat in let ks = c.args.held.now.items in
    let place = c.in-Some.place in let change : Change = (place, c.in-Some.key, c.in-Some.before) in let rest = c.pop.new.self.items in
    let logged : AreLogged n (held_shards a ks) (rest ++ change ∷ []) inv.1 = subst (λ (l : List Change). AreLogged n (held_shards a ks) l inv.1) c.in-Some.ensures.items inv.5 in
    let first = newest n (held_shards a ks) rest change inv.1 logged in
    let there : slice_get ks place ≡ Some (stripe_of n first.job.0) = ap (λ (l : List ℕ). slice_get l place) (sym (stripes_with (shard_in a) ks)) ∙ first.place_is in
    (lit< tt, slice_get_within ks place _ there)

pub take_back-requires-clause-held : goal.take_back-requires-clause-held
take_back-requires-clause-held c = let inv = c.loop-order.invariant in let n = c.args.map.now.table.shared.table_id.slots in let v = known c.args.seat.now in let a = c.loop-order.seat in let ks = c.args.held.now.items in
    let place = c.in-Some.place in let change : Change = (place, c.in-Some.key, c.in-Some.before) in let rest = c.pop.new.self.items in
    let logged : AreLogged n (held_shards a ks) (rest ++ change ∷ []) inv.1 = subst (λ (l : List Change). AreLogged n (held_shards a ks) l inv.1) c.in-Some.ensures.items inv.5 in
    let first = newest n (held_shards a ks) rest change inv.1 logged in
    let there : slice_get ks place ≡ Some (stripe_of n first.job.0) = ap (λ (l : List ℕ). slice_get l place) (sym (stripes_with (shard_in a) ks)) ∙ first.place_is in
    let k : ℕ = c.at.result in
    let at_k : slice_get ks place ≡ Some k = c.at.ensures in
    subst (λ (u : View). Holds u k) (sym inv.9) (holds_in n v a ks inv.0 inv.4 place k at_k)

pub take_back-requires-clause-some : goal.take_back-requires-clause-some
take_back-requires-clause-some c = let inv = c.loop-order.invariant in let n = c.args.map.now.table.shared.table_id.slots in let v = known c.args.seat.now in let a = c.loop-order.seat in let ks = c.args.held.now.items in
    let place = c.in-Some.place in let change : Change = (place, c.in-Some.key, c.in-Some.before) in let rest = c.pop.new.self.items in
    let logged : AreLogged n (held_shards a ks) (rest ++ change ∷ []) inv.1 = subst (λ (l : List Change). AreLogged n (held_shards a ks) l inv.1) c.in-Some.ensures.items inv.5 in
    let first = newest n (held_shards a ks) rest change inv.1 logged in
    let there : slice_get ks place ≡ Some (stripe_of n first.job.0) = ap (λ (l : List ℕ). slice_get l place) (sym (stripes_with (shard_in a) ks)) ∙ first.place_is in
    let k : ℕ = c.at.result in
    let at_k : slice_get ks place ≡ Some k = c.at.ensures in
    let at : slice_get (held_shards a ks) place ≡ Some (with_shard (shard_in a) k) = with_at (shard_in a) ks place k at_k in
    let owed = newest_owed n (held_shards a ks) rest change inv.1 logged (with_shard (shard_in a) k) at in
    omega arith

pub loop-order-preserved : goal.loop-order-preserved
loop-order-preserved c = let inv = c.loop-order.invariant in let n = c.args.map.now.table.shared.table_id.slots in let v = known c.args.seat.now in let a = c.loop-order.seat in let ks = c.args.held.now.items in
    let place = c.in-Some.place in let change : Change = (place, c.in-Some.key, c.in-Some.before) in let rest = c.pop.new.self.items in
    let logged : AreLogged n (held_shards a ks) (rest ++ change ∷ []) inv.1 = subst (λ (l : List Change). AreLogged n (held_shards a ks) l inv.1) c.in-Some.ensures.items inv.5 in
    let first = newest n (held_shards a ks) rest change inv.1 logged in
    let there : slice_get ks place ≡ Some (stripe_of n first.job.0) = ap (λ (l : List ℕ). slice_get l place) (sym (stripes_with (shard_in a) ks)) ∙ first.place_is in
    let k : ℕ = c.at.result in
    let at_k : slice_get ks place ≡ Some k = c.at.ensures in
    let at : slice_get (held_shards a ks) place ≡ Some (with_shard (shard_in a) k) = with_at (shard_in a) ks place k at_k in
    let owed = newest_owed n (held_shards a ks) rest change inv.1 logged (with_shard (shard_in a) k) at in
    let b = c.take_back.new.seat in
    let in_k : k ≡ stripe_of n first.job.0 = same_Some _ _ (sym at_k ∙ there) in
    let back : TakesBack (shard_in a k) (shard_in b k) (first.job.0 / n) first.job.1 = subst (λ (j : Job). TakesBack (shard_in a k) (shard_in b k) j.0 j.1) first.what_is c.take_back.ensures.back in
    let less_owed = back.owed_is in
    let worked = sym (shards_worked n v a b ks inv.0 inv.4 place k at_k c.take_back.ensures.others) in
    let is = inv.3 in let t = c.loop-order-test.true in let l = c.len.ensures.value in let some = c.in-Some.ensures.len in
    let less : inv.2 ≡ suc (inv.2 - 1) = omega arith in
    let step = back_step inv.0 inv.2 (inv.2 - 1) inv.1 first.older first.job less first.jobs_are in (
      set_at inv.0 first.job.0 first.job.1,
      first.older,
      inv.2 - 1,
      omega arith,
      subst (λ (l : List HeldShard). AreHeld n v l (set_at inv.0 first.job.0 first.job.1)) worked (shards_back n v (held_shards a ks) inv.0 inv.4 place (with_shard (shard_in a) k) (shard_in b k) first.job at in_k back),
      subst (λ (l : List HeldShard). AreLogged n l rest first.older) worked (logged_back n v (held_shards a ks) inv.0 rest inv.1 inv.4 change logged (with_shard (shard_in a) k) (shard_in b k) at (omega arith)),
      step.0 ∙ inv.6,
      step.1 ∙ inv.7,
      c.take_back.ensures.seat,
      c.take_back.ensures.known ∙ inv.9,
      λ room. c.take_back.ensures.room (inv.10 room),
    )

pub returns-clause-shards : goal.returns-clause-shards
returns-clause-shards c = let inv = c.loop-order.invariant in let is = inv.3 in let t = c.loop-order-test.false in let l = c.len.ensures.value in
    let done = back_done inv.0 inv.2 inv.1 (omega arith) in
    subst (AreHeld c.args.map.now.table.shared.table_id.slots (known c.args.seat.now) (held_shards c.loop-order.seat c.args.held.now.items)) (sym done.0 ∙ inv.6) inv.4

pub returns-clause-logged : goal.returns-clause-logged
returns-clause-logged c = let inv = c.loop-order.invariant in let is = inv.3 in let t = c.loop-order-test.false in let l = c.len.ensures.value in
    let done = back_done inv.0 inv.2 inv.1 (omega arith) in
    subst (AreLogged c.args.map.now.table.shared.table_id.slots (held_shards c.loop-order.seat c.args.held.now.items) c.loop-order.order.items) (sym done.1 ∙ inv.7) inv.5

pub returns-clause-len : goal.returns-clause-len
returns-clause-len c = let inv = c.loop-order.invariant in let is = inv.3 in let t = c.loop-order-test.false in let l = c.len.ensures.value in omega arith
