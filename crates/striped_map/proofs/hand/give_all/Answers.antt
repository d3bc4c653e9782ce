use Rattle.std.proofs.Common.{◌≡◌, ℕ, List, [], ◌∷◌, ◌++◌, reverse, rules, sym, ap, subst, ◌∙◌}
use Rattle.txn_words.specs.declared.stance.Phase.TheVariants.{Closed}
use Rattle.txn_trace.specs.Now.{now}
use Rattle.striped_map.specs.declared.view.View.{View}
use Rattle.striped_map.specs.Handling.{idle}
use Rattle.striped_map.specs.Seats.{known, shard_in}
use Rattle.striped_map.specs.Sound.{AreHeld, HeldShard, held_shards, stripes_in, with_shard}
use Rattle.striped_map.specs.Steps.{IsAt, lost}
use Rattle.striped_map.proofs.Hands.{newest_stripe, newest_fits, shards_given, shards_less, with_push}
use Rattle.striped_map.proofs.HandSoundness.{is_idle}
use Rattle.striped_map.proofs.hand.give_all.Goals as goal

pub give-requires-clause-held : goal.give-requires-clause-held
give-requires-clause-held c = let inv = c.loop-stripe.invariant in let n = c.args.map.now.table.shared.table_id.slots in let a = c.loop-stripe.seat in let v = known a in let k = c.in-Some.stripe in
    let last = held_shards a c.pop.new.self.items in
    newest_stripe n v last (now v.seen) (with_shard (shard_in a) k) (subst (λ (l : List HeldShard). AreHeld n v l (now v.seen)) (ap (held_shards a) c.in-Some.ensures.items ∙ with_push (shard_in a) c.pop.new.self.items k) inv.shards)

pub give-requires-clause-fits : goal.give-requires-clause-fits
give-requires-clause-fits c = let inv = c.loop-stripe.invariant in let n = c.args.map.now.table.shared.table_id.slots in let a = c.loop-stripe.seat in let v = known a in let k = c.in-Some.stripe in
    newest_fits n v (held_shards a c.pop.new.self.items) (now v.seen) (with_shard (shard_in a) k) (subst (λ (l : List HeldShard). AreHeld n v l (now v.seen)) (ap (held_shards a) c.in-Some.ensures.items ∙ with_push (shard_in a) c.pop.new.self.items k) inv.shards)

pub loop-stripe-preserved : goal.loop-stripe-preserved
loop-stripe-preserved c = let inv = c.loop-stripe.invariant in let n = c.args.map.now.table.shared.table_id.slots in let a = c.loop-stripe.seat in let v = known a in let k = c.in-Some.stripe in
    let ks = c.pop.new.self.items in let b = c.give.new.seat in
    let given = c.give.ensures.given in
    let over : IsAt Closed (lost v k) = record { stance_is = inv.over.stance_is; phase_is = inv.over.phase_is } in
    let whole : AreHeld n v (held_shards a (ks ++ k ∷ [])) (now v.seen) = subst (λ (l : List ℕ). AreHeld n v (held_shards a l) (now v.seen)) c.in-Some.ensures.items inv.shards in
    let left : AreHeld n (lost v k) (held_shards a ks) (now v.seen) = shards_given n v (held_shards a ks) (now v.seen) (with_shard (shard_in a) k) (subst (λ (l : List HeldShard). AreHeld n v l (now v.seen)) (with_push (shard_in a) ks k) whole) in
    record {
      map = c.give.ensures.seat;
      over = subst (IsAt Closed) (sym given) over;
      idle = ap idle given ∙ inv.idle;
      shards = subst (λ (u : View). AreHeld n u (held_shards b ks) (now u.seen)) (sym given)
          (subst (λ (l : List HeldShard). AreHeld n (lost v k) l (now v.seen)) (sym (shards_less n v a b ks k (now v.seen) whole c.give.ensures.others)) left);
    }

pub returns-clause-idle : goal.returns-clause-idle
returns-clause-idle c = let inv = c.loop-stripe.invariant in
    let none : c.loop-stripe.held.items ≡ [] = search rules in
    is_idle (known c.loop-stripe.seat) (inv.shards.kept ∙ ap (λ (l : List ℕ). reverse (stripes_in (held_shards c.loop-stripe.seat l))) none) ∙ inv.idle
