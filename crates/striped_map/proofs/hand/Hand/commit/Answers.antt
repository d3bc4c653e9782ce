use Rattle.std.proofs.Common.{ℕ, map, refl, sym, ap, subst}
use Rattle.txn_words.specs.declared.stance.Phase.TheVariants.{Closed}
use Rattle.txn_trace.specs.Now.{now}
use Rattle.stripe_shard.specs.ShardAt.{ShardAt}
use Rattle.striped_map.specs.declared.view.View.{View}
use Rattle.striped_map.specs.Seats.{known}
use Rattle.striped_map.specs.Sound.{AreHeld, IsSound, held_shards, with_shard}
use Rattle.striped_map.specs.Lone.{RunsAlone}
use Rattle.striped_map.specs.Steps.{at_end, stance_of}
use Rattle.striped_map.proofs.Alone.{commits_alone}
use Rattle.striped_map.proofs.Ends.{moved_idle}
use Rattle.striped_map.proofs.Hands.{shards_on}
use Rattle.striped_map.proofs.Index.{indexed_none}
use Rattle.striped_map.proofs.HandSoundness.{sound_ended, sound_lists, at_added, at_idle}
use Rattle.striped_map.proofs.hand.Hand.commit.Goals as goal

pub give_all-requires-clause-over : goal.give_all-requires-clause-over
give_all-requires-clause-over c = let v = known c.args.self.now.seat in let w = known c.commit-place.new.seat in let a = c.commit-place.ensures.committed.2 in
    at_added _ v w _ (at_end (now v.seen)) Closed a refl

pub give_all-requires-clause-shards : goal.give_all-requires-clause-shards
give_all-requires-clause-shards c = let me = c.args.self.now in let n = c.args.map.now.table.shared.table_id.slots in let v = known me.seat in let w = known c.commit-place.new.seat in let a = c.commit-place.ensures.committed.2 in
    let held = held_shards me.seat me.held.items in
    let s : IsSound n v held me.order.items me.levels.items = subst (λ z. IsSound z.slots v held me.order.items me.levels.items) c.requires.map me.sound in
    subst (λ (f : ℕ → ShardAt). AreHeld n w (map (with_shard f) me.held.items) (now w.seen)) (sym c.commit-place.ensures.shards)
    (shards_on n v w held (now v.seen) (now w.seen) s.shards (ap (λ (x : View). x.held) a.view_is) a.have)

pub invariant_of-self : goal.invariant_of-self
invariant_of-self c = let me = c.args.self.now in let n = c.args.map.now.table.shared.table_id.slots in let v = known me.seat in let w = known c.commit-place.new.seat in let u = known c.give_all.new.seat in let a = c.commit-place.ensures.committed.2 in
    record {
      sound = subst (λ z. IsSound z.slots u (held_shards c.give_all.new.seat c.give_all.new.held.items) c.clear.new.self.items c.clear-2.new.self.items) (sym c.give_all.ensures.map)
          (sound_lists n u _ _ _ (ap (held_shards c.give_all.new.seat) c.give_all.ensures.none) c.clear.ensures.items c.clear-2.ensures.items (sound_ended n v w u _ (now v.seen) a c.give_all.ensures.idle));
      indexed = indexed_none c.give_all.new.held.items me.index.items c.give_all.ensures.none;
    }

pub returns-clause-closed : goal.returns-clause-closed
returns-clause-closed c = let v = known c.args.self.now.seat in let w = known c.commit-place.new.seat in let u = known c.give_all.new.seat in let a = c.commit-place.ensures.committed.2 in
    at_idle Closed w u (at_added _ v w _ (at_end (now v.seen)) Closed a refl) c.give_all.ensures.idle

pub returns-clause-idle : goal.returns-clause-idle
returns-clause-idle c = ap (λ (v : View). v.held) c.give_all.ensures.idle

pub returns-clause-committed : goal.returns-clause-committed
returns-clause-committed c = let p = c.commit-place.ensures.committed in let w = known c.commit-place.new.seat in let me = c.args.self.now in let n = c.args.map.now.table.shared.table_id.slots in let v = known me.seat in
    let held = held_shards me.seat me.held.items in
    let s : IsSound n v held me.order.items me.levels.items = subst (λ z. IsSound z.slots v held me.order.items me.levels.items) c.requires.map me.sound in
    let at = c.requires.open in (
      p.0,
      p.1,
      moved_idle _ _ _ w _ _ p.2 c.give_all.ensures.idle,
      subst (RunsAlone v.number p.0) (sym (ap (λ (x : View). x.seen) c.give_all.ensures.idle)) (commits_alone n v.number p.0 v.held v.seen w.seen (stance_of v) s.legal at.stance_is at.phase_is p.2.goes),
    )
