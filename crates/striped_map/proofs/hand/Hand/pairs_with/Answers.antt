use Rattle.std.proofs.Common.{[], ℕ, ◌≡◌, ◌<◌, ◌%◌, ◌++◌, List, filter, sym, ap, subst, ◌∙◌}
use Rattle.txn_trace.specs.Now.{now}
use Rattle.txn_trace.specs.Locks.{stripe_of}
use Rattle.txn_words.specs.declared.stance.Phase.TheVariants.{Opened}
use Rattle.striped_map.specs.declared.view.View.{View}
use Rattle.striped_map.specs.Contents.{is_in, pairs_at, rows_with}
use Rattle.striped_map.specs.Rule.{Holds}
use Rattle.striped_map.specs.Steps.{IsAt}
use Rattle.striped_map.specs.Seats.{known, shard_in}
use Rattle.striped_map.specs.Sound.{AreHeld, HeldShard, held_shards, with_shard}
use Rattle.striped_map.proofs.Ends.{moved_known}
use Rattle.striped_map.proofs.Hands.{holds_in, with_at}
use Rattle.striped_map.proofs.HandSoundness.{sound_same}
use Rattle.striped_map.proofs.ShardPairs.{shard_pairs}
use Rattle.striped_map.proofs.hand.Hand.pairs_with.Goals as goal

pub add_pairs-requires-clause-held : goal.add_pairs-requires-clause-held
add_pairs-requires-clause-held c = let me = c.hold.new.self in holds_in _ _ me.seat me.held.items _ me.sound.shards _ _ c.in-Ok.ensures.held

pub invariant_of-self : goal.invariant_of-self
invariant_of-self c = let me = c.hold.new.self in
    record { sound = sound_same c.args.map.now me c.add_pairs.new.seat c.hold.ensures.map c.add_pairs.ensures.seat c.add_pairs.ensures.known c.add_pairs.ensures.shards; indexed = me.indexed }

pub returns-in-Ok-add_pairs-clause-ok : goal.returns-in-Ok-add_pairs-clause-ok
returns-in-Ok-add_pairs-clause-ok c = let map = c.args.map.now in let n = map.table.shared.table_id.slots in let me = c.hold.new.self in let v = known me.seat in
    let ks = me.held.items in let m = now v.seen in let key = c.args.key in let k : ℕ = key % c.stripes.result in
    let s : AreHeld n v (held_shards me.seat ks) m = subst (λ z. AreHeld z.slots v (held_shards me.seat ks) m) c.hold.ensures.map me.sound.shards in
    let h : HeldShard = with_shard (shard_in me.seat) k in
    let holds : Holds v k = holds_in n v me.seat ks m s _ k c.in-Ok.ensures.held in
    let inside : k < n = subst (λ z. k < z.slots) c.hold.ensures.map (me.seat.inside k holds) in
    let is : pairs_at n h ≡ filter (is_in n k) m.rows = shard_pairs n h m inside (s.fits _ h (with_at (shard_in me.seat) ks _ k c.in-Ok.ensures.held)) in
    let of_key : k ≡ stripe_of n key = ap (λ (x : ℕ). key % x) c.stripes.ensures in
    let knows = c.add_pairs.ensures.known in
    let found : c.add_pairs.new.pairs.items ≡ rows_with n key m = c.in-Ok-add_pairs.ensures.pairs ∙ ap (λ (l : List (ℕ × ℕ)). l ++ pairs_at n h) c.new-pairs.ensures.items ∙ is ∙ ap (λ (x : ℕ). filter (is_in n x) m.rows) of_key in
    (subst (IsAt Opened) (sym knows) c.hold.ensures.open, moved_known map c.args.self.now me [] c.hold.ensures.goes_on.moves _ knows, found ∙ ap (λ (x : View). rows_with n key (now x.seen)) (sym knows))

pub returns-in-Ok-add_pairs-clause-holds : goal.returns-in-Ok-add_pairs-clause-holds
returns-in-Ok-add_pairs-clause-holds c = let map = c.args.map.now in let n = map.table.shared.table_id.slots in let me = c.hold.new.self in let key = c.args.key in
    let held : Holds (known me.seat) (key % c.stripes.result) = holds_in _ _ me.seat me.held.items _ me.sound.shards _ _ c.in-Ok.ensures.held in
    subst (λ (v : View). Holds v (stripe_of n key)) (sym c.add_pairs.ensures.known) (subst (λ (x : ℕ). Holds (known me.seat) (key % x)) c.stripes.ensures held)
