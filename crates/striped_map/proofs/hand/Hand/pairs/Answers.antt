use Rattle.std.proofs.Common.{[], sym, ◌≡◌, ◌<◌, IsPermutation, ap, subst, ◌∙◌}
use Rattle.txn_trace.specs.Now.{now}
use Rattle.stripe_shard.proofs.Rows.{rows_sorted}
use Rattle.txn_words.specs.declared.stance.Phase.TheVariants.{Opened}
use Rattle.striped_map.specs.declared.view.View.{View}
use Rattle.striped_map.specs.Contents.{pairs_in}
use Rattle.striped_map.specs.Steps.{IsAt}
use Rattle.striped_map.proofs.Ends.{moved_known}
use Rattle.striped_map.proofs.Hands.{holds_in}
use Rattle.striped_map.specs.Seats.{known}
use Rattle.striped_map.specs.Sound.{AreHeld, held_shards}
use Rattle.striped_map.proofs.HandSoundness.{sound_same}
use Rattle.striped_map.proofs.ShardPairs.{all_pairs}
use Rattle.striped_map.proofs.hand.Hand.pairs.Goals as goal

pub pairs_of-requires : goal.pairs_of-requires
pairs_of-requires c = let me = c.hold_all.new.self in record { seat = c.hold_all.ensures.map; held = holds_in _ _ me.seat me.held.items _ me.sound.shards }

pub invariant_of-self : goal.invariant_of-self
invariant_of-self c = let me = c.hold_all.new.self in
    record { sound = sound_same c.args.map.now me c.pairs_of.new.seat c.hold_all.ensures.map c.pairs_of.ensures.seat c.pairs_of.ensures.known c.pairs_of.ensures.shards; indexed = me.indexed }

pub returns-clause-ok : goal.returns-clause-ok
returns-clause-ok c = let map = c.args.map.now in let n = map.table.shared.table_id.slots in let me = c.hold_all.new.self in let v = known me.seat in let held = held_shards me.seat me.held.items in let m = now v.seen in
    let shards : AreHeld n v held m = subst (λ z. AreHeld z.slots v held m) c.hold_all.ensures.map me.sound.shards in
    let all : IsPermutation m.rows (pairs_in n held) = all_pairs n v held m map.some shards c.in_ok-hold_all.ensures.all (λ stripe holds. subst (λ z. stripe < z.slots) c.hold_all.ensures.map (me.seat.inside stripe holds)) in
    let found = c.sort.new.self.items in
    let is : c.in-Ok.pairs.items ≡ pairs_in n held = c.in-Ok.ensures.pairs in
    let sorted : IsPermutation (pairs_in n held) found = subst (λ l. IsPermutation l found) is c.sort.ensures.permutation in
    let ok = c.in_ok-hold_all.ensures.ok in let knows = c.pairs_of.ensures.known in
    (subst (IsAt Opened) (sym knows) ok.0, moved_known map c.args.self.now me [] ok.1 _ knows, rows_sorted m (pairs_in n held) found all sorted c.in-Ok-sort.ensures.sorted ∙ ap (λ (x : View). (now x.seen).rows) (sym knows))
