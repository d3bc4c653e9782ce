use Rattle.std.proofs.Common.{◌<◌, [], IsPermutation, sym, ap, subst, ◌∙◌}
use Rattle.txn_trace.specs.Now.{now}
use Rattle.txn_words.specs.declared.stance.Phase.TheVariants.{Opened}
use Rattle.txn_words.specs.Map.{count_of}
use Rattle.striped_map.specs.declared.view.View.{View}
use Rattle.striped_map.specs.Contents.{pairs_in}
use Rattle.striped_map.specs.Steps.{IsAt}
use Rattle.striped_map.proofs.Ends.{moved_known}
use Rattle.striped_map.specs.Seats.{known}
use Rattle.striped_map.specs.Sound.{AreHeld, held_shards}
use Rattle.striped_map.proofs.Hands.{holds_in}
use Rattle.striped_map.proofs.HandSoundness.{sound_same}
use Rattle.striped_map.proofs.ShardPairs.{all_pairs, all_counted}
use Rattle.striped_map.proofs.hand.Hand.len.Goals as goal

pub count_of-requires : goal.count_of-requires
count_of-requires c = let me = c.hold_all.new.self in record { seat = c.hold_all.ensures.map; held = holds_in _ _ me.seat me.held.items _ me.sound.shards }

pub invariant_of-self : goal.invariant_of-self
invariant_of-self c = let me = c.hold_all.new.self in
    record { sound = sound_same c.args.map.now me c.count_of.new.seat c.hold_all.ensures.map c.count_of.ensures.seat c.count_of.ensures.known c.count_of.ensures.shards; indexed = me.indexed }

pub returns-clause-ok : goal.returns-clause-ok
returns-clause-ok c = let map = c.args.map.now in let n = map.table.shared.table_id.slots in let me = c.hold_all.new.self in let v = known me.seat in let held = held_shards me.seat me.held.items in let m = now v.seen in
    let shards : AreHeld n v held m = subst (λ z. AreHeld z.slots v held m) c.hold_all.ensures.map me.sound.shards in
    let all : IsPermutation m.rows (pairs_in n held) = all_pairs n v held m map.some shards c.in_ok-hold_all.ensures.all (λ stripe holds. subst (λ z. stripe < z.slots) c.hold_all.ensures.map (me.seat.inside stripe holds)) in
    let ok = c.in_ok-hold_all.ensures.ok in let knows = c.count_of.ensures.known in
    (subst (IsAt Opened) (sym knows) ok.0, moved_known map c.args.self.now me [] ok.1 _ knows, c.in-Some.ensures.count ∙ all_counted n held m all ∙ ap (λ (x : View). count_of (now x.seen)) (sym knows))
