use Rattle.std.proofs.Common.{◌≡◌, ℕ, suc, ◌+◌, Some, drop, slice_get, sum_by, rules, ap, ◌∙◌, arith}
use Rattle.stripe_shard.specs.ShardAt.{ShardAt}
use Rattle.txn_words.specs.Map.{count_of}
use Rattle.striped_map.specs.Contents.{count_at}
use Rattle.striped_map.specs.Seats.{shard_in}
use Rattle.striped_map.specs.Sound.{held_shards}
use Rattle.striped_map.proofs.ShardPairs.{sum_drop}
use Rattle.striped_map.proofs.contents.count_of.Goals as goal

pub loop-place-preserved : goal.loop-place-preserved
loop-place-preserved c = let inv = c.loop-place.invariant in let a = c.args.seat.now in let ks = c.args.held.now.items in let place = c.loop-place.place in let k : ℕ = c.at.result in
    let at : slice_get ks place ≡ Some k = c.at.ensures in
    let found : c.count.result ≡ count_of (shard_in a k).content = c.count.ensures.count ∙ ap (λ (f : ℕ → ShardAt). count_of (f k).content) inv.shards in
    let sum : c.in_ok-count.count ≡ c.loop-place.count + c.count.result = search rules in
    let left = sum_drop (shard_in a) ks place k at in
    let next : sum_by count_at (held_shards a (drop (place + 1) ks)) ≡ sum_by count_at (held_shards a (drop (suc place) ks)) = (let one : place + 1 ≡ suc place = omega arith in ap (λ (i : ℕ). sum_by count_at (held_shards a (drop i ks))) one) in
    let before = inv.count in record {
      seat = c.count.ensures.seat;
      knows = c.count.ensures.known ∙ inv.knows;
      shards = c.count.ensures.shards ∙ inv.shards;
      count = omega arith;
    }
