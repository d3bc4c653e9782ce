use Rattle.std.proofs.Common.{◌≡◌, ℕ, suc, ◌+◌, ◌++◌, Some, take, slice_get, sym, ap, ◌∙◌, arith}
use Rattle.stripe_shard.specs.ShardAt.{ShardAt}
use Rattle.striped_map.specs.Contents.{pairs_at, pairs_in}
use Rattle.striped_map.specs.Seats.{shard_in}
use Rattle.striped_map.specs.Sound.{held_shards, with_shard}
use Rattle.striped_map.proofs.ShardPairs.{pairs_take}
use Rattle.striped_map.proofs.contents.pairs_of.Goals as goal

pub loop-place-preserved : goal.loop-place-preserved
loop-place-preserved c = let inv = c.loop-place.invariant in let n = c.args.map.now.table.shared.table_id.slots in let a = c.args.seat.now in let ks = c.args.held.now.items in let place = c.loop-place.place in let k : ℕ = c.at.result in
    let at : slice_get ks place ≡ Some k = c.at.ensures in
    let next : pairs_in n (held_shards a (take (suc place) ks)) ≡ pairs_in n (held_shards a (take (place + 1) ks)) = (let one : suc place ≡ place + 1 = omega arith in ap (λ (i : ℕ). pairs_in n (held_shards a (take i ks))) one) in
    record {
      seat = c.add_pairs.ensures.seat;
      knows = c.add_pairs.ensures.known ∙ inv.knows;
      shards = c.add_pairs.ensures.shards ∙ inv.shards;
      pairs = c.in_ok-add_pairs.ensures.pairs ∙ ap (λ (f : ℕ → ShardAt). c.loop-place.pairs.items ++ pairs_at n (with_shard f k)) inv.shards ∙ ap (λ l. l ++ pairs_at n (with_shard (shard_in a) k)) inv.pairs
          ∙ sym (pairs_take n (shard_in a) ks place k at) ∙ next;
    }
