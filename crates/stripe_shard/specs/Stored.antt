-- A shard, made of a map and a count of changes.
use Rattle.std.specs.Prelude.{ℕ}
use Rattle.txn_words.specs.Map.{Map}
use Rattle.stripe_shard.specs.ShardAt.{ShardAt}

-- The shard with this content and this number of changes that can be taken back.
abbrev pub shard_of : Map → ℕ → ShardAt
shard_of content owed = record { content = content; owed = owed }
