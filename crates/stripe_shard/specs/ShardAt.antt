-- A contract sees a shard as its content and the number of changes that can be taken back.
use Rattle.std.specs.Prelude.{ℕ, refl}
use Rattle.std.specs.Coded.{Coded, code_by, coded×, coded_ℕ}
use Rattle.txn_words.specs.Map.{Map, empty}
use Rattle.stripe_shard.specs.MapAt.{content_code}

-- The content, and how many changes of the open transaction can be taken back.
pub record ShardAt : Type 0 where
  pub content : Map
  pub owed : ℕ

-- A shard with no key and no change to take back.
abbrev pub nothing : ShardAt
nothing = record { content = empty; owed = 0 }

-- Encodes a `ShardAt` as the pair of its fields.
abbrev pub shard_code : Coded ShardAt
shard_code = code_by (Map × ℕ) (coded× content_code coded_ℕ) (λ p. (p.content, p.owed))
    (λ t. record { content = t.0; owed = t.1 }) (λ _. refl)
