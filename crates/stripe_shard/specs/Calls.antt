-- What each call of a shard returns, and what the shard is after the call.
use Rattle.std.specs.Prelude.{◌≡◌, ℕ, ◌+◌, true, cond, Option}
use Rattle.txn_words.specs.declared.op.Op.{Op}
use Rattle.txn_words.specs.declared.refusal.Refusal.{Refusal}
use Rattle.txn_words.specs.declared.refusal.Refusal.TheVariants.{NoMemory}
use Rattle.txn_words.specs.Map.{reply_of, after, set_at}
use Rattle.txn_words.specs.Owed.{may_change}
use Rattle.txn_words.specs.Shape.{changes}
use Rattle.stripe_shard.specs.ShardAt.{ShardAt}

-- An operation is done. The reply and the new content are those of the operation on a plain map. If
-- the operation is a change, one more change can be taken back.
pub record Does (old new : ShardAt) (op : Op) (reply : Option ℕ) : Type 0 where
  pub reply_is : reply ≡ reply_of old.content op
  pub content_is : new.content ≡ after old.content op
  pub owed_is : new.owed ≡ cond (changes op reply) (old.owed + 1) old.owed

-- An operation is refused. It may be a change (`may_change`), and memory for it was refused.
abbrev pub IsRefused : Op → Refusal → Type 0
IsRefused op refusal = (refusal ≡ NoMemory) × (may_change op ≡ true)

-- A change is taken back: the change's key gets the value that it had before, and all other keys
-- are unchanged. One change fewer can then be taken back.
pub record TakesBack (old new : ShardAt) (key : ℕ) (before : Option ℕ) : Type 0 where
  pub content_is : new.content ≡ set_at old.content key before
  pub owed_is : new.owed + 1 ≡ old.owed
