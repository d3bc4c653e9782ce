-- The shard after each call, derived from what the call does to the shard's map and count.
use Rattle.std.proofs.Common.{◌≡◌, ℕ, false, Option, sym, refl}
use Rattle.std.proofs.lemmas.Bool.{false≢true}
use Rattle.txn_words.specs.declared.op.Op.{Op}
use Rattle.txn_words.specs.declared.op.Op.TheVariants.{Get, Put, PutIf, Take}
use Rattle.txn_words.specs.Map.{Map, get, key_of}
use Rattle.txn_words.specs.Owed.{may_change}
use Rattle.stripe_shard.specs.Calls.{Does}
use Rattle.stripe_shard.specs.Stored.{shard_of}

-- An operation that is never a change leaves the shard unchanged.
pub looked : (m : Map) (owed : ℕ) (op : Op) (reply : Option ℕ) → may_change op ≡ false → reply ≡ get m (key_of op) → Does (shard_of m owed) (shard_of m owed) op reply
looked m owed (Get key) reply looks is = record { reply_is = is; content_is = refl; owed_is = refl }
looked m owed (Put key v) reply looks is = absurd (false≢true (sym looks))
looked m owed (Take key) reply looks is = absurd (false≢true (sym looks))
looked m owed (PutIf key expected v) reply looks is = absurd (false≢true (sym looks))
