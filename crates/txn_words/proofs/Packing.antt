-- The entries that are small enough for 32 bytes.
use Rattle.std.proofs.Common.{◌≡◌, ◌<◌, true, cond, Some, None, ap}
use Rattle.std.specs.Prelude.{nat_lt}
use Rattle.std.proofs.lemmas.Bool.{and_from, lt-ltb}
use Rattle.txn_words.specs.declared.entry.Entry.{Entry}
use Rattle.txn_words.specs.Kinds.{caller_of}
use Rattle.txn_words.specs.Packed.{holder_in, is_small, small_entry}

-- An entry is small if its caller and the holder that it names are below 65536.
pub small_of : (e : Entry) → caller_of e < 65536 → holder_in e < 65536 → is_small e ≡ true
small_of e caller holder = and_from (nat_lt (caller_of e) 65536) (nat_lt (holder_in e) 65536) (lt-ltb (caller_of e) 65536 caller) (lt-ltb (holder_in e) 65536 holder)

pub small_there : (e : Entry) → is_small e ≡ true → small_entry e ≡ Some e
small_there e small = ap (λ b. cond b (Some e) None) small
