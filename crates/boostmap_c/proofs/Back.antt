-- The numbers that C gets for an entry stand for that entry.
use Rattle.std.proofs.Common.{◌≡◌, Some, None, refl}
use Rattle.txn_words.specs.declared.op.Op.TheVariants.{Put, PutIf, Take, Get}
use Rattle.txn_words.specs.declared.entry.Entry.{Entry}
use Rattle.txn_words.specs.declared.entry.Entry.TheVariants.{Began, Asked, Did, Saved, Leave, Undone, Returned, Committed, Busy, Aborted}
use Rattle.boostmap_c.specs.Entries.{c_entry_of, entry_of}

pub read_back : (entry : Entry) → entry_of (c_entry_of entry) ≡ Some entry
read_back (Began c transaction) = refl
read_back (Asked c (Put key value)) = refl
read_back (Asked c (PutIf key None value)) = refl
read_back (Asked c (PutIf key (Some expected) value)) = refl
read_back (Asked c (Take key)) = refl
read_back (Asked c (Get key)) = refl
read_back (Did c None) = refl
read_back (Did c (Some value)) = refl
read_back (Saved c) = refl
read_back (Leave c None) = refl
read_back (Leave c (Some level)) = refl
read_back (Undone c) = refl
read_back (Returned c level) = refl
read_back (Committed c place) = refl
read_back (Busy c (Put key value) holder) = refl
read_back (Busy c (PutIf key None value) holder) = refl
read_back (Busy c (PutIf key (Some expected) value) holder) = refl
read_back (Busy c (Take key) holder) = refl
read_back (Busy c (Get key) holder) = refl
read_back (Aborted c) = refl
