-- The numbers given by C stand for this entry of a history, and the numbers that C gets for an entry.
use Rattle.std.specs.Prelude.{◌≡◌, ◌⊎◌, ℕ, nat_eq, nat_le, List, slice_get, Option, Some, None, if◌then◌else◌}
use Rattle.txn_words.specs.declared.op.Op.{Op}
use Rattle.txn_words.specs.declared.op.Op.TheVariants.{Put, PutIf, Take, Get}
use Rattle.txn_words.specs.declared.entry.Entry.{Entry}
use Rattle.txn_words.specs.declared.entry.Entry.TheVariants.{Began, Asked, Did, Saved, Leave, Undone, Returned, Committed, Busy, Aborted}
use Rattle.txn_words.specs.declared.refusal.Refusal.TheVariants.{NoMemory}
use Rattle.txn_words.specs.Kinds.{caller_of}
use Rattle.boostmap_c.specs.declared.c_entry.CEntry.{CEntry}
use Rattle.boostmap_c.specs.Replies.{no_entry, refused}

-- The number, or none if the flag is 0.
abbrev pub optional : ℕ → ℕ → Option ℕ
optional flag number = if nat_eq flag 0 then None else Some number

-- The operation that the number `operation` stands for, if it stands for one.
abbrev pub op_of : CEntry → Option Op
op_of e =
    if nat_eq e.operation 1 then Some (Put e.key e.value)
    else (if nat_eq e.operation 2 then Some (PutIf e.key (optional e.has e.expected) e.value)
    else (if nat_eq e.operation 3 then Some (Take e.key)
    else (if nat_eq e.operation 4 then Some (Get e.key) else None)))

-- The Asked entry with this operation, or None if there is no operation. `busy_entry_of` gives the
-- Busy entry in the same way.
abbrev pub asked_entry_of : CEntry → Option Op → Option Entry
asked_entry_of e None = None
asked_entry_of e (Some op) = Some (Asked e.caller op)

abbrev pub busy_entry_of : CEntry → Option Op → Option Entry
busy_entry_of e None = None
busy_entry_of e (Some op) = Some (Busy e.caller op e.number)

-- The entry that the numbers stand for. None if the number `kind` stands for no kind of entry. Also
-- None if the kind is Asked or Busy, and `operation` stands for no operation.
abbrev pub entry_of : CEntry → Option Entry
entry_of e =
    if nat_eq e.kind 1 then Some (Began e.caller e.number)
    else (if nat_eq e.kind 2 then asked_entry_of e (op_of e)
    else (if nat_eq e.kind 3 then Some (Did e.caller (optional e.has e.value))
    else (if nat_eq e.kind 4 then Some (Saved e.caller)
    else (if nat_eq e.kind 5 then Some (Leave e.caller (optional e.has e.number))
    else (if nat_eq e.kind 6 then Some (Undone e.caller)
    else (if nat_eq e.kind 7 then Some (Returned e.caller e.number)
    else (if nat_eq e.kind 8 then Some (Committed e.caller e.number)
    else (if nat_eq e.kind 9 then busy_entry_of e (op_of e)
    else (if nat_eq e.kind 10 then Some (Aborted e.caller) else None)))))))))

-- The entry, or none if its caller is not below 64. The checker accepts only callers below 64.
abbrev pub accepted_entry : Option Entry → Option Entry
accepted_entry None = None
accepted_entry (Some entry) = if nat_le 64 (caller_of entry) then None else Some entry

abbrev pub judged_entry : CEntry → Option Entry
judged_entry e = accepted_entry (entry_of e)

-- A list of C's numbers was not read, with this status: some of them stand for nothing, or memory was
-- refused.
abbrev pub IsUnreadable : {A : Type 0} → (CEntry → Option A) → List CEntry → ℕ → Type 0
IsUnreadable read entries status = (status ≡ refused NoMemory)
    ⊎ ((status ≡ no_entry) × (i : ℕ) × (e : CEntry) × (slice_get entries i ≡ Some e)
    × (read e ≡ None))

-- The numbers that C gets for an entry which is not Asked or Busy. Members that no parameter gives
-- are 0.
abbrev pub numbers : ℕ → ℕ → ℕ → ℕ → ℕ → CEntry
numbers kind caller value number has =
    record {
      kind = kind;
      operation = 0;
      caller = caller;
      key = 0;
      value = value;
      expected = 0;
      number = number;
      has = has;
    }

-- The numbers that C gets for an entry with this operation.
abbrev pub asking : ℕ → ℕ → ℕ → Op → CEntry
asking kind caller number (Put key value) =
    record {
      kind = kind;
      operation = 1;
      caller = caller;
      key = key;
      value = value;
      expected = 0;
      number = number;
      has = 0;
    }
asking kind caller number (PutIf key None value) =
    record {
      kind = kind;
      operation = 2;
      caller = caller;
      key = key;
      value = value;
      expected = 0;
      number = number;
      has = 0;
    }
asking kind caller number (PutIf key (Some expected) value) =
    record {
      kind = kind;
      operation = 2;
      caller = caller;
      key = key;
      value = value;
      expected = expected;
      number = number;
      has = 1;
    }
asking kind caller number (Take key) =
    record {
      kind = kind;
      operation = 3;
      caller = caller;
      key = key;
      value = 0;
      expected = 0;
      number = number;
      has = 0;
    }
asking kind caller number (Get key) =
    record {
      kind = kind;
      operation = 4;
      caller = caller;
      key = key;
      value = 0;
      expected = 0;
      number = number;
      has = 0;
    }

-- The numbers that C gets for an entry. By the law `reads_back`, `entry_of` gives the entry back.
abbrev pub c_entry_of : Entry → CEntry
c_entry_of (Began c transaction) = numbers 1 c 0 transaction 0
c_entry_of (Asked c op) = asking 2 c 0 op
c_entry_of (Did c None) = numbers 3 c 0 0 0
c_entry_of (Did c (Some value)) = numbers 3 c value 0 1
c_entry_of (Saved c) = numbers 4 c 0 0 0
c_entry_of (Leave c None) = numbers 5 c 0 0 0
c_entry_of (Leave c (Some level)) = numbers 5 c 0 level 1
c_entry_of (Undone c) = numbers 6 c 0 0 0
c_entry_of (Returned c level) = numbers 7 c 0 level 0
c_entry_of (Committed c place) = numbers 8 c 0 place 0
c_entry_of (Busy c op holder) = asking 9 c holder op
c_entry_of (Aborted c) = numbers 10 c 0 0 0
