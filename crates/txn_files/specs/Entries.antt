-- Entries as arrays in JSON: the name, the caller and the further elements of an entry.
use Rattle.std.specs.Prelude.{ℕ, Bool, true, List, Option, Some, None, if◌then◌else◌, codes}
use Rattle.std.specs.Str.{bytes_eq}
use Rattle.serde_json.specs.Data.{Data}
use Rattle.txn_words.specs.declared.entry.Entry.{Entry}
use Rattle.txn_words.specs.declared.entry.Entry.TheVariants.{Began, Asked, Did, Saved, Leave, Undone, Returned, Committed, Busy, Aborted}
use Rattle.piece_files.specs.Elements.{◌>>=◌, number_at, leading_text, one_of, ends_here, optional_of}
use Rattle.txn_files.specs.Operations.{is_old_op, op_at, op_of}

-- A Busy entry of caller `c`. The elements are an operation and the caller that held the
-- operation's stripe.
unfoldable pub busy_of : ℕ → List Data → Option Entry
busy_of c ds = do
  op ← op_at ds
  x ← one_of op.1
  Some (Busy c op.0 x)

-- The entry that has this name, this caller and these further elements, if the name is one of
-- "began", "saved", "leave", "returned", "committed" and "aborted".
unfoldable pub transaction_entry : List ℕ → ℕ → List Data → Option Entry
transaction_entry name c ds =
    if bytes_eq name (codes "began") then (one_of ds >>= λ t. Some (Began c t))
    else if bytes_eq name (codes "saved") then (ends_here ds >>= λ none. Some (Saved c))
    else if bytes_eq name (codes "leave") then (optional_of ds >>= λ n. Some (Leave c n))
    else if bytes_eq name (codes "returned") then (one_of ds >>= λ n. Some (Returned c n))
    else if bytes_eq name (codes "committed") then (one_of ds >>= λ p. Some (Committed c p))
    else if bytes_eq name (codes "aborted") then (ends_here ds >>= λ none. Some (Aborted c))
    else None

-- The entry, of any kind, that has this name, this caller and these further elements.
unfoldable pub entry_named : List ℕ → ℕ → List Data → Option Entry
entry_named name c ds =
    if bytes_eq name (codes "asked") then (op_of ds >>= λ op. Some (Asked c op))
    else if bytes_eq name (codes "busy") then busy_of c ds
    else if bytes_eq name (codes "did") then (optional_of ds >>= λ r. Some (Did c r))
    else if bytes_eq name (codes "undone") then (ends_here ds >>= λ none. Some (Undone c))
    else transaction_entry name c ds

-- The entry with these elements: its name, its caller and its further elements.
unfoldable pub entry_of : List Data → Option Entry
entry_of ds = do
  name ← leading_text ds
  c ← number_at name.1
  entry_named name.0 c.0 c.1

-- Whether this entry already exists in version 1 of the file format.
abbrev pub is_old_entry : Entry → Bool
is_old_entry (Asked c op) = is_old_op op
is_old_entry (Busy c op x) = is_old_op op
is_old_entry _ = true
