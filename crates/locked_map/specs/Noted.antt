-- The entries that a caller has seen, and the room for more.
use Rattle.std.specs.Prelude.{ℕ, ◌≡◌, ◌+◌, ◌<◌, ◌≤◌, Bool, true, false, List, [], ◌∷◌, length, Some, is_some, vec_capacity}
use Rattle.locked_map.specs.Vocabulary.{Act, Answer, Ask, Begin, Entry, RoomyStance, Step, Vec, entries_of, fold, owed_by, reserved}
use Rattle.locked_map.specs.Vocabulary.{stance_after}
use Rattle.txn_words.specs.declared.entry.Entry.TheVariants.{Began}
use Rattle.txn_words.specs.declared.step.Step.TheVariants.{Save, Back, Commit, Abort}
use Rattle.txn_words.specs.Packed.{is_small}

-- The number of the transaction that an entry begins, or `before` if the entry begins none.
abbrev pub began_by : ℕ → Entry → ℕ
began_by before (Began c txn) = txn
began_by before entry = before

-- The number of the last transaction that the entries begin, or 0 if they begin none.
abbrev pub last_txn : List Entry → ℕ
last_txn entries = fold began_by 0 entries

-- The entries, and the number of further entries and savepoints for which there is room.
pub record Noted : Type 0 where
  pub entries : List Entry
  pub room : ℕ
  pub save_room : ℕ

-- If the rule of shape allows each entry, the stance is the one that the entries give. `txn` is the
-- number of the last transaction that the entries begin. There is room for all entries that the
-- caller owes. The caller's share of the ledger has one part, and the share's amount is the number
-- of entries.
pub record IsNoted (entries : Vec Entry) (stance : RoomyStance) (whole : Bool) (txn parts amount : ℕ) :
    Type 0 where
  pub fits : whole ≡ is_some (stance_after entries.items)
  pub its_stance : whole ≡ true → stance_after entries.items ≡ Some stance.stance
  pub last : txn ≡ last_txn entries.items
  pub room : length entries.items + owed_by (stance_after entries.items) ≤ vec_capacity entries
  pub one_part : parts ≡ 1
  pub counts : amount ≡ length entries.items

-- Whether a step may add an entry.
abbrev pub adds_entry : Step → Bool
adds_entry (Begin c) = true
adds_entry (Ask c op) = true
adds_entry (Act c) = true
adds_entry (Save c) = true
adds_entry (Back c n) = true
adds_entry (Commit c) = true
adds_entry (Abort c) = true
adds_entry step = false

-- Whether a step sets a savepoint.
abbrev pub is_save : Step → Bool
is_save (Save c) = true
is_save step = false

-- There is room for the entry and the savepoint that a step may add, and for all entries that are
-- owed after the step.
pub record HasRoomFor (seen : Noted) (step : Step) : Type 0 where
  pub all : owed_by (stance_after seen.entries) + reserved step ≤ seen.room
  pub one : adds_entry step ≡ true → 0 < seen.room
  pub save : is_save step ≡ true → 0 < seen.save_room

-- If a step with this answer adds an entry, the entry is small.
abbrev pub AddsSmall : Step → Answer → Type 0
AddsSmall step answer = (e : Entry) → e ∷ [] ≡ entries_of step answer → is_small e ≡ true
