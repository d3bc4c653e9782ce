-- The result of reading a map's history for C.
use Rattle.std.specs.Prelude.{◌≡◌, ℕ, List, length, map, take, drop, min, Option, Some, None}
use Rattle.txn_words.specs.declared.entry.Entry.{Entry}
use Rattle.boostmap_c.specs.declared.c_entry.CEntry.{CEntry}
use Rattle.boostmap_c.specs.declared.held_map.HeldMap.{HeldMap}
use Rattle.boostmap_c.specs.Entries.{c_entry_of}
use Rattle.boostmap_c.specs.Replies.{done, empty_handle}

-- The first `count` entries lie at the front of an array, whose rest is unchanged.
pub record Shows (count : ℕ) (entries : List Entry) (before after : List CEntry) : Type 0 where
  pub front : take count after ≡ map c_entry_of (take count entries)
  pub rest : drop count after ≡ drop count before

-- As many of the first entries as the array has room for lie at its front.
abbrev pub ShowsFront : List Entry → List CEntry → List CEntry → Type 0
ShowsFront entries before after = Shows (min (length entries) (length before)) entries before after

-- C gets the entries of the history from an index on, and the number of all its entries. The map is
-- unchanged.
abbrev pub TellsHistory : ℕ → Option HeldMap → ℕ → List CEntry → List CEntry → ℕ → ℕ
    → Option HeldMap → Type 0
TellsHistory first (Some old) status before after was word (Some new) =
    (new ≡ old) × (status ≡ done) × (word ≡ length old.map.core.history)
    × ShowsFront (drop (min first (length old.map.core.history)) old.map.core.history) before after
TellsHistory first None status before after was word None =
    (status ≡ empty_handle) × (after ≡ before) × (word ≡ was)
TellsHistory first old status before after was word new = ⊥
