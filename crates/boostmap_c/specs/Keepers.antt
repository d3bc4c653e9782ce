-- What a host's handle does: it merges the callers that have ended, and hands out the history.
use Rattle.std.specs.Prelude.{◌≡◌, ◌⊎◌, ◌<◌, ◌≤◌, ℕ, zero, suc, List, [], length, Option, Some, None}
use Rattle.txn_words.specs.declared.entry.Entry.{Entry}
use Rattle.txn_words.specs.declared.holder.Holder.TheVariants.{Begun}
use Rattle.txn_words.specs.declared.refusal.Refusal.TheVariants.{NoMemory as OutOfMemory}
use Rattle.txn_trace.specs.Legal.{IsLegal}
use Rattle.striped_map.specs.declared.host.Host.{Host}
use Rattle.striped_map.specs.declared.no_history.NoHistory.{NoHistory}
use Rattle.striped_map.specs.declared.no_history.NoHistory.TheVariants.{NotKept, Missing, NoMemory}
use Rattle.striped_map.specs.Hosts.{Collects, HasTaken, IsNoHistory, numbers, seen_by}
use Rattle.striped_map.specs.Seats.{known, stripes_of}
use Rattle.striped_map.specs.Steps.{Extends, HasAll, HasNoOther}
use Rattle.boostmap_c.specs.declared.c_entry.CEntry.{CEntry}
use Rattle.boostmap_c.specs.declared.keeper.Keeper.{Keeper}
use Rattle.boostmap_c.specs.declared.member.Group.{Group}
use Rattle.boostmap_c.specs.declared.member.Member.{Member}
use Rattle.boostmap_c.specs.Histories.{Shows}
use Rattle.boostmap_c.specs.Replies.{done, empty_handle, full, missing, no_host, not_kept, refused, short}

-- From `a` to `b`, the host has merged callers that had ended (`Collects`) and looked at the history,
-- as `Host::history` promises. The history is legal, goes on from what each merged caller had seen,
-- and has no further entry of any of them (`HasAll`). Only callers to which numbers were given have
-- entries (`HasNoOther`).
pub record Gathers (a b : Host) : Type 0 where
  pub map_is : b.map ≡ a.map
  pub collects : Collects a b
  pub given : numbers a ≤ numbers b
  pub goes : Extends (stripes_of b.map.value) 0 [] (seen_by a) [] (seen_by b)
  pub legal : IsLegal Begun (stripes_of b.map.value) (seen_by b)
  pub all : HasAll (known b.hand.seat) (seen_by b)
  pub others : HasNoOther (known b.hand.seat) (seen_by b)

-- If the status is 0, these entries are at the front of the array, in this order. Otherwise the
-- array has too few places and is unchanged. In both cases the word is the number of entries.
abbrev pub LaysEntries : List Entry → ℕ → List CEntry → List CEntry → ℕ → Type 0
LaysEntries entries zero before after word =
    (word ≡ length entries) × Shows (length entries) entries before after
LaysEntries entries (suc status) before after word =
    (suc status ≡ short) × (word ≡ length entries) × (length before < length entries)
    × (after ≡ before)

-- The status for the reason why there is no history. `word_of_no_history` gives the word.
abbrev pub status_of_no_history : NoHistory → ℕ
status_of_no_history NotKept = not_kept
status_of_no_history (Missing c) = missing
status_of_no_history NoMemory = refused OutOfMemory

abbrev pub word_of_no_history : ℕ → NoHistory → ℕ
word_of_no_history before (Missing c) = c
word_of_no_history before _ = before

-- Every caller of the map was merged into the host.
abbrev pub HasMergedAll : Host → Type 0
HasMergedAll host = (c : ℕ) → 0 < c → c < numbers host → HasTaken host c

-- Either every caller was merged, and C gets the history, or the status gives the reason why not.
abbrev pub HandsOut :
    Host → List Entry → ℕ → List CEntry → List CEntry → ℕ → ℕ → Type 0
HandsOut host entries status before after was word =
    (HasMergedAll host × LaysEntries entries status before after word)
    ⊎ ((why : NoHistory) × IsNoHistory host why × (status ≡ status_of_no_history why)
    × (word ≡ word_of_no_history was why) × (after ≡ before))

-- The host merges the callers that have ended, and C gets the history that the host has then seen.
abbrev pub TellsAll : Option Keeper → ℕ → List CEntry → List CEntry → ℕ → ℕ → Option Keeper → Type 0
TellsAll (Some old) status before after was word (Some new) =
    Gathers old.host new.host × HandsOut new.host (seen_by new.host) status before after was word
TellsAll None status before after was word None =
    (status ≡ empty_handle) × (after ≡ before) × (word ≡ was)
TellsAll old status before after was word new = ⊥

-- The host leaves the group for a keeper. If there is no host or memory is refused, nothing changes.
abbrev pub LeavesGroup : Option Host → ℕ → Option Host → Option Keeper → Type 0
LeavesGroup (Some h) status None (Some made) = (status ≡ done) × (made.host ≡ h)
LeavesGroup (Some h) status (Some left) None = (status ≡ refused OutOfMemory) × (left ≡ h)
LeavesGroup None status None None = status ≡ no_host
LeavesGroup host status left made = ⊥

-- The rest of the group is unchanged.
pub record KeepsRest (old new : Group) : Type 0 where
  pub waiting_are : new.waiting ≡ old.waiting
  pub opening_is : new.opening ≡ old.opening

-- The host of a map leaves the handle of its first caller, and gets a handle of its own, which must
-- be empty.
abbrev pub GivesHost : Option Member → Option Keeper → ℕ → Option Member → Option Keeper → Type 0
GivesHost (Some old) None status (Some new) made =
    (new.caller ≡ old.caller) × (new.counts ≡ old.counts) × KeepsRest old.group new.group
    × LeavesGroup old.group.host status new.group.host made
GivesHost None None status None made = (status ≡ empty_handle) × (made ≡ None)
GivesHost first (Some host) status new made =
    (status ≡ full) × (new ≡ first) × (made ≡ Some host)
GivesHost first None status new made = ⊥

-- The handle no longer has a host.
abbrev pub Frees : Option Keeper → ℕ → Option Keeper → Type 0
Frees (Some old) status new = (status ≡ done) × (new ≡ None)
Frees None status new = (status ≡ empty_handle) × (new ≡ None)
