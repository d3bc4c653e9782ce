-- PROMISES the-striped-map: IsOpened, IsNoHistory, Collects
-- The facts that contracts name about a host.
use Rattle.std.specs.Prelude.{ℕ, ◌≡◌, ◌≢◌, ◌+◌, ◌<◌, ◌⊎◌, Bool, ◌&&◌, ◌||◌, nat_le, true, false, List, [], ◌∷◌, ◌++◌, length, map, Some, slice_get}
use Rattle.std.specs.List.{AllByRecursion, HoldsAt}
use Rattle.txn_words.specs.declared.refusal.Refusal.{Refusal}
use Rattle.txn_words.specs.declared.refusal.Refusal.TheVariants.{Limit, NoMemory}
use Rattle.txn_words.specs.declared.entry.Entry.{Entry}
use Rattle.striped_map.specs.declared.caller.Caller.{Caller}
use Rattle.striped_map.specs.declared.host.Host.{Host}
use Rattle.striped_map.specs.declared.keep.Keep.{Keep}
use Rattle.striped_map.specs.declared.keep.Keep.TheVariants.{Entries}
use Rattle.striped_map.specs.declared.no_history.NoHistory.{NoHistory}
use Rattle.striped_map.specs.declared.no_history.NoHistory.TheVariants.{NotKept, Missing, NoMemory as NoSpace}
use Rattle.striped_map.specs.declared.open.Opening.{Opening}
use Rattle.striped_map.specs.declared.map.StripedMap.{StripedMap}
use Rattle.striped_map.specs.declared.seat.MapSeat.{MapSeat}
use Rattle.striped_map.specs.declared.view.View.{View}
use Rattle.striped_map.specs.Callers.{IsNew}
use Rattle.striped_map.specs.Seats.{IsOverIn, keep_of, known}
use Rattle.striped_map.specs.Steps.{AreMade, HasWhole, IsMerged, taken_in}

-- The callers that were merged into the host, the newest first, each with its number and the
-- beginning of the history that it had seen. This beginning has all its entries.
abbrev pub taken : Host → List (ℕ × List Entry)
taken host = (known host.hand.seat).retired

-- How many numbers were given out when the host last looked at the history. The host has the number
-- 0, and each caller got one number.
abbrev pub numbers : Host → ℕ
numbers host = (known host.hand.seat).made

-- Whether a caller that was merged into the host had made another caller.
abbrev pub have_made : Host → Bool
have_made host = (known host.hand.seat).parent

-- All callers with numbers that the host knows were merged, and none of them had made another. So
-- there are no other callers.
abbrev pub IsWhole : Host → Type 0
IsWhole host = HasWhole (known host.hand.seat)

-- A caller with this number was merged into the host.
abbrev pub HasTaken : Host → ℕ → Type 0
HasTaken host c = IsMerged c (taken host)

-- The beginning of the history that the host has seen.
abbrev pub seen_by : Host → List Entry
seen_by host = (known host.hand.seat).seen

-- What a merged seat leaves: its number, and the beginning of the history that it had seen.
abbrev pub left_by : MapSeat → ℕ × List Entry
left_by seat = ((known seat).number, (known seat).seen)

-- Whether one of these seats has made a caller, or one had made a caller before.
abbrev pub one_made : Bool → List MapSeat → Bool
one_made before [] = before
one_made before (seat ∷ seats) = one_made before seats || (known seat).parent

-- From `v` to `w`, callers of this map that had ended were merged into the seat with this view, the
-- last of the list `ended` first. There is none if the map does not keep its entries, or if all
-- callers had been merged before.
pub record CollectsIn (map_is : StripedMap) (v w : View) : Type 0 where
  pub ended : List MapSeat
  pub each : AllByRecursion (IsOverIn map_is) ended
  pub kept : keep_of map_is ≢ Entries → ended ≡ []
  pub whole : HasWhole v → ended ≡ []
  pub taken_are : w.retired ≡ map left_by ended ++ v.retired
  pub made_are : w.parent ≡ one_made v.parent ended

-- From `a` to `b`, the host has merged callers of its map that had ended. Each was in no transaction
-- and held no stripe. What was merged before stays.
abbrev pub Collects : Host → Host → Type 0
Collects a b = CollectsIn a.map.value (known a.hand.seat) (known b.hand.seat)

-- From `v` to `w`, at most one caller of this map was merged, the one with the number `c`, which had
-- ended.
abbrev pub MergesAtMost : StripedMap → ℕ → View → View → Type 0
MergesAtMost map_is c v w = (w ≡ v) ⊎ ((seat : MapSeat) × IsOverIn map_is seat
    × ((known seat).number ≡ c) × (w ≡ taken_in v (known seat)) × AreMade w)

-- What the host's map keeps of its history.
abbrev pub kept_by : Host → Keep
kept_by host = keep_of host.map.value

-- Whether a map may have this many stripes and callers.
abbrev pub may_open : ℕ → ℕ → Bool
may_open stripes callers = nat_le 1 stripes && nat_le stripes 4096 && nat_le callers 4096

-- A map was opened with this many stripes and callers. It keeps of its history what was asked for.
-- Its host has merged no caller and has seen no entry. Its callers are callers of the same map, are
-- new, and have the numbers from 1 on. There are no other callers.
pub record IsOpened (asked : Opening) (host : Host) (all : List Caller) : Type 0 where
  pub within : may_open asked.stripes asked.callers ≡ true
  pub keeps_are : kept_by host ≡ asked.keep
  pub numbers_are : numbers host ≡ asked.callers + 1
  pub none : taken host ≡ []
  pub childless : have_made host ≡ false
  pub unseen : seen_by host ≡ []
  pub count : length all ≡ asked.callers
  pub each : (place : ℕ) → place < asked.callers
      → HoldsAt (IsNew host.map.value asked.stripes (place + 1)) all place

-- Why a map was not opened.
abbrev pub IsNotOpened : Opening → Refusal → Type 0
IsNotOpened asked Limit = may_open asked.stripes asked.callers ≡ false
IsNotOpened asked NoMemory = Unit {0}
IsNotOpened asked refusal = ⊥

-- Why a host did not hand out the history.
-- - `NotKept`: the map does not keep its entries.
-- - `Missing`: the caller with this number was made, and was not merged into the host.
-- - `NoMemory`: the map keeps its entries, and memory was refused.
abbrev pub IsNoHistory : Host → NoHistory → Type 0
IsNoHistory host NotKept = kept_by host ≢ Entries
IsNoHistory host (Missing c) = (kept_by host ≡ Entries) × (0 < c) × (c < numbers host)
    × ((j : ℕ) (r : ℕ × List Entry) → slice_get (taken host) j ≡ Some r → r.0 ≢ c)
IsNoHistory host NoSpace = kept_by host ≡ Entries
