-- PROMISES the-striped-map: IsStep, IsStopped, IsRun, IsTakenBack, HoldsEvery, TakesAtMost, IsAnother
-- The entries that a caller's calls add to the history.
use Rattle.std.specs.Prelude.{Bool, ◌≡◌, ◌≢◌, ℕ, ◌<◌, ◌≤◌, ◌+◌, ◌-◌, List, [], ◌∷◌, length, None, Some, slice_get, true, false, Option}
use Rattle.txn_words.specs.declared.entry.Entry.{Entry}
use Rattle.txn_words.specs.declared.entry.Entry.TheVariants.{Began, Leave, Committed, Busy as BusyEntry, Aborted}
use Rattle.txn_words.specs.declared.op.Op.{Op}
use Rattle.txn_words.specs.declared.op.Op.TheVariants.{Get}
use Rattle.txn_words.specs.declared.refusal.Refusal.{Refusal}
use Rattle.txn_words.specs.declared.refusal.Refusal.TheVariants.{AlreadyOpen, Limit, NoMemory, NoSuchLevel, NotOpen}
use Rattle.txn_trace.specs.Locks.{stripe_of}
use Rattle.txn_words.specs.Kinds.{is_began, is_commit}
use Rattle.txn_words.specs.Shape.{own, how_many}
use Rattle.striped_map.specs.declared.caller.Caller.{Caller}
use Rattle.striped_map.specs.declared.keep.Keep.{Keep}
use Rattle.striped_map.specs.declared.keep.Keep.TheVariants.{Entries}
use Rattle.striped_map.specs.declared.map.StripedMap.{StripedMap}
use Rattle.txn_words.specs.declared.stop.Stop.{Stop}
use Rattle.txn_words.specs.declared.stop.Stop.TheVariants.{Busy, Refused}
use Rattle.striped_map.specs.Rule.{Holds, most}
use Rattle.striped_map.specs.Additions.{due, above}
use Rattle.striped_map.specs.Handling.{GainsAtMost, HoldsAllOf, KeepsHeld}
use Rattle.striped_map.specs.Steps.{Extends, stance_of, told_of, undoing}
use Rattle.striped_map.specs.Seats.{keep_of, known, stripes_of}

-- The caller's number.
abbrev pub number : Caller → ℕ
number c = (known c.hand.seat).number

-- The beginning of the history that the caller has seen.
abbrev pub seen : Caller → List Entry
seen c = (known c.hand.seat).seen

-- How many stripes the caller's map has.
abbrev pub stripes_in : Caller → ℕ
stripes_in c = stripes_of c.map.value

-- The stripes that the caller holds, the newest first.
abbrev pub stripes_held : Caller → List ℕ
stripes_held c = (known c.hand.seat).held

-- How many savepoints the caller's transaction has.
abbrev pub levels : Caller → ℕ
levels c = length (stance_of (known c.hand.seat)).kept - 1

-- The changes of the caller's transaction, the newest first (`changes_made`), and those of them
-- that were made since a level's savepoint (`changes_above`).
abbrev pub changes_made : Caller → List (ℕ × Option ℕ)
changes_made c = due (known c.hand.seat)

abbrev pub changes_above : ℕ → Caller → List (ℕ × Option ℕ)
changes_above level c = above level (known c.hand.seat)

-- What the caller's map keeps.
abbrev pub keeps : Caller → Keep
keeps c = keep_of c.map.value

-- Whether the caller has made another caller.
abbrev pub has_made : Caller → Bool
has_made c = (known c.hand.seat).parent

-- How many numbers were given out when the caller last made another caller, or 0.
abbrev pub numbers_seen : Caller → ℕ
numbers_seen c = (known c.hand.seat).made

-- The caller holds every stripe of its map.
abbrev pub HoldsEvery : Caller → Type 0
HoldsEvery c = HoldsAllOf (stripes_in c) (known c.hand.seat)

-- The caller holds the stripe of this key.
abbrev pub HoldsStripe : ℕ → Caller → Type 0
HoldsStripe key c = Holds (known c.hand.seat) (stripe_of (stripes_in c) key)

-- Unless the call ends the transaction, the caller still holds every stripe that it held before.
abbrev pub KeepsStripes : Caller → Caller → Type 0
KeepsStripes a b = b.is_open ≡ true → KeepsHeld (known a.hand.seat) (known b.hand.seat)

-- Unless the call ends the transaction, the caller holds the same stripes as before, and perhaps
-- the stripe of this key too.
abbrev pub TakesAtMost : ℕ → Caller → Caller → Type 0
TakesAtMost key a b = b.is_open ≡ true
    → GainsAtMost (stripe_of (stripes_in a) key) (stripes_held a) (stripes_held b)

-- From `a` to `b`, the caller added exactly the entries `es` to the history. Other callers may have
-- added entries before them, but asked for no operation on a key of a stripe that `a` holds. The
-- caller made no other caller.
pub record IsStep (a : Caller) (es : List Entry) (b : Caller) : Type 0 where
  pub map_is : b.map ≡ a.map
  pub number_is : number b ≡ number a
  pub made_is : has_made b ≡ has_made a
  pub goes : Extends (stripes_in a) (number a) (stripes_held a) (seen a) es (seen b)

-- Caller `b` is the same caller as `a`, in the same state. At most the memory that it has taken for
-- its next calls differs.
pub record IsSame (a b : Caller) : Type 0 where
  pub map_is : b.map ≡ a.map
  pub open_is : b.is_open ≡ a.is_open
  pub known_is : known b.hand.seat ≡ known a.hand.seat

-- No transaction was begun, for one of these reasons.
-- - `AlreadyOpen`: there is a transaction. Nothing changes.
-- - `NoMemory`: the map keeps its entries, and memory was refused. The caller is the same.
abbrev pub IsNotBegun : Caller → Caller → Stop → Type 0
IsNotBegun a b (Refused AlreadyOpen) = (a.is_open ≡ true) × (b ≡ a)
IsNotBegun a b (Refused NoMemory) = (keeps a ≡ Entries) × (a.is_open ≡ false) × IsSame a b
IsNotBegun a b stop = ⊥

-- The caller did not return to a level, for one of these reasons.
-- - `NotOpen`: there is no transaction. Nothing changes.
-- - `NoSuchLevel`: there is no such level. Nothing changes.
-- - `NoMemory`: the map keeps its entries, and memory was refused. The caller is the same.
abbrev pub IsNotBack : ℕ → Caller → Caller → Stop → Type 0
IsNotBack level a b (Refused NotOpen) = (a.is_open ≡ false) × (b ≡ a)
IsNotBack level a b (Refused NoSuchLevel) = (a.is_open ≡ true) × (levels a < level) × (b ≡ a)
IsNotBack level a b (Refused NoMemory) = (keeps a ≡ Entries) × (a.is_open ≡ true) × IsSame a b
IsNotBack level a b stop = ⊥

-- The caller did not do the operation, for one of these reasons.
-- - `Busy`: another caller, which has begun a transaction before, held the stripe. The transaction
--   is aborted.
-- - `NotOpen`: there is no transaction. Nothing changes.
-- - `NoMemory`: memory was refused. The transaction is unchanged, but may hold more stripes.
abbrev pub IsStopped : Caller → Op → Caller → Stop → Type 0
IsStopped a op b (Busy holder) = (a.is_open ≡ true) × (b.is_open ≡ false)
    × IsStep a (BusyEntry (number a) op holder
    ∷ undoing (number a) (changes_made a) (Aborted (number a))) b
IsStopped a op b (Refused NotOpen) = (a.is_open ≡ false) × (b ≡ a)
IsStopped a op b (Refused refusal) = (refusal ≡ NoMemory) × (a.is_open ≡ true)
    × (b.is_open ≡ true) × IsStep a [] b

-- A call that takes every stripe has failed. It has the outcome of a failed `Get` of some key
-- (`IsStopped`).
abbrev pub IsCut : Caller → Caller → Stop → Type 0
IsCut a b stop = (key : ℕ) × IsStopped a (Get key) b stop

-- Caller `b` is the same caller as `a`, at a later time. In between, it may have seen more of the
-- history, but it has committed nothing, and made no other caller.
pub record IsSince (a b : Caller) : Type 0 where
  pub map_is : b.map ≡ a.map
  pub number_is : number b ≡ number a
  pub made_is : has_made b ≡ has_made a
  pub goes : (i : ℕ) (e : Entry) → slice_get (seen a) i ≡ Some e → slice_get (seen b) i ≡ Some e
  pub commits : how_many is_commit (own (number a) (seen b))
      ≡ how_many is_commit (own (number a) (seen a))

-- Caller `b` is the same caller as `a`, at a later time. In between, it may have seen more of the
-- history, but it has begun no transaction and committed nothing.
pub record IsWithin (a b : Caller) : Type 0 where
  pub since : IsSince a b
  pub begins : how_many is_began (own (number a) (seen b))
      ≡ how_many is_began (own (number a) (seen a))

-- A transaction was taken back. Afterwards the caller is in no transaction and holds no stripe. If
-- a busy stripe had ended the transaction before, the caller is unchanged.
pub record IsTakenBack (a b : Caller) : Type 0 where
  pub closed : b.is_open ≡ false
  pub given : stripes_held b ≡ []
  pub back : a.is_open ≡ true
      → IsStep a
      (Leave (number a) None ∷ undoing (number a) (changes_made a) (Aborted (number a))) b
  pub over : a.is_open ≡ false → b ≡ a

-- One transaction was run and committed. The caller is `b` before the transaction, `t` when the
-- work begins, `u` when the work ends, and `l` after the commit.
pub record IsRun (b t u l : Caller) (found : Option ℕ) : Type 0 where
  pub txn : ℕ
  pub began : IsStep b (Began (number b) txn ∷ []) t
  pub works : IsWithin t u
  pub place : ℕ
  pub found_is : found ≡ told_of (keeps u) place
  pub committed : IsStep u (Committed (number b) place ∷ []) l

-- A caller of this map, with this number, which has done nothing yet.
pub record IsNew (map : StripedMap) (stripes number_is : ℕ) (c : Caller) : Type 0 where
  pub map_is : c.map.value ≡ map
  pub stripes_are : stripes_in c ≡ stripes
  pub numbered : number c ≡ number_is
  pub closed : c.is_open ≡ false
  pub unseen : seen c ≡ []
  pub childless : has_made c ≡ false

-- Caller `b` is the same caller as `a`, in the same state: it has the same number, has seen the
-- same history, and holds the same stripes. It may have made another caller in between.
pub record IsMaker (a b : Caller) : Type 0 where
  pub map_is : b.map ≡ a.map
  pub open_is : b.is_open ≡ a.is_open
  pub number_is : number b ≡ number a
  pub seen_is : seen b ≡ seen a
  pub held_is : stripes_held b ≡ stripes_held a
  pub levels_are : levels b ≡ levels a
  pub changes_are : changes_made b ≡ changes_made a

-- Caller `c` was made by the caller `a`, which is then `b`. It is a caller of the same map, in no
-- transaction, and holds no stripe. It has seen what `a` has seen, and none of these entries is its
-- own. Its number was not given out before, as far as `a` knew. The number of the next caller that
-- `b` makes is higher.
pub record IsAnother (a b c : Caller) : Type 0 where
  pub map_is : c.map.value ≡ a.map.value
  pub some : 0 < number c
  pub other : number c ≢ number a
  pub new : numbers_seen a ≤ number c
  pub counted : numbers_seen b ≡ number c + 1
  pub made : has_made b ≡ true
  pub closed : c.is_open ≡ false
  pub idle : stripes_held c ≡ []
  pub sees : seen c ≡ seen a
  pub unused : own (number c) (seen c) ≡ []
  pub childless : has_made c ≡ false

-- Why a caller made no other caller. The caller `a` is then `b`.
-- - `Limit`: the map has given out as many numbers as it can.
-- - `NoMemory`: the map's count of owners is full. Nothing changes.
abbrev pub IsNotAnother : Caller → Caller → Refusal → Type 0
IsNotAnother a b Limit = (numbers_seen b ≡ most (keeps a)) × (has_made b ≡ has_made a)
IsNotAnother a b NoMemory = b ≡ a
IsNotAnother a b refusal = ⊥
