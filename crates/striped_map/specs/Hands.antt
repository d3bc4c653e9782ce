-- PROMISES the-striped-map: ReadsPairs, IsUnread
-- The outcomes of a hand's calls.
use Rattle.std.specs.Prelude.{◌≡◌, ◌⊎◌, ℕ, List, [], ◌∷◌, None}
use Rattle.txn_words.specs.declared.entry.Entry.{Entry}
use Rattle.txn_words.specs.declared.entry.Entry.TheVariants.{Began, Leave, Busy as BusyEntry, Aborted}
use Rattle.txn_words.specs.declared.op.Op.{Op}
use Rattle.txn_words.specs.declared.op.Op.TheVariants.{Get}
use Rattle.txn_words.specs.declared.refusal.Refusal.TheVariants.{NoMemory}
use Rattle.txn_trace.specs.Now.{now}
use Rattle.txn_words.specs.declared.stance.Phase.TheVariants.{Closed, Opened}
use Rattle.striped_map.specs.declared.hand.Hand.{Hand}
use Rattle.striped_map.specs.declared.keep.Keep.TheVariants.{Entries}
use Rattle.striped_map.specs.declared.map.StripedMap.{StripedMap}
use Rattle.striped_map.specs.Handling.{KeepsHeld}
use Rattle.striped_map.specs.Seats.{known, stripes_of}
use Rattle.striped_map.specs.Steps.{Extends, Gathers, HasAll, IsAt, undoing}
use Rattle.striped_map.specs.Additions.{due}
use Rattle.txn_words.specs.declared.stop.Stop.{Stop}
use Rattle.txn_words.specs.declared.stop.Stop.TheVariants.{Busy, Refused}

-- From `a` to `b`, the hand added exactly the entries `es` to the history. Other callers may have
-- added entries before them, but asked for no operation on a key of a stripe that `a` holds.
pub record MovesHand (map : StripedMap) (a : Hand) (es : List Entry) (b : Hand) : Type 0 where
  pub number_is : (known b.seat).number ≡ (known a.seat).number
  pub retired_is : (known b.seat).retired ≡ (known a.seat).retired
  pub made_is : (known b.seat).made ≡ (known a.seat).made
  pub parent_is : (known b.seat).parent ≡ (known a.seat).parent
  pub keep_is : (known b.seat).keep ≡ (known a.seat).keep
  pub goes : Extends (stripes_of map) (known a.seat).number (known a.seat).held
      (known a.seat).seen es (known b.seat).seen

-- From `a` to `b`, the hand added no entry and gave no stripe back.
pub record GoesOn (map : StripedMap) (a b : Hand) : Type 0 where
  pub moves : MovesHand map a [] b
  pub keeps : KeepsHeld (known a.seat) (known b.seat)

-- The hand did not do the operation, for one of these reasons.
-- - `Busy`: another caller, which has begun a transaction before, held the stripe. The transaction
--   is aborted.
-- - `Refused`: memory was refused. The transaction is unchanged, but may hold more stripes.
abbrev pub IsStopped : StripedMap → Hand → Op → Hand → Stop → Type 0
IsStopped map a op b (Busy holder) = IsAt Closed (known b.seat) × ((known b.seat).held ≡ [])
    × MovesHand map a (BusyEntry (known a.seat).number op holder
    ∷ undoing (known a.seat).number (due (known a.seat)) (Aborted (known a.seat).number)) b
IsStopped map a op b (Refused refusal) =
    (refusal ≡ NoMemory) × IsAt Opened (known b.seat) × MovesHand map a [] b

-- A call that takes every stripe has failed. It has the outcome of a failed `Get` of some key
-- (`IsStopped`).
abbrev pub IsCut : StripedMap → Hand → Hand → Stop → Type 0
IsCut map a b stop = (key : ℕ) × IsStopped map a (Get key) b stop

-- A hand in a transaction without changes aborted it.
abbrev pub GivesUp : StripedMap → Hand → Hand → Type 0
GivesUp map a b =
    MovesHand map a (Leave (known a.seat).number None ∷ Aborted (known a.seat).number ∷ []) b

-- A hand began a transaction, read the pairs in it, looked at the history, and aborted the
-- transaction. The hand is `a` before, `read` when it has read, `left` when it has looked, and `c`
-- afterwards. Its entries are a Began, a Leave and an Aborted. The pairs are those of the map of
-- the history that `left` has seen. This history is legal. In it, each merged caller has exactly
-- the entries that its calls added, and only seats that were made have entries (`Gathers`).
pub record ReadsPairs (map : StripedMap) (a c : Hand) (pairs : List (ℕ × ℕ)) : Type 0 where
  pub txn : ℕ
  pub during : Hand
  pub begun : MovesHand map a (Began (known a.seat).number txn ∷ []) during
  pub read : Hand
  pub reads : MovesHand map during [] read
  pub found : ℕ
  pub left : Hand
  pub gathers : Gathers (stripes_of map) (known read.seat) found (known left.seat)
  pub all : HasAll (known a.seat) (known left.seat).seen
  pub pairs_are : pairs ≡ (now (known left.seat).seen).rows
  pub ended : GivesUp map left c

-- The pairs were not read, for one of these reasons.
-- - `Busy`: a transaction was begun to read them, and another caller held a stripe (`IsCut`).
-- - `Refused`: memory was refused. Either the map keeps its entries, and no transaction was begun,
--   or the transaction was aborted.
abbrev pub IsUnread : StripedMap → Hand → Hand → Stop → Type 0
IsUnread map a c (Busy holder) = (txn : ℕ) × (b : Hand)
    × MovesHand map a (Began (known a.seat).number txn ∷ []) b × IsCut map b c (Busy holder)
IsUnread map a c (Refused refusal) = (refusal ≡ NoMemory)
    × ((((known a.seat).keep ≡ Entries) × (known c.seat ≡ known a.seat))
    ⊎ ((txn : ℕ) × (b : Hand) × MovesHand map a (Began (known a.seat).number txn ∷ []) b
    × (left : Hand) × MovesHand map b [] left × GivesUp map left c))
