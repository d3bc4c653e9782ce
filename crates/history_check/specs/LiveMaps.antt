-- The meaning of a checker's live map for the entries so far.
use Rattle.std.specs.Prelude.{◌≡◌, ℕ, ◌<◌, Bool, true, List, [], ◌∷◌, ◌++◌}
use Rattle.txn_words.specs.declared.entry.Entry.{Entry}
use Rattle.txn_words.specs.declared.holder.Holder.{Holder}
use Rattle.txn_trace.specs.Now.{now}
use Rattle.txn_trace.specs.Locks.{holder_of, is_locked}
use Rattle.txn_words.specs.Shape.{is_shaped}
use Rattle.txn_trace.specs.Legal.{IsLegal, replies_hold}
use Rattle.key_locks.specs.Locks as locks
use Rattle.history_check.specs.declared.callers.Callers.{Callers}
use Rattle.history_check.specs.declared.live_map.LiveMap.{LiveMap}
use Rattle.history_check.specs.Callers.{HaveEntered}
use Rattle.history_check.specs.Remainders.{Have}

-- The live map agrees with a history: it has the values of the map after the history, and each
-- stripe has the holder that it has after the history.
pub record Shows (holder : Holder) (stripes : ℕ) (h : List Entry) (live : LiveMap) : Type 0 where
  pub holder_is : live.holder ≡ holder
  pub stripes_are : live.stripes ≡ stripes
  pub values : Have (now h) live.values
  pub holders : (s : ℕ) → s < stripes → locks.holder_of live.locks s ≡ holder_of stripes s h

-- The new map shows each history that the old one shows.
abbrev pub StillShows : LiveMap → LiveMap → Type 0
StillShows old new =
    (holder : Holder) (stripes : ℕ) (h : List Entry)
    → Shows holder stripes h old → Shows holder stripes h new

-- `right` is true exactly if the entry keeps the rule of locks after the history. If `right` is
-- true, the new map shows the history with this entry added. `FollowsEntry` claims both only if the
-- history is legal, and the entry's shape and reply are right.
pub record FollowsAt (holder : Holder) (stripes : ℕ) (h : List Entry) (e : Entry) (right : Bool)
    (new : LiveMap) : Type 0 where
  pub locked : is_locked holder stripes h e ≡ right
  pub shows : right ≡ true → Shows holder stripes (h ++ e ∷ []) new

abbrev pub FollowsEntry : Entry → Callers → LiveMap → Bool → LiveMap → Type 0
FollowsEntry e callers old right new =
    (holder : Holder) (stripes : ℕ) (h : List Entry)
    → IsLegal holder stripes h → HaveEntered h callers → Shows holder stripes h old
    → is_shaped h e ≡ true → replies_hold (h ++ e ∷ []) ≡ true
    → FollowsAt holder stripes h e right new
