-- The entries that a caller may add to the history.
use Rattle.std.specs.Prelude.{◌≡◌, ◌≢◌, ℕ, ◌+◌, ◌<◌, ◌⊎◌, List, [], ◌++◌, Some}
use Rattle.std.specs.List.{filter}
use Rattle.txn_words.specs.declared.entry.Entry.{Entry}
use Rattle.txn_words.specs.declared.holder.Holder.TheVariants.{Begun}
use Rattle.txn_words.specs.Kinds.{is_commit}
use Rattle.txn_words.specs.Map.{get}
use Rattle.txn_trace.specs.Now.{now}
use Rattle.txn_trace.specs.Locks.{asks_in, stripe_of, holder_of}
use Rattle.txn_words.specs.Shape.{own, how_many, stance_after}
use Rattle.txn_trace.specs.Log.{log_of}
use Rattle.txn_trace.specs.Legal.{IsLegal}
use Rattle.striped_map.specs.declared.view.View.{View}
use Rattle.striped_map.specs.Rule.{Holds, HasSeen}
use Rattle.striped_map.specs.Steps.{StateAfter}

-- The history `log ++ es` is legal, and all entries of `es` are entries of caller `c`.
-- `commits_more` of them are commits. Through these entries, `c` becomes the holder only of stripes
-- in `P`, only keys of stripes in `P` change, and only operations on such keys are asked for.
pub record Grows (stripes c : ℕ) (P : ℕ → Type 0) (commits_more : ℕ) (log es : List Entry) : Type 0
  where
    pub legal : IsLegal Begun stripes (log ++ es)
    pub others : (d : ℕ) → d ≢ c → own d es ≡ []
    pub commits : how_many is_commit (log ++ es) ≡ how_many is_commit log + commits_more
    pub holders : (stripe d : ℕ) → holder_of stripes stripe (log ++ es) ≡ Some d
        → (holder_of stripes stripe log ≡ Some d) ⊎ ((d ≡ c) × P stripe)
    pub still : (key : ℕ) → (P (stripe_of stripes key) → ⊥)
        → get (now (log ++ es)) key ≡ get (now log) key
    pub asks : (stripe : ℕ) → (P stripe → ⊥) → filter (asks_in stripes stripe) es ≡ []

-- The history is legal, and continues what the seat has seen. In this history, no other seat holds
-- a stripe of the view's list `held`, and the seat itself holds only stripes of this list.
pub record GoesOnFrom (stripes : ℕ) (v : View) (log : List Entry) : Type 0 where
  pub legal : IsLegal Begun stripes log
  pub seen : HasSeen stripes log v
  pub own_only : (stripe d : ℕ) → Holds v stripe → holder_of stripes stripe log ≡ Some d
      → d ≡ v.number
  pub mine : (stripe : ℕ) → stripe < stripes → holder_of stripes stripe log ≡ Some v.number
      → Holds v stripe

-- The history `log` grows by the entries `es` as `Grows` says. After these entries, the seat and
-- the changes of caller `c` are those of `left`. Each key of a stripe in `P` then has the value
-- that it has in the map of `left`.
pub record Lands (stripes c : ℕ) (P : ℕ → Type 0) (commits_more : ℕ) (log es : List Entry)
    (left : StateAfter) : Type 0 where
  pub grows : Grows stripes c P commits_more log es
  pub stance_is : stance_after (own c (log ++ es)) ≡ Some left.stance
  pub log_is : log_of c (log ++ es) ≡ left.log
  pub have : (key : ℕ) → P (stripe_of stripes key) → get (now (log ++ es)) key ≡ get left.map key

-- The entries may be added to any history that continues what the seat has seen (`GoesOnFrom`).
-- After them, the stance is in the state `left`.
abbrev pub MayAdd : ℕ → View → List Entry → StateAfter → Type 0
MayAdd stripes v es left = (log : List Entry) → GoesOnFrom stripes v log
    → Lands stripes v.number (Holds v) 0 log es left
