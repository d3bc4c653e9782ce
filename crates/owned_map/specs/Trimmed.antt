-- PROMISES transactions-as-values: IsTrimmed, IsNotTrimmed
-- Trimming a history: it is replaced by one transaction, which puts the pairs of the map.
use Rattle.std.specs.Prelude.{ℕ, ◌^◌, ◌≡◌, ◌≢◌, ◌<◌, ◌≤◌, false, List, [], ◌∷◌, ◌++◌, None}
use Rattle.std.specs.List.{flat_map}
use Rattle.txn_words.specs.declared.op.Op.TheVariants.{Put}
use Rattle.txn_words.specs.declared.entry.Entry.{Entry}
use Rattle.txn_words.specs.declared.entry.Entry.TheVariants.{Began, Asked, Did, Committed}
use Rattle.txn_words.specs.declared.refusal.Refusal.{Refusal}
use Rattle.txn_words.specs.declared.refusal.Refusal.TheVariants.{AlreadyOpen, NoMemory, StampsUsedUp}
use Rattle.txn_words.specs.Map.{count_of}
use Rattle.txn_trace.specs.Now.{now}
use Rattle.txn_words.specs.Ordered.{ordered}
use Rattle.txn_words.specs.declared.stance.Phase.TheVariants.{Opened}
use Rattle.txn_words.specs.Stances.{is_closed}
use Rattle.txn_words.specs.Shape.{own}
use Rattle.boost_core.specs.State.{State, stance_in}
use Rattle.owned_map.specs.Within.{IsIdle}

-- The entries by which caller 0 puts a pair whose key is absent.
abbrev pub put_new : ℕ × ℕ → List Entry
put_new pair = Asked 0 (Put pair.0 pair.1) ∷ Did 0 None ∷ []

-- The entries of one transaction, in which caller 0 puts these pairs into an empty map. It is the
-- first transaction of its history, and it is committed.
abbrev pub filling : List (ℕ × ℕ) → List Entry
filling pairs = (Began 0 1 ∷ flat_map put_new pairs) ++ Committed 0 1 ∷ []

-- Caller 0 exists and has a transaction, and no other caller has done anything.
pub record IsFilling (state : State) : Type 0 where
  pub there : 0 < state.limits.callers
  pub opened : (stance_in state.history 0).phase ≡ Opened
  pub alone : (d : ℕ) → d ≢ 0 → own d state.history ≡ []

-- No caller has a transaction.
abbrev pub IsAtRest : State → Type 0
IsAtRest state = (c : ℕ) → c < state.limits.callers → IsIdle c state

-- The history was trimmed when no caller had a transaction. The new history is one transaction,
-- which puts the pairs of the map. The map is unchanged.
pub record IsTrimmed (old new : State) : Type 0 where
  pub rest : IsAtRest old
  pub history : new.history ≡ filling (ordered (now old.history))
  pub same : now new.history ≡ now old.history
  pub limits : new.limits ≡ old.limits

-- What is lacking if a new map cannot take this many pairs: memory, or stamps. A pair takes at most
-- two stamps: one for its own node, and one for the dummy of a bucket that the table then gains.
abbrev pub LacksFor : ℕ → Refusal → Type 0
LacksFor pairs NoMemory = Unit {0}
LacksFor pairs StampsUsedUp = 2 ^ 63 ≤ pairs
LacksFor pairs refusal = ⊥

-- The reason why a history is not trimmed. Either a caller has a transaction, or no caller has one
-- and the new map cannot take the pairs.
abbrev pub IsNotTrimmed : State → Refusal → Type 0
IsNotTrimmed state AlreadyOpen =
    (c : ℕ) × (c < state.limits.callers) × (is_closed (stance_in state.history c).phase ≡ false)
IsNotTrimmed state refusal = IsAtRest state × LacksFor (count_of (now state.history)) refusal
