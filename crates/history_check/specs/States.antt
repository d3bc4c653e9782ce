-- The meaning of a checker's state for the entries so far.
use Rattle.std.specs.Prelude.{◌≡◌, ℕ, Option, None, Some, List, [], ◌∷◌, ◌++◌}
use Rattle.txn_words.specs.declared.entry.Entry.{Entry}
use Rattle.txn_words.specs.declared.holder.Holder.{Holder}
use Rattle.txn_trace.specs.Legal.{IsLegal, broken}
use Rattle.history_check.specs.declared.state.State.{State}
use Rattle.history_check.specs.declared.verdict.Rule.{Rule}
use Rattle.history_check.specs.Callers.{HaveEntered}
use Rattle.history_check.specs.LiveMaps.{Shows}
use Rattle.history_check.specs.Verdicts.{number_of}

-- The entries are a legal history, and the state has the callers and the live map as they are after
-- this history.
pub record Tells (holder : Holder) (stripes : ℕ) (h : List Entry) (state : State) : Type 0 where
  pub legal : IsLegal holder stripes h
  pub entered : HaveEntered h state.callers
  pub shows : Shows holder stripes h state.map

-- If the old state is right for a history (`Tells`), the new state is right for it too.
abbrev pub Stays : State → State → Type 0
Stays old new =
    (holder : Holder) (stripes : ℕ) (h : List Entry)
    → Tells holder stripes h old → Tells holder stripes h new

-- If a rule is given, the entry breaks this rule when it is added to the history. If no rule is
-- given, the new state is right (`Tells`) for the history with the entry added.
abbrev pub Judged : Holder → ℕ → List Entry → Entry → Option Rule → State → Type 0
Judged holder stripes h e None new = Tells holder stripes (h ++ e ∷ []) new
Judged holder stripes h e (Some rule) new = broken holder stripes h e ≡ Some (number_of rule)

-- `Judged` holds for the entry and each history for which the old state is right (`Tells`).
abbrev pub Judges : Entry → State → Option Rule → State → Type 0
Judges e old rule new =
    (holder : Holder) (stripes : ℕ) (h : List Entry)
    → Tells holder stripes h old → Judged holder stripes h e rule new
