-- What the state of a checker says about the entries so far.
use Rattle.std.specs.Prelude.{◌≡◌, Option, None, Some, List, [], ◌∷◌, ◌++◌}
use Rattle.txn_words.specs.declared.entry.Entry.{Entry}
use Rattle.history_check.specs.declared.verdict.Rule.{Rule}
use Rattle.history_check.specs.Callers.{HaveEntered}
use Rattle.history_check.specs.Verdicts.{number_of}
use Rattle.serial_check.specs.declared.state.State.{State}
use Rattle.serial_check.specs.Serializable.{IsSerializableByCommits, broken}
use Rattle.serial_check.specs.Commits.{ShowsSerial}

-- The entries are a serializable history, and the state has the callers and the commits that this
-- history leaves.
pub record Tells (h : List Entry) (state : State) : Type 0 where
  pub serializable : IsSerializableByCommits h
  pub entered : HaveEntered h state.callers
  pub keeps : ShowsSerial h state.commits

-- If `Tells` holds for a history and the old state, it holds for this history and the new state.
abbrev pub Stays : State → State → Type 0
Stays old new = (h : List Entry) → Tells h old → Tells h new

-- If a rule is named, adding the entry to the history breaks this rule. If no rule is named,
-- `Tells` holds for the new state and the history with the entry added.
abbrev pub Judged : List Entry → Entry → Option Rule → State → Type 0
Judged h e None new = Tells (h ++ e ∷ []) new
Judged h e (Some rule) new = broken h e ≡ Some (number_of rule)

-- If `Tells` holds for a history and the old state, the entry is judged as `Judged` says.
abbrev pub Judges : Entry → State → Option Rule → State → Type 0
Judges e old rule new = (h : List Entry) → Tells h old → Judged h e rule new
