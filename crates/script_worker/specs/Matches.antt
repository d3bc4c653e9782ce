-- PROMISES what-became-of-each-script: AbortsItself
-- Whether the entries of a transaction are those of a script. Entries that take changes back are
-- left out.
use Rattle.std.specs.Prelude.{◌≡◌, ℕ, Some, None, List, [], ◌∷◌}
use Rattle.txn_words.specs.declared.action.Action.{Action}
use Rattle.txn_words.specs.declared.action.Action.TheVariants as actions
use Rattle.txn_words.specs.declared.entry.Entry.{Entry}
use Rattle.txn_words.specs.declared.entry.Entry.TheVariants.{Began, Asked, Did, Saved, Leave, Returned, Aborted}

-- The entries begin with those of the action, and the remaining entries are `rest`. If the action
-- is an abort, this never holds, since an abort ends its transaction.
abbrev pub PlaysAction : Action → List Entry → List Entry → Type 0
PlaysAction (actions.Op op) (Asked c asked ∷ Did d reply ∷ es) rest = (asked ≡ op) × (es ≡ rest)
PlaysAction actions.Save (Saved c ∷ es) rest = es ≡ rest
PlaysAction (actions.Back n) (Leave c (Some level) ∷ Returned d reached ∷ es) rest =
    (level ≡ n) × (reached ≡ n) × (es ≡ rest)
PlaysAction (actions.Help k) es rest = es ≡ rest
PlaysAction _ _ _ = ⊥

-- The entries are those of the actions before an abort, in order, and then those of the abort.
abbrev pub ReachAbort : List Action → List Entry → Type 0
ReachAbort (actions.Op op ∷ script) (Asked c asked ∷ Did d reply ∷ es) =
    (asked ≡ op) × ReachAbort script es
ReachAbort (actions.Save ∷ script) (Saved c ∷ es) = ReachAbort script es
ReachAbort (actions.Back n ∷ script) (Leave c (Some level) ∷ Returned d reached ∷ es) =
    (level ≡ n) × (reached ≡ n) × ReachAbort script es
ReachAbort (actions.Help k ∷ script) es = ReachAbort script es
ReachAbort (actions.Abort ∷ script) (Leave c None ∷ Aborted d ∷ []) = Unit {0}
ReachAbort _ _ = ⊥

-- The entries are a Began, then those of the script's actions before its first abort, and then
-- those of the abort.
abbrev pub AbortsItself : List Action → List Entry → Type 0
AbortsItself script (Began c t ∷ es) = ReachAbort script es
AbortsItself script _ = ⊥
