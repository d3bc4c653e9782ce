-- The entries of a script's first action, and those of the rest of the script.
use Rattle.std.proofs.Common.{◌≡◌, ℕ, ◌<◌, List, [], ◌∷◌, drop, length, get_or, Some, None, refl, subst, sym}
use Rattle.txn_words.specs.declared.action.Action.{Action}
use Rattle.txn_words.specs.declared.action.Action.TheVariants as actions
use Rattle.txn_words.specs.declared.entry.Entry.{Entry}
use Rattle.txn_words.specs.declared.entry.Entry.TheVariants.{Began, Asked, Did, Saved, Leave, Returned, Committed, Aborted}
use Rattle.txn_trace.specs.Plays.{ArePlayed, IsPlayed}
use Rattle.script_worker.specs.Matches.{PlaysAction, ReachAbort, AbortsItself}
use Rattle.script_worker.specs.Ways.{StartsWithBegan, IsLoneCommit, IsLeft}

-- If the entries begin with those of a script's first action, they play the script exactly if the
-- rest of the entries plays the rest of the script.
pub played_rest : (a : Action) (script : List Action) (es rest : List Entry) → PlaysAction a es rest → ArePlayed (a ∷ script) es → ArePlayed script rest
played_rest (actions.Op op) script (Asked c asked ∷ Did d reply ∷ es) rest does played = subst (ArePlayed script) does.1 played.1
played_rest actions.Save script (Saved c ∷ es) rest does played = subst (ArePlayed script) does played
played_rest (actions.Back n) script (Leave c (Some level) ∷ Returned d reached ∷ es) rest does played = subst (ArePlayed script) does.2 played.2
played_rest (actions.Help k) script es rest does played = subst (ArePlayed script) does played
played_rest _ script _ rest does played = absurd does

pub played_whole : (a : Action) (script : List Action) (es rest : List Entry) → PlaysAction a es rest → ArePlayed script rest → ArePlayed (a ∷ script) es
played_whole (actions.Op op) script (Asked c asked ∷ Did d reply ∷ es) rest does played = (does.0, subst (ArePlayed script) (sym does.1) played)
played_whole actions.Save script (Saved c ∷ es) rest does played = subst (ArePlayed script) (sym does) played
played_whole (actions.Back n) script (Leave c (Some level) ∷ Returned d reached ∷ es) rest does played = (does.0, does.1, subst (ArePlayed script) (sym does.2) played)
played_whole (actions.Help k) script es rest does played = subst (ArePlayed script) (sym does) played
played_whole _ script _ rest does played = absurd does

pub reach_whole : (a : Action) (script : List Action) (es rest : List Entry) → PlaysAction a es rest → ReachAbort script rest → ReachAbort (a ∷ script) es
reach_whole (actions.Op op) script (Asked c asked ∷ Did d reply ∷ es) rest does reached = (does.0, subst (ReachAbort script) (sym does.1) reached)
reach_whole actions.Save script (Saved c ∷ es) rest does reached = subst (ReachAbort script) (sym does) reached
reach_whole (actions.Back n) script (Leave c (Some level) ∷ Returned d back ∷ es) rest does reached = (does.0, does.1, subst (ReachAbort script) (sym does.2) reached)
reach_whole (actions.Help k) script es rest does reached = subst (ReachAbort script) (sym does) reached
reach_whole _ script _ rest does reached = absurd does

-- Entries that play a script begin with those of its first action.
pub does_first : (a : Action) (script : List Action) (es : List Entry) → ArePlayed (a ∷ script) es
    → (rest : List Entry) × PlaysAction a es rest
does_first (actions.Op op) script (Asked c asked ∷ Did d reply ∷ es) played = (es, (played.0, refl))
does_first actions.Save script (Saved c ∷ es) played = (es, refl)
does_first (actions.Back n) script (Leave c (Some level) ∷ Returned d reached ∷ es) played = (es, (played.0, played.1, refl))
does_first (actions.Help k) script es played = (es, refl)
does_first _ script _ played = absurd played

pub played_begun : (script : List Action) (part rest : List Entry) → StartsWithBegan part rest → IsPlayed script part
    → ArePlayed script rest
played_begun script (Began c t ∷ es) rest begun played = subst (ArePlayed script) begun played
played_begun script _ rest begun played = absurd begun

pub begun_played : (script : List Action) (part rest : List Entry) → StartsWithBegan part rest → ArePlayed script rest
    → IsPlayed script part
begun_played script (Began c t ∷ es) rest begun played = subst (ArePlayed script) (sym begun) played
begun_played script _ rest begun played = absurd begun

pub begun_reach : (script : List Action) (part rest : List Entry) → StartsWithBegan part rest → ReachAbort script rest
    → AbortsItself script part
begun_reach script (Began c t ∷ es) rest begun reached = subst (ReachAbort script) (sym begun) reached
begun_reach script _ rest begun reached = absurd begun

pub has_begun : (script : List Action) (part : List Entry) → IsPlayed script part → (rest : List Entry) × StartsWithBegan part rest
has_begun script (Began c t ∷ es) played = (es, refl)
has_begun script _ played = absurd played

pub lone_played : (es : List Entry) → IsLoneCommit es → ArePlayed [] es
lone_played (Committed c p ∷ []) lone = tt
lone_played _ lone = absurd lone

pub played_lone : (es : List Entry) → ArePlayed [] es → IsLoneCommit es
played_lone (Committed c p ∷ []) played = tt
played_lone _ played = absurd played

pub left_reach : (script : List Action) (es : List Entry) → IsLeft es → ReachAbort (actions.Abort ∷ script) es
left_reach script (Leave c None ∷ Aborted d ∷ []) left = tt
left_reach script _ left = absurd left
