-- The lines of verdicts, written completely or in part.
use Rattle.std.proofs.Common.{◌≡◌, List, ℕ, Option, refl, ◌∙◌}
use Rattle.history_check.specs.declared.verdict.Verdict.{Verdict}
use Rattle.history_check.specs.Verdicts.{says_legal, verdict_line}
use Rattle.boostmap_engine.specs.declared.fault.Fault.TheVariants.{Write}
use Rattle.txn_files.specs.Output.{AppendsPart}
use Rattle.boostmap_engine.specs.Written.{IsRead, LeavesOutput}
use Rattle.boostmap_engine.specs.Judgement.{IsJudged, IsJudgementOf, IsNoHistoryFile}

-- If the output grew by a proper prefix of the line of a verdict, and the verdict is on the history
-- that was read, `LeavesOutput` holds for the fault `Write`.
pub Leaves-line : (remaining old new : Option (List ℕ)) (read bytes line text : List ℕ) (outcome : Verdict) → IsRead remaining read → bytes ≡ read → IsJudged bytes outcome → line ≡ verdict_line outcome → text ≡ line → AppendsPart old new text → LeavesOutput IsJudgementOf IsNoHistoryFile remaining old new Write
Leaves-line remaining old new read bytes line text outcome was_read same judged is_line whole part =
    (bytes, text, rw same was_read, (says_legal outcome, (outcome, judged, refl, whole ∙ is_line)), part)
