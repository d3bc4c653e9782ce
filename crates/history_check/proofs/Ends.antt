-- For the rules of legal histories, a verdict by the first bad entry is right.
use Rattle.std.proofs.Common.{◌≡◌, ℕ, List, [], None}
use Rattle.txn_words.specs.declared.entry.Entry.{Entry}
use Rattle.txn_words.specs.declared.holder.Holder.{Holder}
use Rattle.txn_trace.specs.Legal.{IsLegal, broken, first_bad_by, verdict_by}
use Rattle.txn_trace.proofs.BadEntries.{legal_iff}
use Rattle.history_check.specs.declared.verdict.Verdict.{Verdict}
use Rattle.history_check.specs.Verdicts.{meaning_of, IsVerdictOn}
use Rattle.history_check.proofs.FirstBad.{says}

module _ (holder : Holder) (stripes : ℕ) where
  pub none_bad_in : (h : List Entry) → IsLegal holder stripes h → first_bad_by (broken holder stripes) [] h 0 ≡ None
  none_bad_in h legal = (legal_iff stripes h).0 legal

  -- If a verdict means the same as the result of `verdict_by`, it is the verdict on the history.
  pub verdict_on : (h : List Entry) (v : Verdict) → meaning_of v ≡ verdict_by (broken holder stripes) h → IsVerdictOn holder stripes h v
  verdict_on h v is = record { meaning = is; legal = says (broken holder stripes) (IsLegal holder stripes h) h v (legal_iff stripes h) is }
