-- The meaning of the checker's verdict.
use Rattle.std.specs.Prelude.{◌≡◌, ◌↔◌, List}
use Rattle.txn_words.specs.declared.entry.Entry.{Entry}
use Rattle.history_check.specs.declared.verdict.Verdict.{Verdict}
use Rattle.history_check.specs.Verdicts.{meaning_of, SaysLegal}
use Rattle.serial_check.specs.Serializable as serializable

-- The outcome is the verdict that the definitions give on the history. This verdict is legal
-- exactly if the history is serializable in the order of its commits.
pub record IsVerdictOn (h : List Entry) (outcome : Verdict) : Type 0 where
  pub meaning : meaning_of outcome ≡ serializable.verdict h
  pub serializable : SaysLegal outcome ↔ serializable.IsSerializableByCommits h
