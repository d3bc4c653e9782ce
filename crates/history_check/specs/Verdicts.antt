-- The meaning of a checker's verdict.
use Rattle.std.specs.Prelude.{ℕ, ◌≡◌, ◌↔◌, Bool, true, false, IsTrue, List, [], ◌∷◌, ◌++◌, codes, decimal}
use Rattle.txn_words.specs.declared.entry.Entry.{Entry}
use Rattle.txn_words.specs.declared.holder.Holder.{Holder}
use Rattle.txn_trace.specs.Legal as legal
use Rattle.history_check.specs.declared.verdict.Rule.{Rule}
use Rattle.history_check.specs.declared.verdict.Rule.TheVariants.{Replies, Locks, Shape}
use Rattle.history_check.specs.declared.verdict.Verdict.{Verdict}
use Rattle.history_check.specs.declared.verdict.Verdict.TheVariants.{Legal, Illegal}

-- The number of a rule.
abbrev pub number_of : Rule → ℕ
number_of Replies = 1
number_of Locks = 2
number_of Shape = 3

-- The text of a rule.
abbrev pub rule_words : Rule → List ℕ
rule_words rule = codes "rule " ++ decimal (number_of rule)

-- The text of a verdict.
abbrev pub verdict_words : Verdict → List ℕ
verdict_words (Legal commits running) =
    codes "legal " ++ (decimal commits ++ (codes " commits " ++ (decimal running ++ codes " open")))
verdict_words (Illegal entry rule) =
    codes "illegal entry " ++ (decimal entry ++ (codes " " ++ rule_words rule))

-- The line that gives a verdict: its text and a line feed.
abbrev pub verdict_line : Verdict → List ℕ
verdict_line outcome = verdict_words outcome ++ 10 ∷ []

-- Translates a verdict of the checker into a verdict of the definitions.
abbrev pub meaning_of : Verdict → legal.Verdict
meaning_of (Legal commits running) = legal.Legal commits running
meaning_of (Illegal entry rule) = legal.Illegal entry (number_of rule)

-- True exactly if the verdict says that the history is legal.
abbrev pub says_legal : Verdict → Bool
says_legal (Legal commits running) = true
says_legal (Illegal entry rule) = false

-- The verdict says that the history is legal.
abbrev pub SaysLegal : Verdict → Type 0
SaysLegal outcome = IsTrue (says_legal outcome)

-- The outcome agrees with the verdict of the definitions on the history: the outcome is legal if
-- and only if the history is legal by the definitions.
pub record IsVerdictOn (holder : Holder) (stripes : ℕ) (h : List Entry) (outcome : Verdict) :
    Type 0 where
  pub meaning : meaning_of outcome ≡ legal.verdict holder stripes h
  pub legal : SaysLegal outcome ↔ legal.IsLegal holder stripes h
