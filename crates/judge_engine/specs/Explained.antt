-- The explanation of a verdict.
use Rattle.std.specs.Prelude.{◌≡◌, ℕ, List, [], Some, slice_get, take}
use Rattle.txn_words.specs.declared.entry.Entry.{Entry}
use Rattle.history_check.specs.declared.verdict.Rule.{Rule}
use Rattle.history_check.specs.declared.verdict.Verdict.{Verdict}
use Rattle.history_check.specs.declared.verdict.Verdict.TheVariants.{Legal, Illegal}
use Rattle.bad_entry.specs.declared.reason.Reason.{Reason}
use Rattle.judge_engine.specs.declared.basis.Basis.{Basis}
use Rattle.judge_engine.specs.Bases.{IsReasonBy}
use Rattle.judge_engine.specs.ReasonLines.{bad_entry_lines}

-- The lines explain why the entry `bad` breaks the rule after the entries `h`: they are those of a
-- right reason.
abbrev pub ExplainsEntry : Basis → Rule → List Entry → Entry → List ℕ → Type 0
ExplainsEntry basis rule h bad lines =
    (reason : Reason) × IsReasonBy basis rule h bad reason
    × (lines ≡ bad_entry_lines basis h bad reason)

-- The lines explain why the entry at the index `i` breaks the rule.
abbrev pub ExplainsAt : Basis → List Entry → ℕ → Rule → List ℕ → Type 0
ExplainsAt basis h i rule lines =
    (bad : Entry) × (slice_get h i ≡ Some bad) × ExplainsEntry basis rule (take i h) bad lines

-- The lines explain the verdict on a history: the bad entry, or nothing if the history is legal.
abbrev pub Explains : Basis → List Entry → Verdict → List ℕ → Type 0
Explains basis h (Legal commits running) lines = lines ≡ []
Explains basis h (Illegal i rule) lines = ExplainsAt basis h i rule lines
