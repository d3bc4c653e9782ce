-- The entries that steps add to the history.
use Rattle.std.specs.Prelude.{List, [], ◌∷◌, Some, None}
use Rattle.txn_words.specs.declared.step.Step.{Step}
use Rattle.txn_words.specs.declared.step.Step.TheVariants.{Begin, Ask, Act, Save, Back, Commit, Abort}
use Rattle.txn_words.specs.declared.answer.Answer.{Answer}
use Rattle.txn_words.specs.declared.answer.Answer.TheVariants as answers
use Rattle.txn_words.specs.declared.entry.Entry.{Entry}
use Rattle.txn_words.specs.declared.entry.Entry.TheVariants as entries

-- The entries that a step with this answer adds to the history. There is at most one.
abbrev pub entries_of : Step → Answer → List Entry
entries_of (Begin c) (answers.Began t) = entries.Began c t ∷ []
entries_of (Ask c op) answers.Asked = entries.Asked c op ∷ []
entries_of (Ask c op) (answers.Busy x) = entries.Busy c op x ∷ []
entries_of (Act c) (answers.Done reply) = entries.Did c reply ∷ []
entries_of (Act c) answers.Undone = entries.Undone c ∷ []
entries_of (Act c) (answers.Returned n) = entries.Returned c n ∷ []
entries_of (Act c) answers.Aborted = entries.Aborted c ∷ []
entries_of (Save c) (answers.Saved n) = entries.Saved c ∷ []
entries_of (Back c n) answers.Leaving = entries.Leave c (Some n) ∷ []
entries_of (Commit c) (answers.Committed p) = entries.Committed c p ∷ []
entries_of (Abort c) answers.Leaving = entries.Leave c None ∷ []
entries_of step answer = []
