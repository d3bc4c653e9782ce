-- Answers as text.
use Rattle.std.specs.Prelude.{ℕ, List, [], ◌++◌, Some, None, codes, decimal}
use Rattle.txn_words.specs.declared.answer.Answer.{Answer}
use Rattle.txn_words.specs.declared.answer.Answer.TheVariants.{Began, Asked, Busy, Placed, Again, Done, Undone, Returned, Aborted, Saved, Leaving, Committed, Swept, Clean, Ready, Present, Linked, Stored, Moved, AtLimit, Light, Doubled, Refused}
use Rattle.txn_words.specs.declared.answer.Rest.{Rest}
use Rattle.txn_words.specs.declared.answer.Rest.TheVariants as rests
use Rattle.txn_words.specs.Refusals.{words_of}

-- The text of an answer: words and decimal numbers.
abbrev pub text_of : Answer → List ℕ
text_of (Began t) = codes "began " ++ decimal t
text_of Asked = codes "asked"
text_of (Busy c) = codes "busy " ++ decimal c
text_of Placed = codes "placed"
text_of Again = codes "again"
text_of (Done None) = codes "done none"
text_of (Done (Some v)) = codes "done " ++ decimal v
text_of Undone = codes "undone"
text_of (Returned n) = codes "returned " ++ decimal n
text_of Aborted = codes "aborted"
text_of (Saved n) = codes "saved " ++ decimal n
text_of Leaving = codes "leaving"
text_of (Committed p) = codes "committed " ++ decimal p
text_of Swept = codes "swept"
text_of Clean = codes "clean"
text_of Ready = codes "ready"
text_of Present = codes "present"
text_of Linked = codes "linked"
text_of Stored = codes "stored"
text_of (Moved n) = codes "moved " ++ decimal n
text_of AtLimit = codes "at limit"
text_of Light = codes "light"
text_of (Doubled n) = codes "doubled " ++ decimal n
text_of (Refused refusal) = codes "refused " ++ words_of refusal

-- The text after an answer's words: nothing, a number, or a refusal's number.
abbrev pub rest_text : Rest → List ℕ
rest_text rests.Nothing = []
rest_text (rests.Number n) = codes " " ++ decimal n
rest_text (rests.Refusal refusal) = codes " " ++ words_of refusal
