-- Each refusal's number and text.
use Rattle.std.specs.Prelude.{ℕ, List, decimal}
use Rattle.txn_words.specs.declared.refusal.Refusal.{Refusal}
use Rattle.txn_words.specs.declared.refusal.Refusal.TheVariants.{BadKey, NoSuchCaller, NotOpen, AlreadyOpen, OperationUnfinished, Leaving, Unplaced, NothingToSeek, NoSuchLevel, NoSuchBucket, ParentMissing, NoSuchHelper, HelperOutOfOrder, NoMemory, OutOfStep, StampsUsedUp, CallersMissing, NoThread, StaleWord, NotJson, WrongShape, Limit}

-- The number of a refusal.
abbrev pub number_of : Refusal → ℕ
number_of BadKey = 1
number_of NoSuchCaller = 2
number_of NotOpen = 3
number_of AlreadyOpen = 4
number_of OperationUnfinished = 5
number_of Leaving = 6
number_of Unplaced = 7
number_of NothingToSeek = 8
number_of NoSuchLevel = 9
number_of NoSuchBucket = 10
number_of ParentMissing = 11
number_of NoSuchHelper = 12
number_of HelperOutOfOrder = 13
number_of NoMemory = 14
number_of OutOfStep = 15
number_of StampsUsedUp = 16
number_of CallersMissing = 17
number_of NoThread = 18
number_of StaleWord = 19
number_of NotJson = 20
number_of WrongShape = 21
number_of Limit = 22

-- The text of a refusal: its number.
abbrev pub words_of : Refusal → List ℕ
words_of refusal = decimal (number_of refusal)
