-- The sentence of each refusal and of each stop, for a person to read.
use Rattle.std.specs.Prelude.{ℕ, List, ◌++◌, codes, decimal}
use Rattle.txn_words.specs.declared.refusal.Refusal.{Refusal}
use Rattle.txn_words.specs.declared.refusal.Refusal.TheVariants.{BadKey, NoSuchCaller, NotOpen, AlreadyOpen, OperationUnfinished, Leaving, Unplaced, NothingToSeek, NoSuchLevel, NoSuchBucket, ParentMissing, NoSuchHelper, HelperOutOfOrder, NoMemory, OutOfStep, StampsUsedUp, CallersMissing, NoThread, StaleWord, NotJson, WrongShape, Limit}
use Rattle.txn_words.specs.declared.stop.Stop.{Stop}
use Rattle.txn_words.specs.declared.stop.Stop.TheVariants as stops

-- The sentence of a refusal.
abbrev pub sentence_of : Refusal → List ℕ
sentence_of BadKey = codes "the key is 2^63 or more, and the map takes half keys only"
sentence_of NoSuchCaller = codes "there is no such caller"
sentence_of NotOpen = codes "the caller has no open transaction"
sentence_of AlreadyOpen = codes "the caller has an open transaction already"
sentence_of OperationUnfinished = codes "an operation of the caller has no reply yet"
sentence_of Leaving = codes "the caller is taking its changes back"
sentence_of Unplaced = codes "there is no cursor to act on"
sentence_of NothingToSeek = codes "there is nothing to seek"
sentence_of NoSuchLevel = codes "the transaction has no savepoint of this number"
sentence_of NoSuchBucket = codes "the bucket is not below the size of the table"
sentence_of ParentMissing = codes "the parent of the bucket is not initialised"
sentence_of NoSuchHelper = codes "there is no such helper"
sentence_of HelperOutOfOrder = codes "the helper has no cursor to link at, or no dummy to store"
sentence_of NoMemory = codes "memory was refused"
sentence_of OutOfStep = codes "the map and a caller disagree about what has happened"
sentence_of StampsUsedUp = codes "no stamp is left for another node"
sentence_of CallersMissing = codes "callers of the map are missing"
sentence_of NoThread = codes "a thread could not be started"
sentence_of StaleWord = codes "the claim to the stripe is stale"
sentence_of NotJson = codes "the file is not JSON"
sentence_of WrongShape = codes "an element of the file has the wrong shape"
sentence_of Limit = codes "a size or a number is out of range"

-- The sentence of a stop: it names the caller that held the stripe, or states the refusal.
abbrev pub stop_text : Stop → List ℕ
stop_text (stops.Busy holder) = codes "caller " ++ (decimal holder ++ codes " held the stripe of the key")
stop_text (stops.Refused refusal) = sentence_of refusal
