-- Faults of a file: the words that name them, and the result of a reader to which memory may be
-- refused.
use Rattle.std.specs.Prelude.{◌≡◌, ℕ, List, ◌++◌, Option, Some, None, Result, Ok, Err, codes, decimal}
use Rattle.piece_files.specs.declared.part.Part.TheVariants as parts
use Rattle.piece_files.specs.declared.file_fault.FileFault.{FileFault}
use Rattle.piece_files.specs.declared.file_fault.FileFault.TheVariants.{NotJson, Member, Piece, Limit, NoMemory}

-- The words that name a fault: its number, and its place if it has one.
abbrev pub words_of : FileFault → List ℕ
words_of NotJson = codes "20"
words_of Member = codes "21"
words_of (Piece parts.Step i) = codes "21 step " ++ decimal i
words_of (Piece parts.Script i) = codes "21 script " ++ decimal i
words_of (Piece parts.Entry i) = codes "21 entry " ++ decimal i
words_of Limit = codes "22"
words_of NoMemory = codes "14"

-- Applies the function to the value that was read. If there is a fault instead of a value, the
-- result is this fault.
infixl 10 ◌>>=◌
abbrev pub ◌>>=◌ : {A B : Type 0}
    → Result A FileFault → (A → Result B FileFault) → Result B FileFault
(Ok x) >>= f = f x
(Err e) >>= f = Err e

-- The option's value, or this fault if the option is `None`.
abbrev pub or_fault : {A : Type 0} → FileFault → Option A → Result A FileFault
or_fault fault (Some x) = Ok x
or_fault fault None = Err fault

-- The result `wanted` is this fault. For the fault `NoMemory`, nothing is claimed.
abbrev pub FailsAs : {Y : Type 0} → FileFault → Result Y FileFault → Type 0
FailsAs NoMemory wanted = Unit {0}
FailsAs NotJson wanted = wanted ≡ Err NotJson
FailsAs Member wanted = wanted ≡ Err Member
FailsAs (Piece part i) wanted = wanted ≡ Err (Piece part i)
FailsAs Limit wanted = wanted ≡ Err Limit

-- The reader's result, converted by `seen`, is `wanted`. If memory was refused, nothing is claimed.
abbrev pub Gives : {X Y : Type 0} → (X → Y) → Result X FileFault → Result Y FileFault → Type 0
Gives seen (Ok x) wanted = wanted ≡ Ok (seen x)
Gives seen (Err e) wanted = FailsAs e wanted
