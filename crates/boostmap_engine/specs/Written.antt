-- PROMISES from-words-and-bytes-to-bytes: LeavesOutput
-- What an engine reads and writes, for any kind of text.
use Rattle.std.specs.Prelude.{ℕ, List, Option}
use Rattle.std.specs.Io.KnownBytes.{Appends, Keeps}
use Rattle.txn_files.specs.FileFault.{FileFault}
use Rattle.txn_files.specs.Output.{AppendsPart}
pub use Rattle.txn_files.specs.Reading.{IsRead}
use Rattle.boostmap_engine.specs.declared.fault.Fault.{Fault}
use Rattle.boostmap_engine.specs.declared.fault.Fault.TheVariants as faults

-- The output after writing a text has failed. If a write failed, the output grew by a proper prefix
-- of the text. If memory was refused, the output is unchanged.
abbrev pub LeavesText : Option (List ℕ) → Option (List ℕ) → List ℕ → Fault → Type 0
LeavesText old new text faults.Write = AppendsPart old new text
LeavesText old new text faults.NoMemory = Keeps old new
LeavesText old new text (faults.Input fault) = ⊥
LeavesText old new text faults.Usage = ⊥
LeavesText old new text faults.NoThread = ⊥
LeavesText old new text faults.Read = ⊥
LeavesText old new text faults.OutOfStep = ⊥

-- The reason why no text was made from the bytes: they are not a file of the right kind, or memory
-- was refused.
abbrev pub HasNone : (List ℕ → FileFault → Type 0) → List ℕ → Fault → Type 0
HasNone IsRefused bytes (faults.Input fault) = IsRefused bytes fault
HasNone IsRefused bytes faults.NoMemory = Unit {0}
HasNone IsRefused bytes faults.Usage = ⊥
HasNone IsRefused bytes faults.NoThread = ⊥
HasNone IsRefused bytes faults.Read = ⊥
HasNone IsRefused bytes faults.Write = ⊥
HasNone IsRefused bytes faults.OutOfStep = ⊥

-- The output grew by a text that belongs to the bytes that were read.
abbrev pub WritesTextOf : (List ℕ → List ℕ → Type 0) → Option (List ℕ) → Option (List ℕ)
    → Option (List ℕ) → Type 0
WritesTextOf IsTextOf remaining old new =
    (bytes : List ℕ) × (text : List ℕ) × IsRead remaining bytes × IsTextOf bytes text
    × Appends old new text

-- The output after a fault. If a write failed, the output grew by a proper prefix of a text that
-- belongs to the bytes that were read. Otherwise nothing was written.
abbrev pub LeavesOutput : (List ℕ → List ℕ → Type 0) → (List ℕ → FileFault → Type 0)
    → Option (List ℕ) → Option (List ℕ) → Option (List ℕ) → Fault → Type 0
LeavesOutput IsTextOf IsRefused remaining old new (faults.Input fault) =
    (bytes : List ℕ) × IsRead remaining bytes × IsRefused bytes fault × Keeps old new
LeavesOutput IsTextOf IsRefused remaining old new faults.NoMemory = Keeps old new
LeavesOutput IsTextOf IsRefused remaining old new faults.Read = Keeps old new
LeavesOutput IsTextOf IsRefused remaining old new faults.Write =
    (bytes : List ℕ) × (text : List ℕ) × IsRead remaining bytes × IsTextOf bytes text
    × AppendsPart old new text
LeavesOutput IsTextOf IsRefused remaining old new faults.Usage = ⊥
LeavesOutput IsTextOf IsRefused remaining old new faults.NoThread = ⊥
LeavesOutput IsTextOf IsRefused remaining old new faults.OutOfStep = ⊥
