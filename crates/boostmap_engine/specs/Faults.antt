-- The faults of the program.
use Rattle.std.specs.Prelude.{ℕ, List, ◌++◌, codes}
use Rattle.txn_files.specs.Faults.{words_of}
use Rattle.txn_files.specs.FileFault.{FileFault}
use Rattle.txn_files.specs.FileFault.TheVariants as files
use Rattle.boostmap_engine.specs.declared.fault.TheConstants.{USAGE}
use Rattle.boostmap_engine.specs.declared.fault.Fault.{Fault}
use Rattle.boostmap_engine.specs.declared.fault.Fault.TheVariants.{Usage, Input, NoMemory, NoThread, Read, Write, OutOfStep}

-- The program's exit status after this fault.
abbrev pub status_of : Fault → ℕ
status_of Usage = 2
status_of (Input fault) = 3
status_of NoMemory = 4
status_of NoThread = 4
status_of Read = 4
status_of Write = 4
status_of OutOfStep = 4

-- The text that is printed on standard error for a fault.
abbrev pub message_of : Fault → List ℕ
message_of Usage = USAGE.now
message_of (Input fault) = codes "refused " ++ words_of fault
message_of NoMemory = codes "no memory"
message_of NoThread = codes "no thread"
message_of Read = codes "read failed"
message_of Write = codes "write failed"
message_of OutOfStep = codes "out of step"

-- The program's fault if a file cannot be read because of this `FileFault`. The result is
-- `NoMemory` if memory was refused, and `Input` otherwise.
abbrev pub of_file : FileFault → Fault
of_file files.NoMemory = NoMemory
of_file files.NotJson = Input files.NotJson
of_file files.Member = Input files.Member
of_file (files.Piece part i) = Input (files.Piece part i)
of_file files.Limit = Input files.Limit

-- The faults that reading the input may have: `Read` and `NoMemory`.
abbrev pub IsReadFault : Fault → Type 0
IsReadFault Read = Unit {0}
IsReadFault NoMemory = Unit {0}
IsReadFault Usage = ⊥
IsReadFault (Input fault) = ⊥
IsReadFault NoThread = ⊥
IsReadFault Write = ⊥
IsReadFault OutOfStep = ⊥
