-- The faults of the judge.
use Rattle.std.specs.Prelude.{ℕ, List, ◌++◌, codes, decimal}
use Rattle.piece_files.specs.Faults.{words_of}
use Rattle.piece_files.specs.declared.file_fault.FileFault.{FileFault}
use Rattle.piece_files.specs.declared.file_fault.FileFault.TheVariants as files
use Rattle.judge_engine.specs.declared.fault.Fault.{Fault}
use Rattle.judge_engine.specs.declared.fault.Fault.TheVariants.{Input, Line, NoMemory, Read, Write}

-- The judge's exit status after this fault.
abbrev pub status_of : Fault → ℕ
status_of (Input fault) = 3
status_of (Line number fault) = 3
status_of NoMemory = 4
status_of Read = 4
status_of Write = 4

-- The message of a fault.
abbrev pub message_of : Fault → List ℕ
message_of (Input fault) = codes "refused " ++ words_of fault
message_of (Line number fault) =
    codes "refused " ++ (words_of fault ++ (codes " line " ++ decimal number))
message_of NoMemory = codes "no memory"
message_of Read = codes "read failed"
message_of Write = codes "write failed"

-- `NoMemory` if memory was refused, else the fault of the file.
abbrev pub of_file : FileFault → Fault
of_file files.NoMemory = NoMemory
of_file files.NotJson = Input files.NotJson
of_file files.Member = Input files.Member
of_file (files.Piece part i) = Input (files.Piece part i)
of_file files.Limit = Input files.Limit

-- The faults with which reading may fail.
abbrev pub IsReadFault : Fault → Type 0
IsReadFault NoMemory = Unit {0}
IsReadFault Read = Unit {0}
IsReadFault (Input fault) = ⊥
IsReadFault (Line number fault) = ⊥
IsReadFault Write = ⊥
