-- PROMISES from-words-and-bytes-to-bytes: scripts_of
-- Bytes as a script file: its content, or the first fault.
use Rattle.std.specs.Prelude.{ℕ, List, [], ◌∷◌, length, Bool, ◌&&◌, nat_le, Result, Ok, Err, if◌then◌else◌, codes}
use Rattle.std.specs.List.{list_all}
use Rattle.txn_words.specs.declared.action.Action.{Action}
use Rattle.piece_files.specs.declared.part.Part.TheVariants as parts
use Rattle.piece_files.specs.declared.file_fault.FileFault.{FileFault}
use Rattle.piece_files.specs.declared.file_fault.FileFault.TheVariants.{Member, Limit}
use Rattle.piece_files.specs.Faults.{◌>>=◌}
use Rattle.piece_files.specs.Files.{FileKind, contents}
use Rattle.txn_files.specs.StepFile.{sizes_at}
use Rattle.txn_files.specs.Actions.{is_old_script, script_of}
use Rattle.txn_words.specs.Work.{Work}

-- The greatest number of times that a script may be tried again.
abbrev pub max_tries : ℕ
max_tries = 1000

-- The most scripts that a file may have.
abbrev pub max_scripts : ℕ
max_scripts = 10000

-- The most actions that a script may have.
abbrev pub max_actions : ℕ
max_actions = 10000

-- The file kind of script files.
abbrev pub script_file : FileKind (List Action)
script_file = record {
  numbers = codes "workers" ∷ codes "stripes" ∷ codes "buckets" ∷ codes "tries" ∷ [];
  pieces = codes "scripts";
  of = script_of;
  is_old = is_old_script;
  part = parts.Script;
  most = max_scripts;
}

-- True if a script has no more actions than a script may have.
abbrev pub is_short : List Action → Bool
is_short script = nat_le (length script) max_actions

-- True if the number of tries and the lengths of the scripts are in range.
abbrev pub are_scripts : ℕ → List (List Action) → Bool
are_scripts tries scripts = nat_le tries max_tries && list_all is_short scripts

-- Makes the work of a script file from its version, its four numbers and its scripts. The number of
-- workers is the number of callers in the limits.
unfoldable pub work_from : ℕ → List ℕ → List (List Action) → Result Work FileFault
work_from version (workers ∷ stripes ∷ buckets ∷ tries ∷ []) scripts = do
  sizes ← sizes_at version workers stripes buckets
  if are_scripts tries scripts
      then Ok (record { version = version; sizes = sizes; tries = tries; scripts = scripts })
      else Err Limit
work_from version other scripts = Err Member

-- Reads the bytes as a script file. The result is its work, or the first fault.
abbrev pub scripts_of : List ℕ → Result Work FileFault
scripts_of bytes = contents script_file bytes >>= λ file. work_from file.0 file.1 file.2
