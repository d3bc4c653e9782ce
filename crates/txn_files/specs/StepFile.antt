-- PROMISES from-words-and-bytes-to-bytes: file_of
-- What bytes are when they are read as a step file: the file's content, or its first fault.
use Rattle.std.specs.Prelude.{ℕ, true, List, [], ◌∷◌, nat_le, Result, Ok, Err, if◌then◌else◌, codes}
use Rattle.txn_words.specs.Sizes.{Sizes, limits_of}
use Rattle.txn_words.specs.declared.refusal.Refusal.{Refusal}
use Rattle.txn_words.specs.declared.step.Step.{Step}
use Rattle.piece_files.specs.declared.part.Part.TheVariants as parts
use Rattle.piece_files.specs.declared.file_fault.FileFault.{FileFault}
use Rattle.piece_files.specs.declared.file_fault.FileFault.TheVariants.{Member, Limit}
use Rattle.piece_files.specs.Faults.{◌>>=◌}
use Rattle.piece_files.specs.Files.{FileKind, contents}
use Rattle.piece_files.specs.Pieces.{in_version}
use Rattle.txn_files.specs.Steps.{is_old_step, step_of}

-- The most steps that a file may have.
abbrev pub max_steps : ℕ
max_steps = 1000000

-- The file kind of step files.
abbrev pub step_file : FileKind Step
step_file = record {
  numbers = codes "callers" ∷ codes "stripes" ∷ codes "buckets" ∷ [];
  pieces = codes "steps";
  of = step_of;
  is_old = is_old_step;
  part = parts.Step;
  most = max_steps;
}

abbrev in_limits : Result Sizes Refusal → Result Sizes FileFault
in_limits (Ok sizes) = Ok sizes
in_limits (Err refusal) = Err Limit

-- The given limits, for a file of this version. In version 1 they allow only half keys, which are
-- the keys below 2^63.
abbrev pub with_keys_of : ℕ → Sizes → Sizes
with_keys_of version sizes = in_version version (record sizes { half = true }) sizes

-- The last version of step files and script files.
abbrev pub max_run_version : ℕ
max_run_version = 2

-- Makes limits from the numbers of a step file or script file. If the version or a number is out of
-- range, the result is the fault `Limit`.
abbrev pub sizes_at : ℕ → ℕ → ℕ → ℕ → Result Sizes FileFault
sizes_at version callers stripes buckets =
    if nat_le version max_run_version then
    (in_limits (limits_of callers stripes buckets) >>= λ sizes. Ok (with_keys_of version sizes))
    else Err Limit

-- Makes the content of a step file, which is its limits and its steps, from its version, its three
-- numbers and its steps.
unfoldable pub steps_from : ℕ → List ℕ → List Step → Result (Sizes × List Step) FileFault
steps_from version (callers ∷ stripes ∷ buckets ∷ []) steps =
    sizes_at version callers stripes buckets >>= λ sizes. Ok (sizes, steps)
steps_from version other steps = Err Member

-- Reads the bytes as a step file. The result is its limits and its steps, or the first fault.
abbrev pub file_of : List ℕ → Result (Sizes × List Step) FileFault
file_of bytes = contents step_file bytes >>= λ file. steps_from file.0 file.1 file.2
