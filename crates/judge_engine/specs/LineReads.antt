-- What reading a line does to a judge.
use Rattle.std.specs.Prelude.{◌≡◌, List, [], ◌∷◌, ◌++◌, Option, Some, None, Result, Ok, Err}
use Rattle.txn_words.specs.declared.entry.Entry.{Entry}
use Rattle.piece_files.specs.declared.file_fault.FileFault.{FileFault}
use Rattle.judge_engine.specs.declared.basis.Basis.{Basis}
use Rattle.judge_engine.specs.declared.judge.Judge.{Judge}
use Rattle.judge_engine.specs.Bases.{IsFedBy}

-- The entries of a line: one entry, or none if the line is blank.
abbrev pub those : Option Entry → List Entry
those None = []
those (Some entry) = entry ∷ []

-- Either the judge was fed the entries `h` and then the entries of the line, or the line is refused
-- with this fault and the judge was fed only the entries `h`.
abbrev pub ReadsLine : Basis → List Entry → Result (Option Entry) FileFault → Option FileFault
    → Judge → Type 0
ReadsLine basis h line None judge =
    (found : Option Entry) × (line ≡ Ok found) × IsFedBy basis (h ++ those found) judge
ReadsLine basis h line (Some fault) judge = (line ≡ Err fault) × IsFedBy basis h judge
