use Rattle.std.proofs.Common.{◌≡◌, ◌++◌, ℕ, List, length}
use Rattle.std.specs.Io.KnownBytes.{Appends}
use Rattle.txn_files.specs.HistoryText.{text_of_history}
use Rattle.boostmap_engine.specs.Report.{line}
use Rattle.boostmap_engine.proofs.output.write_history.Given as goal

abbrev pub invariant-loop-blocks : goal.invariant-loop-blocks
invariant-loop-blocks g l =
    (done : List ℕ) × (line (text_of_history l.fn.version l.fn.stripes l.fn.entries) ≡ done ++ l.blocks) × Appends (g.W.Write.contents l.fn.output) (g.W.Write.contents l.output) done

abbrev pub decreases-loop-blocks : goal.decreases-loop-blocks
decreases-loop-blocks g l = length l.blocks
