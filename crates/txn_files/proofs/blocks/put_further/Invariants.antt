use Rattle.std.proofs.Common.{◌≡◌, ◌++◌, length}
use Rattle.txn_files.specs.HistoryLine.{further_text}
use Rattle.txn_files.proofs.blocks.put_further.Given as goal

abbrev pub invariant-loop-entry : goal.invariant-loop-entry
invariant-loop-entry l =
    l.block ++ further_text l.rest ≡ l.fn.block ++ further_text l.fn.entries

abbrev pub decreases-loop-entry : goal.decreases-loop-entry
decreases-loop-entry l = length l.rest
