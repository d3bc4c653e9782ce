use Rattle.std.specs.Prelude.{◌≡◌, ◌∷◌, Some, take, replicate}
use Rattle.txn_words.specs.declared.entry.Entry.TheVariants.{Aborted}
use Rattle.striped_map.specs.Gathered.{entries_in, written, written_from}
use Rattle.striped_map.specs.Records.{spread}
use Rattle.striped_map.proofs.gather.history_of.Given as goal

abbrev pub invariant-loop-place : goal.invariant-loop-place
invariant-loop-place l = l.table.items ≡ written_from 1 (written (replicate (entries_in (Some l.own ∷ l.theirs.items)) (Aborted 0)) (spread 0 l.own.items)) (take l.place l.theirs.items)
