-- How a caller's member counts the ends of its transactions.
use Rattle.std.specs.Prelude.{◌+◌, ◌%◌, ◌^◌, Result, Ok, Err}
use Rattle.txn_words.specs.declared.stop.Stop.{Stop}
use Rattle.striped_map.specs.declared.runs.RunEnd.{RunEnd}
use Rattle.striped_map.specs.declared.runs.RunEnd.TheVariants.{Committed, Missed}
use Rattle.txn_words.specs.declared.stop.Stop.TheVariants.{Busy, Refused}
use Rattle.boostmap_c.specs.declared.counts.Counts.{Counts}

-- No transaction has ended.
abbrev pub none_ended : Counts
none_ended = record { commits = 0; aborts = 0; busy = 0 }

-- The counts after one more commit, and after one more abort.
abbrev pub committed : Counts → Counts
committed counts = record counts { commits = (counts.commits + 1) % 2 ^ 64 }

abbrev pub aborted : Counts → Counts
aborted counts = record counts { aborts = (counts.aborts + 1) % 2 ^ 64 }

-- The counts after a call that was not done, for this reason.
abbrev pub busied : Counts → Stop → Counts
busied counts (Busy holder) = record counts { busy = (counts.busy + 1) % 2 ^ 64 }
busied counts (Refused refusal) = counts

-- The counts after a call with this answer. `ends` gives them after a call that was done.
abbrev pub counted : {A : Type 0} → (Counts → Counts) → Counts → Result A Stop → Counts
counted ends counts (Ok done) = ends counts
counted ends counts (Err stop) = busied counts stop

-- A call that ends no transaction unless it is busy.
abbrev pub goes_on : Counts → Counts
goes_on counts = counts

-- The counts after a run with this answer. A run that was missed is an abort. One that memory was
-- refused to is not counted.
abbrev pub counted_run : Counts → Result RunEnd Stop → Counts
counted_run counts (Ok (Committed found)) = committed counts
counted_run counts (Ok Missed) = aborted counts
counted_run counts (Err stop) = busied counts stop
