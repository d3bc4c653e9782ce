-- The number of transactions that have begun and the number of those that have committed, after a
-- step with this answer.
use Rattle.boost_core.specs.Vocabulary.{Answer}
use Rattle.boost_core.specs.declared.counts.Counts.{Counts}

abbrev pub counts_after : Counts → Answer → Counts
counts_after counts (Answer.Began n) = record counts { began = n }
counts_after counts (Answer.Committed n) = record counts { committed = n }
counts_after counts answer = counts
