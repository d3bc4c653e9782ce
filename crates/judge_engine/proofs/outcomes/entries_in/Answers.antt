use Rattle.std.proofs.Common.{◌≡◌, Ok, subst, sym}
use Rattle.piece_files.specs.Faults.{FailsAs}
use Rattle.txn_files.specs.HistoryFile.{history_of}
use Rattle.judge_engine.specs.Outcomes.{FailsForHistory}
use Rattle.judge_engine.proofs.Telling.{fails_history}
use Rattle.judge_engine.proofs.outcomes.entries_in.Goals as goal

pub returns-in-Ok-read_packed_history-clause-ok : goal.returns-in-Ok-read_packed_history-clause-ok
returns-in-Ok-read_packed_history-clause-ok g c =
    (c.in-Ok.bytes.items, c.in-Ok.ensures, (c.in-Ok-read_packed_history.field-0-0, c.in-Ok-read_packed_history.field-0-2, subst (λ b. history_of b ≡ Ok (c.in-Ok-read_packed_history.field-0-0, c.in-Ok-read_packed_history.entries.items, c.in-Ok-read_packed_history.field-0-2)) c.deref.ensures.value c.in-Ok-read_packed_history.ensures))

pub returns-clause-err : goal.returns-clause-err
returns-clause-err g c =
    subst (FailsForHistory (g.R.Read.remaining c.args.input)) (sym c.of_history.ensures)
    (fails_history (g.R.Read.remaining c.args.input) c.in-Ok.bytes.items c.in-Err.fault c.in-Ok.ensures
    (subst (λ b. FailsAs c.in-Err.fault (history_of b)) c.deref.ensures.value c.in-Err.ensures))
