use Rattle.std.proofs.Common.{◌≡◌, Ok, subst, sym}
use Rattle.piece_files.specs.Faults.{FailsAs}
use Rattle.txn_files.specs.ScriptFile.{scripts_of}
use Rattle.judge_engine.specs.Outcomes.{FailsForScripts}
use Rattle.judge_engine.proofs.Telling.{fails_scripts}
use Rattle.judge_engine.proofs.outcomes.scripts_in.Goals as goal

pub returns-in-Ok-read_scripts-clause-ok : goal.returns-in-Ok-read_scripts-clause-ok
returns-in-Ok-read_scripts-clause-ok g c =
    (c.in-Ok.bytes.items, c.in-Ok.ensures, subst (λ b. scripts_of b ≡ Ok c.in-Ok-read_scripts.work) c.deref.ensures.value c.in-Ok-read_scripts.ensures)

pub returns-clause-err : goal.returns-clause-err
returns-clause-err g c =
    subst (FailsForScripts (g.R.Read.remaining c.args.input)) (sym c.of_scripts.ensures)
    (fails_scripts (g.R.Read.remaining c.args.input) c.in-Ok.bytes.items c.in-Err.fault c.in-Ok.ensures
    (subst (λ b. FailsAs c.in-Err.fault (scripts_of b)) c.deref.ensures.value c.in-Err.ensures))
