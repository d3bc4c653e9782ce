use Rattle.txn_files.specs.Actions.{script_of}
use Rattle.txn_files.proofs.script_file.ScriptKindPieceKind.read.Goals as goal

pub returns-clause-ok : goal.returns-clause-ok
unfolding script_of
returns-clause-ok c =
    let w = c.in_ok-found.ensures.ok in
    (w.0, w.1, c.script_in.ensures _ _ w.2)
