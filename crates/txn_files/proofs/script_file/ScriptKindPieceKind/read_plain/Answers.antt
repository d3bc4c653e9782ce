use Rattle.piece_files.proofs.PlainLemmas.{always, its_some, piece_found}
use Rattle.txn_files.specs.Actions.{script_of}
use Rattle.txn_files.proofs.script_file.ScriptKindPieceKind.read_plain.Goals as goal

pub returns-clause-place : goal.returns-clause-place
returns-clause-place c = always c.script_in.result (its_some _ c.in_ok-found.field-0 c.in-Some.found c.in-Some.is c.in_ok-found.ensures.place)

pub returns-clause-piece : goal.returns-clause-piece
unfolding script_of
returns-clause-piece c =
    let w = its_some _ c.in_ok-found.field-0 c.in-Some.found c.in-Some.is c.in_ok-found.ensures.pieces in
    piece_found script_of _ c.script_in.result w.0 w.1 (c.script_in.ensures _ _ w.2)
