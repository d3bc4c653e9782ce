use Rattle.std.proofs.Common.{map, ap, ◌∙◌}
use Rattle.piece_files.specs.Plain.{data_of}
use Rattle.piece_files.proofs.PlainLemmas.{always, piece_found}
use Rattle.piece_files.proofs.flat.FlatPieceKind.read_plain.Goals as goal

pub returns-clause-place : goal.returns-clause-place
returns-clause-place g c = always c.of.result c.in-Some.ensures.place

pub returns-clause-piece : goal.returns-clause-piece
returns-clause-piece g c =
    let ds = map data_of c.elements_at.new.elements.items in
    piece_found g.K.FlatKind.of _ c.of.result ds (c.in-Some.ensures.elements _) (c.of.ensures ∙ ap (λ es. g.K.FlatKind.of (map data_of es)) c.deref.ensures.0)
