use Rattle.std.proofs.Common.{◌≤◌, ◌-◌, List, true, length, drop}
use Rattle.serde_json.specs.Data.{Data}
use Rattle.piece_files.specs.PlainBytes.{AreTaken}
use Rattle.piece_files.proofs.Loop.{IsRead, OldRead}
use Rattle.piece_files.proofs.plain_pieces.pieces_at.Given as goal

abbrev pub invariant-pieces : goal.invariant-pieces
invariant-pieces g l =
    (ds : List Data) × (l.initial.at ≤ l.here) × (l.here ≤ length l.text)
    × AreTaken l.depth (drop l.initial.at l.text) ds (drop l.here l.text)
    × IsRead g.K.PieceKind.of g.K.PieceKind.part g.K.PieceKind.most true l.pieces.items (length l.pieces.items) ds
    × OldRead g.K.PieceKind.of g.K.PieceKind.is_old g.K.PieceKind.part l.first_new ds

abbrev pub decreases-pieces : goal.decreases-pieces
decreases-pieces g l = length l.text - l.here
