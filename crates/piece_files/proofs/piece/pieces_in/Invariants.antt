use Rattle.std.proofs.Common.{◌≡◌, ℕ, ◌^◌, ◌<◌, ◌≤◌, List, length}
use Rattle.json.specs.Json.{items, value, parse_map}
use Rattle.serde_json.specs.Data.{Data}
use Rattle.serde_json.specs.Read.{of_items, converted}
use Rattle.piece_files.specs.Tokens.{items_at}
use Rattle.piece_files.proofs.ElementLists.{before}
use Rattle.piece_files.proofs.Loop.{IsRead, OldRead}
use Rattle.piece_files.proofs.piece.pieces_in.Given as goal

abbrev pub invariant-pieces : goal.invariant-pieces
invariant-pieces g l =
    (n : ℕ) × (ds : List Data) × (length l.reader ≤ n)
    × (items_at l.depth l.initial.reader ≡ parse_map (before ds) (converted of_items (items (value l.depth) n l.reader)))
    × (length l.reader ≤ length l.initial.reader)
    × (l.count < 2 ^ 64)
    × IsRead g.K.PieceKind.of g.K.PieceKind.part g.K.PieceKind.most l.are_all l.pieces.items l.count ds
    × OldRead g.K.PieceKind.of g.K.PieceKind.is_old g.K.PieceKind.part l.first_new ds

abbrev pub decreases-pieces : goal.decreases-pieces
decreases-pieces g l = length l.reader
