use Rattle.std.proofs.Common.{◌≡◌, ℕ, ◌≤◌, length}
use Rattle.json.specs.Json.{members, value}
use Rattle.serde_json.specs.Data.{Members}
use Rattle.serde_json.specs.Read.{of_members, converted}
use Rattle.piece_files.specs.Tokens.{members_at}
use Rattle.piece_files.specs.Members.{AreFound, kind_named}
use Rattle.piece_files.proofs.members.take_members.Given as goal

abbrev pub invariant-members : goal.invariant-members
invariant-members g l =
    (n : ℕ) × (old : Members) × (length l.reader ≤ n)
    × (members_at l.depth l.initial.reader ≡ converted (λ ms. of_members ms old) (members (value l.depth) n l.reader))
    × AreFound (kind_named l.names g.K.PieceKind.of g.K.PieceKind.is_old g.K.PieceKind.part g.K.PieceKind.most) l.found.version l.found.numbers l.found.pieces old

abbrev pub decreases-members : goal.decreases-members
decreases-members g l = length l.reader
