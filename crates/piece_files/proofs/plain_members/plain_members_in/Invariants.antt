use Rattle.std.proofs.Common.{◌≤◌, ◌-◌, length, drop}
use Rattle.serde_json.specs.Data.{Members}
use Rattle.piece_files.specs.Members.{AreFound, kind_named}
use Rattle.piece_files.specs.PlainBytes.{AreMembersTaken}
use Rattle.piece_files.proofs.plain_members.plain_members_in.Given as goal

abbrev pub invariant-members : goal.invariant-members
invariant-members g l =
    (ms : Members) × (l.at ≤ length l.text)
    × AreMembersTaken l.text ms (drop l.at l.text)
    × AreFound (kind_named l.names g.K.PieceKind.of g.K.PieceKind.is_old g.K.PieceKind.part g.K.PieceKind.most) l.found.version l.found.numbers l.found.pieces ms

abbrev pub decreases-members : goal.decreases-members
decreases-members g l = length l.text - l.at
