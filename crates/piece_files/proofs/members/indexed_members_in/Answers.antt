use Rattle.std.proofs.Common.{◌≡◌, length, arith}
use Rattle.std.proofs.lemmas.List.{length-map}
use Rattle.piece_files.specs.Members.{kind_named}
use Rattle.piece_files.proofs.MemberLemmas.{nothing_found}
use Rattle.piece_files.proofs.members.indexed_members_in.Goals as goal

pub take_value-requires : goal.take_value-requires
take_value-requires g c =
    let kind = kind_named c.args.names g.K.PieceKind.of g.K.PieceKind.is_old g.K.PieceKind.part g.K.PieceKind.most in
    let same : length kind.numbers ≡ g.row.N = rw length-map c.requires.many in
    (omega arith, (c.requires.many, (c.requires.apart, rw (c.nothing_found-found.ensures.version, c.nothing_found-found.ensures.numbers, c.nothing_found-found.ensures.pieces) (nothing_found kind g.row.N same))))
