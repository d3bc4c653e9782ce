use Rattle.std.proofs.Common.{◌≡◌, bytes_eq, Some, true, false, sym, ◌∙◌, arith}
use Rattle.piece_files.specs.Files.{version}
use Rattle.piece_files.specs.Members.{kind_named}
use Rattle.piece_files.specs.Plain.{data_of}
use Rattle.piece_files.proofs.PlainLemmas.{its_some}
use Rattle.piece_files.proofs.MemberLemmas.{apart_of, position-map, take_version, take_pieces, take_number, take_other}
use Rattle.piece_files.proofs.plain_members.take_plain_member.Goals as goal

pub returns-then-eq-clause-taken : goal.returns-then-eq-clause-taken
returns-then-eq-clause-taken g c =
    let kind = kind_named c.args.names g.K.PieceKind.of g.K.PieceKind.is_old g.K.PieceKind.part g.K.PieceKind.most in
    let f = c.args.found.now in
    let key = c.args.key.now in
    let same : bytes_eq key kind.pieces ≡ true = grind arith in
    let w = its_some _ c.in_ok-pieces.field-0 c.in-Some.pieces c.in-Some.is c.in_ok-pieces.ensures.pieces in
    λ ok. (w.0, w.1, λ ms h. take_pieces kind (apart_of kind c.requires.apart) f.version f.numbers f.pieces key w.0 ms same (Some c.in-Some.pieces) w.2 h)

pub returns-then-eq-2-clause-taken : goal.returns-then-eq-2-clause-taken
returns-then-eq-2-clause-taken g c =
    let kind = kind_named c.args.names g.K.PieceKind.of g.K.PieceKind.is_old g.K.PieceKind.part g.K.PieceKind.most in
    let f = c.args.found.now in
    let key = c.args.key.now in
    let d = data_of c.in-Some-plain_at.value in
    let same : bytes_eq key version ≡ true = grind arith in
    λ ok. (d, c.in-Some-plain_at.ensures.value 126, λ ms h. take_version kind (apart_of kind c.requires.apart) f.version f.numbers f.pieces key d ms same c.number-number.result c.number-number.ensures h)

pub returns-in-Some-place_of-clause-taken : goal.returns-in-Some-place_of-clause-taken
returns-in-Some-place_of-clause-taken g c =
    let kind = kind_named c.args.names g.K.PieceKind.of g.K.PieceKind.is_old g.K.PieceKind.part g.K.PieceKind.most in
    let f = c.args.found.now in
    let key = c.args.key.now in
    let d = data_of c.in-Some-plain_at.value in
    let no_version : bytes_eq key version ≡ false = grind arith in
    let no_pieces : bytes_eq key kind.pieces ≡ false = grind arith in
    let at = sym (position-map (λ name. bytes_eq name key) (λ name. name.now) c.args.names.numbers.now) ∙ sym c.place_of.ensures ∙ c.in-Some-place_of.is in
    λ ok. (d, c.in-Some-plain_at.ensures.value 126, λ ms h. take_number kind (apart_of kind c.requires.apart) f.version f.numbers f.pieces key d ms no_version no_pieces c.in-Some-place_of.place at c.number-number.result c.number-number.ensures h)

pub returns-in_default-place_of-clause-taken : goal.returns-in_default-place_of-clause-taken
returns-in_default-place_of-clause-taken g c =
    let kind = kind_named c.args.names g.K.PieceKind.of g.K.PieceKind.is_old g.K.PieceKind.part g.K.PieceKind.most in
    let f = c.args.found.now in
    let key = c.args.key.now in
    let d = data_of c.in-Some-plain_at.value in
    let no_version : bytes_eq key version ≡ false = grind arith in
    let no_pieces : bytes_eq key kind.pieces ≡ false = grind arith in
    let at = sym (position-map (λ name. bytes_eq name key) (λ name. name.now) c.args.names.numbers.now) ∙ sym c.place_of.ensures ∙ c.in_default-place_of.is in
    λ ok. (d, c.in-Some-plain_at.ensures.value 126, λ ms h. take_other kind (apart_of kind c.requires.apart) f.version f.numbers f.pieces key d ms no_version no_pieces at h)
