use Rattle.std.proofs.Common.{◌≡◌, bytes_eq, true, false, sym, ◌∙◌, arith}
use Rattle.piece_files.specs.Files.{version}
use Rattle.piece_files.specs.Members.{kind_named}
use Rattle.piece_files.proofs.MemberLemmas.{apart_of, position-map, take_version, take_pieces, take_number, take_other}
use Rattle.piece_files.proofs.members.take_member.Goals as goal

pub returns-in_ok-found-clause-ok : goal.returns-in_ok-found-clause-ok
returns-in_ok-found-clause-ok g c =
    let kind = kind_named c.args.names g.K.PieceKind.of g.K.PieceKind.is_old g.K.PieceKind.part g.K.PieceKind.most in
    let w = c.in_ok-found.ensures.ok in
    let f = c.args.found.now in
    let key = c.args.key.now in
    let same : bytes_eq key version ≡ true = grind arith in
    (w.0, w.1, λ ms h. take_version kind (apart_of kind c.requires.apart) f.version f.numbers f.pieces key w.0 ms same c.in_ok-found.field-0 w.2 h)

pub returns-in_ok-found-2-clause-ok : goal.returns-in_ok-found-2-clause-ok
returns-in_ok-found-2-clause-ok g c =
    let kind = kind_named c.args.names g.K.PieceKind.of g.K.PieceKind.is_old g.K.PieceKind.part g.K.PieceKind.most in
    let w = c.in_ok-found-2.ensures.ok in
    let f = c.args.found.now in
    let key = c.args.key.now in
    let same : bytes_eq key kind.pieces ≡ true = grind arith in
    (w.0, w.1, λ ms h. take_pieces kind (apart_of kind c.requires.apart) f.version f.numbers f.pieces key w.0 ms same c.in_ok-found-2.field-0 w.2 h)

pub returns-in_ok-found-3-clause-ok : goal.returns-in_ok-found-3-clause-ok
returns-in_ok-found-3-clause-ok g c =
    let kind = kind_named c.args.names g.K.PieceKind.of g.K.PieceKind.is_old g.K.PieceKind.part g.K.PieceKind.most in
    let w = c.in_ok-found-3.ensures.ok in
    let f = c.args.found.now in
    let key = c.args.key.now in
    let no_version : bytes_eq key version ≡ false = grind arith in
    let no_pieces : bytes_eq key kind.pieces ≡ false = grind arith in
    let at = sym (position-map (λ name. bytes_eq name key) (λ name. name.now) c.args.names.numbers.now) ∙ sym c.place_of.ensures ∙ c.in-Some.is in
    (w.0, w.1, λ ms h. take_number kind (apart_of kind c.requires.apart) f.version f.numbers f.pieces key w.0 ms no_version no_pieces c.in-Some.place at c.in_ok-found-3.field-0 w.2 h)

pub returns-in_ok-pass_value-clause-ok : goal.returns-in_ok-pass_value-clause-ok
returns-in_ok-pass_value-clause-ok g c =
    let kind = kind_named c.args.names g.K.PieceKind.of g.K.PieceKind.is_old g.K.PieceKind.part g.K.PieceKind.most in
    let w = c.in_ok-pass_value.ensures.ok in
    let f = c.args.found.now in
    let key = c.args.key.now in
    let no_version : bytes_eq key version ≡ false = grind arith in
    let no_pieces : bytes_eq key kind.pieces ≡ false = grind arith in
    let at = sym (position-map (λ name. bytes_eq name key) (λ name. name.now) c.args.names.numbers.now) ∙ sym c.place_of.ensures ∙ c.in_default.is in
    (w.0, w.1, λ ms h. take_other kind (apart_of kind c.requires.apart) f.version f.numbers f.pieces key w.0 ms no_version no_pieces at h)
