use Rattle.std.proofs.Common.{map, sym, ap, subst, ◌∙◌, arith}
use Rattle.piece_files.specs.Faults.{◌>>=◌, FailsAs, Gives, or_fault}
use Rattle.piece_files.specs.Files.{FileKind, contents_of}
use Rattle.piece_files.specs.Pieces.{pieces_member, old_of}
use Rattle.piece_files.specs.declared.file_fault.FileFault.TheVariants.{NotJson}
use Rattle.piece_files.proofs.Read.{json_of-is, json_of-unread, json_of-long}
use Rattle.piece_files.proofs.Whole.{fails_first, gives_fault, finds_pieces, contents_are}
use Rattle.piece_files.proofs.file.read_file.Goals as goal

pub returns-then-bytes-gt-MAX_BYTES-clause-contents : goal.returns-then-bytes-gt-MAX_BYTES-clause-contents
returns-then-bytes-gt-MAX_BYTES-clause-contents g c =
    let kind : FileKind _ = record { numbers = map (λ name. name.now) c.args.numbers.now; pieces = c.args.pieces.now; of = g.K.PieceKind.of; is_old = g.K.PieceKind.is_old; part = g.K.PieceKind.part; most = g.K.PieceKind.most } in
    ap (λ r. r >>= contents_of kind) (json_of-long c.args.bytes.now (omega arith))

pub returns-in_default-clause-contents : goal.returns-in_default-clause-contents
returns-in_default-clause-contents g c =
    let kind : FileKind _ = record { numbers = map (λ name. name.now) c.args.numbers.now; pieces = c.args.pieces.now; of = g.K.PieceKind.of; is_old = g.K.PieceKind.is_old; part = g.K.PieceKind.part; most = g.K.PieceKind.most } in
    ap (λ r. r >>= contents_of kind) (json_of-unread c.args.bytes.now (omega arith) (λ text. absurd (c.in_default.ensures.cases.0 text)))

pub returns-in_err-found-clause-contents : goal.returns-in_err-found-clause-contents
returns-in_err-found-clause-contents g c =
    let is = json_of-is c.args.bytes.now c.in-Ok.text.now (omega arith) c.in-Ok.ensures.cases.1 c.in-Ok.ensures.cases.0 in
    let fault = c.in_err-found.field-0.0 in
    gives_fault _ c.from_residual.result fault _ c.from_residual.ensures.1 (fails_first fault _ _ (subst (FailsAs fault) (sym is) c.in_err-found.ensures))

pub returns-clause-contents : goal.returns-clause-contents
returns-clause-contents g c =
    let kind : FileKind _ = record { numbers = map (λ name. name.now) c.args.numbers.now; pieces = c.args.pieces.now; of = g.K.PieceKind.of; is_old = g.K.PieceKind.is_old; part = g.K.PieceKind.part; most = g.K.PieceKind.most } in
    let is = json_of-is c.args.bytes.now c.in-Ok.text.now (omega arith) c.in-Ok.ensures.cases.1 c.in-Ok.ensures.cases.0 in
    let f = c.in_ok-found.found in
    let w = c.in_ok-found.ensures in
    let same = ap (λ r. r >>= contents_of kind) (is ∙ ap (or_fault NotJson) w.1) ∙ contents_are kind f.version f.numbers f.pieces w.0 w.2 in
    let all = c.contents_found.ensures (pieces_member (old_of kind.is_old kind.of) kind.part kind.pieces w.0) (pieces_member kind.of kind.part kind.pieces w.0) (finds_pieces kind f.version f.numbers f.pieces w.0 w.2) in
    subst (Gives _ c.contents_found.result) (sym same) all
