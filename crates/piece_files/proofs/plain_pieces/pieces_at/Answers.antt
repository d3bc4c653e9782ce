use Rattle.std.proofs.Common.{◌≡◌, ◌+◌, [], ◌∷◌, ◌++◌, Some, true, length, drop, refl, ap, subst, ◌∙◌, arith, length-append}
use Rattle.piece_files.specs.PlainBytes.{Closes, Comma}
use Rattle.piece_files.proofs.Loop.{nothing_read, keep_piece, nothing_old, piece_read_old}
use Rattle.piece_files.proofs.PlainLemmas.{its_some, nothing_taken, taken_to_bracket, taken_to_comma}
use Rattle.piece_files.proofs.plain_pieces.pieces_at.Goals as goal

pub pieces-init : goal.pieces-init
pieces-init g c =
    ([], omega arith, omega arith, nothing_taken c.args.depth (drop c.args.at.now c.args.text.now), rw c.in_ok-pieces.ensures.items (nothing_read g.K.PieceKind.of g.K.PieceKind.part g.K.PieceKind.most), nothing_old g.K.PieceKind.of g.K.PieceKind.is_old g.K.PieceKind.part)

pub pieces-preserved : goal.pieces-preserved
pieces-preserved g c =
    let l = c.pieces in
    let ds = l.invariant.0 in
    let text = c.args.text.now in
    let same = c.as_bytes-bytes.ensures.value in
    let here = c.piece_at.new.at in
    let next = c.in-Some-after_comma.next in
    let place = its_some _ c.in_ok-piece.field-0 c.in-Some.piece c.in-Some.is c.in_ok-piece.ensures.place in
    let w = its_some _ c.in_ok-piece.field-0 c.in-Some.piece c.in-Some.is c.in_ok-piece.ensures.piece in
    let comma = subst (λ b. Comma (drop here b) (drop next b)) same c.in-Some-after_comma.ensures.comma in
    let counted : c.len-count.result ≡ length l.pieces.items = omega (arith, c.len-count.ensures) in
    let longer : length c.push.new.self.items ≡ length l.pieces.items + 1 = ap length c.in_ok-push.ensures.items ∙ length-append l.pieces.items (c.in-Some.piece ∷ []) in (
      ds ++ w.0 ∷ [],
      omega (arith, l.invariant.1, place, c.in-Some-after_comma.ensures.place),
      omega (arith, c.in-Some-after_comma.ensures.place, ap length same),
      taken_to_comma c.args.depth (drop c.args.at.now text) (drop l.here text) (drop here text) (drop next text) ds w.0 l.invariant.3 w.1 comma,
      keep_piece g.K.PieceKind.of g.K.PieceKind.part g.K.PieceKind.most c.most-most.result true l.pieces.items c.push.new.self.items (length l.pieces.items) (length c.push.new.self.items) ds w.0 c.in-Some.piece (Some c.in-Some.piece) c.most-most.ensures refl (omega (arith, c.if-count-most.false, c.len-count.ensures)) c.in_ok-push.ensures.items longer refl w.2 l.invariant.4,
      rw (c.or-first_new.ensures, c.then_some.ensures, c.is_old.ensures, counted) (piece_read_old g.K.PieceKind.of g.K.PieceKind.is_old g.K.PieceKind.part g.K.PieceKind.most true l.pieces.items (length l.pieces.items) l.first_new ds w.0 c.in-Some.piece (Some c.in-Some.piece) refl refl w.2 l.invariant.4 l.invariant.5),
    )

pub returns-in_default-after_comma-clause-pieces : goal.returns-in_default-after_comma-clause-pieces
returns-in_default-after_comma-clause-pieces g c =
    let l = c.pieces in
    let ds = l.invariant.0 in
    let text = c.args.text.now in
    let same = c.as_bytes-bytes.ensures.value in
    let here = c.piece_at.new.at in
    let end = c.in-Some-after_bracket.end in
    let w = its_some _ c.in_ok-piece.field-0 c.in-Some.piece c.in-Some.is c.in_ok-piece.ensures.piece in
    let closes = subst (λ b. Closes (drop here b) (drop end b)) same c.in-Some-after_bracket.ensures.bracket in
    let counted : c.len-count.result ≡ length l.pieces.items = omega (arith, c.len-count.ensures) in
    let longer : length c.push.new.self.items ≡ length l.pieces.items + 1 = ap length c.in_ok-push.ensures.items ∙ length-append l.pieces.items (c.in-Some.piece ∷ []) in
    let read = keep_piece g.K.PieceKind.of g.K.PieceKind.part g.K.PieceKind.most c.most-most.result true l.pieces.items c.push.new.self.items (length l.pieces.items) (length c.push.new.self.items) ds w.0 c.in-Some.piece (Some c.in-Some.piece) c.most-most.ensures refl (omega (arith, c.if-count-most.false, c.len-count.ensures)) c.in_ok-push.ensures.items longer refl w.2 l.invariant.4 in
    let old = piece_read_old g.K.PieceKind.of g.K.PieceKind.is_old g.K.PieceKind.part g.K.PieceKind.most true l.pieces.items (length l.pieces.items) l.first_new ds w.0 c.in-Some.piece (Some c.in-Some.piece) refl refl w.2 l.invariant.4 l.invariant.5 in (
      ds ++ w.0 ∷ [],
      taken_to_bracket c.args.depth (drop c.args.at.now text) (drop l.here text) (drop here text) (drop end text) ds w.0 l.invariant.3 w.1 closes,
      ((read.all, read.found, omega (arith, c.len.ensures, read.counted), read.kept), rw (c.or-first_new.ensures, c.then_some.ensures, c.is_old.ensures, counted) old),
    )
