use Rattle.std.proofs.Common.{◌≡◌, ◌-◌, [], ◌∷◌, ◌++◌, length, Some, None, sym, ap, ◌∙◌, arith}
use Rattle.json.specs.Json.{parse_map, after_end_array, value}
use Rattle.json.specs.Reads.{token_of}
use Rattle.piece_files.specs.Tokens.{value_at, items_at}
use Rattle.piece_files.proofs.ElementLists.{before, before-none, nothing_before, one_more}
use Rattle.piece_files.proofs.Loop.{nothing_read, keep_piece, count_piece, drop_piece, no_piece, nothing_old, piece_read_old, drop_piece_old, no_piece_old}
use Rattle.piece_files.proofs.Turns.{item_turn, item_refused, items_over}
use Rattle.piece_files.proofs.Values.{value_at-none}
use Rattle.piece_files.proofs.piece.pieces_in.Goals.{then-count-most+in_ok-push-in-Some, else-count-most}
use Rattle.piece_files.proofs.piece.pieces_in.Goals as goal

pub pieces-init : goal.pieces-init
pieces-init g c =
    (length c.args.reader.now, [], omega arith, nothing_before (items_at c.args.depth c.args.reader.now), omega arith, omega arith, rw c.new-pieces.ensures.items (nothing_read g.K.PieceKind.of g.K.PieceKind.part g.K.PieceKind.most), nothing_old g.K.PieceKind.of g.K.PieceKind.is_old g.K.PieceKind.part)

pub returns-in_err-token-clause-err : goal.returns-in_err-token-clause-err
returns-in_err-token-clause-err g c refused =
    let l = c.pieces in
    let going : (after_end_array l.reader ≡ None) × (c.take_end_array.new.self ≡ l.reader) = grind arith in
    let empty : c.take_end_array.new.self ≡ [] = grind arith in
    let none = ap (value_at c.args.depth) (sym going.1 ∙ empty) ∙ value_at-none c.args.depth in
    l.invariant.3 ∙ ap (parse_map (before l.invariant.1)) (item_refused (value c.args.depth) l.invariant.0 l.reader going.0 none)

pub returns-in_err-read-clause-err : goal.returns-in_err-read-clause-err
returns-in_err-read-clause-err g c refused =
    let l = c.pieces in
    let going : (after_end_array l.reader ≡ None) × (c.take_end_array.new.self ≡ l.reader) = grind arith in
    let first : c.take_end_array.new.self ≡ token_of c.in_ok-token.token ∷ c.next.new.self = grind arith in
    let none = ap (value_at c.args.depth) (sym going.1 ∙ first) ∙ c.in_err-read.ensures.err (grind arith) in
    l.invariant.3 ∙ ap (parse_map (before l.invariant.1)) (item_refused (value c.args.depth) l.invariant.0 l.reader going.0 none)

pub pieces-preserved-then-if-drop-2 : goal.pieces-preserved-then-if-drop-2
pieces-preserved-then-if-drop-2 g c =
    let l = c.pieces in
    let n = l.invariant.0 in
    let ds = l.invariant.1 in
    let going : (after_end_array l.reader ≡ None) × (c.take_end_array.new.self ≡ l.reader) = grind arith in
    let first : c.take_end_array.new.self ≡ token_of c.in_ok-token.token ∷ c.next.new.self = grind arith in
    let done = c.in_ok-read.ensures in
    let r = c.piece_in.new.reader in
    let fewer = ap length (sym going.1 ∙ first) in
    let shorter = done.shorter in
    let turn = item_turn (value c.args.depth) n l.reader r done.ok.0 (omega (arith, l.invariant.2, fewer)) going.0 (ap (value_at c.args.depth) (sym going.1 ∙ first) ∙ done.ok.1) in (
      n - 1,
      ds ++ done.ok.0 ∷ [],
      omega (arith, l.invariant.2, fewer, shorter),
      l.invariant.3 ∙ ap (parse_map (before ds)) turn ∙ one_more ds done.ok.0 _,
      omega (arith, l.invariant.4, fewer, shorter),
      c.in_ok-count-in-Some.ensures.1,
      elim c.if-count-most.branch [
        | then-count-most+in_ok-push-in-Some w ↦ keep_piece g.K.PieceKind.of g.K.PieceKind.part g.K.PieceKind.most c.most-most.result l.are_all l.pieces.items c.if-count-most.pieces.items l.count c.in_ok-count-in-Some.count ds done.ok.0 c.in-Some.piece c.in_ok-read.read c.most-most.ensures c.if-are_all.true w.if-count-most.true (ap (λ v. v.items) w.pieces-is ∙ w.in_ok-push-in-Some.ensures.items) c.in_ok-count-in-Some.ensures.0 c.in-Some.is done.ok.2 l.invariant.6
        | else-count-most w ↦ count_piece g.K.PieceKind.of g.K.PieceKind.part g.K.PieceKind.most c.most-most.result l.are_all l.pieces.items c.if-count-most.pieces.items l.count c.in_ok-count-in-Some.count ds done.ok.0 c.in-Some.piece c.in_ok-read.read c.most-most.ensures c.if-are_all.true w.if-count-most.false (ap (λ v. v.items) w.pieces-is) c.in_ok-count-in-Some.ensures.0 c.in-Some.is done.ok.2 l.invariant.6
      ],
      rw (c.or-first_new.ensures, c.then_some.ensures, c.is_old.ensures) (piece_read_old g.K.PieceKind.of g.K.PieceKind.is_old g.K.PieceKind.part g.K.PieceKind.most l.are_all l.pieces.items l.count l.first_new ds done.ok.0 c.in-Some.piece c.in_ok-read.read c.if-are_all.true c.in-Some.is done.ok.2 l.invariant.6 l.invariant.7),
    )

pub pieces-preserved-else-if-drop-2 : goal.pieces-preserved-else-if-drop-2
pieces-preserved-else-if-drop-2 g c =
    let l = c.pieces in
    let n = l.invariant.0 in
    let ds = l.invariant.1 in
    let going : (after_end_array l.reader ≡ None) × (c.take_end_array.new.self ≡ l.reader) = grind arith in
    let first : c.take_end_array.new.self ≡ token_of c.in_ok-token.token ∷ c.next.new.self = grind arith in
    let done = c.in_ok-read.ensures in
    let r = c.piece_in.new.reader in
    let fewer = ap length (sym going.1 ∙ first) in
    let shorter = done.shorter in
    let turn = item_turn (value c.args.depth) n l.reader r done.ok.0 (omega (arith, l.invariant.2, fewer)) going.0 (ap (value_at c.args.depth) (sym going.1 ∙ first) ∙ done.ok.1) in (
      n - 1,
      ds ++ done.ok.0 ∷ [],
      omega (arith, l.invariant.2, fewer, shorter),
      l.invariant.3 ∙ ap (parse_map (before ds)) turn ∙ one_more ds done.ok.0 _,
      omega (arith, l.invariant.4, fewer, shorter),
      c.in_ok-count-in-Some.ensures.1,
      elim c.if-count-most.branch [
        | then-count-most+in_ok-push-in-Some w ↦ keep_piece g.K.PieceKind.of g.K.PieceKind.part g.K.PieceKind.most c.most-most.result l.are_all l.pieces.items c.if-count-most.pieces.items l.count c.in_ok-count-in-Some.count ds done.ok.0 c.in-Some.piece c.in_ok-read.read c.most-most.ensures c.if-are_all.true w.if-count-most.true (ap (λ v. v.items) w.pieces-is ∙ w.in_ok-push-in-Some.ensures.items) c.in_ok-count-in-Some.ensures.0 c.in-Some.is done.ok.2 l.invariant.6
        | else-count-most w ↦ count_piece g.K.PieceKind.of g.K.PieceKind.part g.K.PieceKind.most c.most-most.result l.are_all l.pieces.items c.if-count-most.pieces.items l.count c.in_ok-count-in-Some.count ds done.ok.0 c.in-Some.piece c.in_ok-read.read c.most-most.ensures c.if-are_all.true w.if-count-most.false (ap (λ v. v.items) w.pieces-is) c.in_ok-count-in-Some.ensures.0 c.in-Some.is done.ok.2 l.invariant.6
      ],
      rw (c.or-first_new.ensures, c.then_some.ensures, c.is_old.ensures) (piece_read_old g.K.PieceKind.of g.K.PieceKind.is_old g.K.PieceKind.part g.K.PieceKind.most l.are_all l.pieces.items l.count l.first_new ds done.ok.0 c.in-Some.piece c.in_ok-read.read c.if-are_all.true c.in-Some.is done.ok.2 l.invariant.6 l.invariant.7),
    )

pub pieces-preserved-else-are_all : goal.pieces-preserved-else-are_all
pieces-preserved-else-are_all g c =
    let l = c.pieces in
    let n = l.invariant.0 in
    let ds = l.invariant.1 in
    let going : (after_end_array l.reader ≡ None) × (c.take_end_array.new.self ≡ l.reader) = grind arith in
    let first : c.take_end_array.new.self ≡ token_of c.in_ok-token.token ∷ c.next.new.self = grind arith in
    let done = c.in_ok-read.ensures in
    let r = c.piece_in.new.reader in
    let fewer = ap length (sym going.1 ∙ first) in
    let shorter = done.shorter in
    let turn = item_turn (value c.args.depth) n l.reader r done.ok.0 (omega (arith, l.invariant.2, fewer)) going.0 (ap (value_at c.args.depth) (sym going.1 ∙ first) ∙ done.ok.1) in (
      n - 1,
      ds ++ done.ok.0 ∷ [],
      omega (arith, l.invariant.2, fewer, shorter),
      l.invariant.3 ∙ ap (parse_map (before ds)) turn ∙ one_more ds done.ok.0 _,
      omega (arith, l.invariant.4, fewer, shorter),
      l.invariant.5,
      drop_piece g.K.PieceKind.of g.K.PieceKind.part g.K.PieceKind.most l.are_all l.pieces.items l.count ds done.ok.0 c.if-are_all.false l.invariant.6,
      drop_piece_old g.K.PieceKind.of g.K.PieceKind.is_old g.K.PieceKind.part g.K.PieceKind.most l.are_all l.pieces.items l.count l.first_new ds done.ok.0 c.if-are_all.false l.invariant.6 l.invariant.7,
    )

pub pieces-preserved : goal.pieces-preserved
pieces-preserved g c =
    let l = c.pieces in
    let n = l.invariant.0 in
    let ds = l.invariant.1 in
    let going : (after_end_array l.reader ≡ None) × (c.take_end_array.new.self ≡ l.reader) = grind arith in
    let first : c.take_end_array.new.self ≡ token_of c.in_ok-token.token ∷ c.next.new.self = grind arith in
    let done = c.in_ok-read.ensures in
    let r = c.piece_in.new.reader in
    let fewer = ap length (sym going.1 ∙ first) in
    let shorter = done.shorter in
    let turn = item_turn (value c.args.depth) n l.reader r done.ok.0 (omega (arith, l.invariant.2, fewer)) going.0 (ap (value_at c.args.depth) (sym going.1 ∙ first) ∙ done.ok.1) in (
      n - 1,
      ds ++ done.ok.0 ∷ [],
      omega (arith, l.invariant.2, fewer, shorter),
      l.invariant.3 ∙ ap (parse_map (before ds)) turn ∙ one_more ds done.ok.0 _,
      omega (arith, l.invariant.4, fewer, shorter),
      l.invariant.5,
      no_piece g.K.PieceKind.of g.K.PieceKind.part g.K.PieceKind.most l.are_all l.pieces.items l.count ds done.ok.0 c.in_ok-read.read c.in-None.is done.ok.2 l.invariant.6,
      no_piece_old g.K.PieceKind.of g.K.PieceKind.is_old g.K.PieceKind.part l.first_new ds done.ok.0 c.in_ok-read.read c.in-None.is done.ok.2 l.invariant.7,
    )

pub returns-clause-ok : goal.returns-clause-ok
returns-clause-ok g c =
    let l = c.pieces in
    let ds = l.invariant.1 in
    let r = c.take_end_array.new.self in
    (ds, l.invariant.3 ∙ ap (parse_map (before ds)) (items_over (value c.args.depth) l.invariant.0 l.reader r l.invariant.2 (grind arith)) ∙ ap (λ x. Some (x, r)) (before-none ds), ((l.invariant.6.all, l.invariant.6.found, l.invariant.6.counted, l.invariant.6.kept), l.invariant.7))

pub returns-clause-range : goal.returns-clause-range
returns-clause-range g c = c.pieces.invariant.5
