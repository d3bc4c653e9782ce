use Rattle.std.proofs.Common.{◌≡◌, ◌-◌, [], ◌∷◌, ◌++◌, length, Some, None, sym, ap, ◌∙◌, subst, arith}
use Rattle.json.specs.Json.{parse_map, after_end_array, value}
use Rattle.json.specs.Reads.{token_of}
use Rattle.piece_files.specs.Tokens.{value_at, items_at, IsPlain}
use Rattle.piece_files.proofs.ElementLists.{before, before-none, nothing_before, one_more, nothing_kept, keep_one, keep_no_more, keep_none}
use Rattle.piece_files.proofs.Turns.{item_turn, item_refused, items_over}
use Rattle.piece_files.proofs.Values.{in_any_error, value_at-none}
use Rattle.piece_files.proofs.plain.plain_elements.Goals as goal

pub elements-init : goal.elements-init
elements-init g c =
    (length c.args.reader.now, [], omega arith, nothing_before (items_at c.args.depth c.args.reader.now), omega arith, rw c.clear.ensures (nothing_kept g.row.MOST))

pub returns-in_err-token-clause-err : goal.returns-in_err-token-clause-err
returns-in_err-token-clause-err g c =
    let l = c.elements in
    let going : (after_end_array l.reader ≡ None) × (c.take_end_array.new.self ≡ l.reader) = grind arith in
    let empty : c.take_end_array.new.self ≡ [] = grind arith in
    let none = ap (value_at c.args.depth) (sym going.1 ∙ empty) ∙ value_at-none c.args.depth in
    in_any_error c.from_residual.result (l.invariant.3 ∙ ap (parse_map (before l.invariant.1)) (item_refused (value c.args.depth) l.invariant.0 l.reader going.0 none))

pub returns-in_err-element-clause-err : goal.returns-in_err-element-clause-err
returns-in_err-element-clause-err g c =
    let l = c.elements in
    let going : (after_end_array l.reader ≡ None) × (c.take_end_array.new.self ≡ l.reader) = grind arith in
    let first : c.take_end_array.new.self ≡ token_of c.in_ok-token.token ∷ c.next.new.self = grind arith in
    let none = ap (value_at c.args.depth) (sym going.1 ∙ first) ∙ c.in_err-element.ensures.err in
    in_any_error c.from_residual-in_err-element.result (l.invariant.3 ∙ ap (parse_map (before l.invariant.1)) (item_refused (value c.args.depth) l.invariant.0 l.reader going.0 none))

pub elements-preserved-then-len : goal.elements-preserved-then-len
elements-preserved-then-len g c =
    let l = c.elements in
    let n = l.invariant.0 in
    let ds = l.invariant.1 in
    let going : (after_end_array l.reader ≡ None) × (c.take_end_array.new.self ≡ l.reader) = grind arith in
    let first : c.take_end_array.new.self ≡ token_of c.in_ok-token.token ∷ c.next.new.self = grind arith in
    let done = c.in_ok-element.ensures in
    let r = c.plain_value.new.reader in
    let fewer = ap length (sym going.1 ∙ first) in
    let shorter = done.shorter in
    let seen = subst (λ o. IsPlain o done.ok.0) c.in-Some.is done.ok.2 in
    let turn = item_turn (value c.args.depth) n l.reader r done.ok.0 (omega (arith, l.invariant.2, fewer)) going.0 (ap (value_at c.args.depth) (sym going.1 ∙ first) ∙ done.ok.1) in (
      n - 1,
      ds ++ done.ok.0 ∷ [],
      omega (arith, l.invariant.2, fewer, shorter),
      l.invariant.3 ∙ ap (parse_map (before ds)) turn ∙ one_more ds done.ok.0 _,
      omega (arith, l.invariant.4, fewer, shorter),
      rw c.push.ensures.items (keep_one g.row.MOST l.are_plain l.elements.items ds c.in-Some.value done.ok.0 seen (omega (arith, c.if-len.true, c.len.ensures)) l.invariant.5),
    )

pub elements-preserved-else-len : goal.elements-preserved-else-len
elements-preserved-else-len g c =
    let l = c.elements in
    let n = l.invariant.0 in
    let ds = l.invariant.1 in
    let going : (after_end_array l.reader ≡ None) × (c.take_end_array.new.self ≡ l.reader) = grind arith in
    let first : c.take_end_array.new.self ≡ token_of c.in_ok-token.token ∷ c.next.new.self = grind arith in
    let done = c.in_ok-element.ensures in
    let r = c.plain_value.new.reader in
    let fewer = ap length (sym going.1 ∙ first) in
    let shorter = done.shorter in
    let seen = subst (λ o. IsPlain o done.ok.0) c.in-Some.is done.ok.2 in
    let turn = item_turn (value c.args.depth) n l.reader r done.ok.0 (omega (arith, l.invariant.2, fewer)) going.0 (ap (value_at c.args.depth) (sym going.1 ∙ first) ∙ done.ok.1) in (
      n - 1,
      ds ++ done.ok.0 ∷ [],
      omega (arith, l.invariant.2, fewer, shorter),
      l.invariant.3 ∙ ap (parse_map (before ds)) turn ∙ one_more ds done.ok.0 _,
      omega (arith, l.invariant.4, fewer, shorter),
      keep_no_more g.row.MOST l.are_plain l.elements.items ds done.ok.0 (omega (arith, c.if-len.false, c.len.ensures)) l.invariant.5,
    )

pub elements-preserved : goal.elements-preserved
elements-preserved g c =
    let l = c.elements in
    let n = l.invariant.0 in
    let ds = l.invariant.1 in
    let going : (after_end_array l.reader ≡ None) × (c.take_end_array.new.self ≡ l.reader) = grind arith in
    let first : c.take_end_array.new.self ≡ token_of c.in_ok-token.token ∷ c.next.new.self = grind arith in
    let done = c.in_ok-element.ensures in
    let r = c.plain_value.new.reader in
    let fewer = ap length (sym going.1 ∙ first) in
    let shorter = done.shorter in
    let seen = subst (λ o. IsPlain o done.ok.0) c.in-None.is done.ok.2 in
    let turn = item_turn (value c.args.depth) n l.reader r done.ok.0 (omega (arith, l.invariant.2, fewer)) going.0 (ap (value_at c.args.depth) (sym going.1 ∙ first) ∙ done.ok.1) in (
      n - 1,
      ds ++ done.ok.0 ∷ [],
      omega (arith, l.invariant.2, fewer, shorter),
      l.invariant.3 ∙ ap (parse_map (before ds)) turn ∙ one_more ds done.ok.0 _,
      omega (arith, l.invariant.4, fewer, shorter),
      keep_none g.row.MOST l.elements.items ds done.ok.0 seen,
    )

pub returns-clause-ok : goal.returns-clause-ok
returns-clause-ok g c =
    let l = c.elements in
    let ds = l.invariant.1 in
    let r = c.take_end_array.new.self in
    (ds, l.invariant.3 ∙ ap (parse_map (before ds)) (items_over (value c.args.depth) l.invariant.0 l.reader r l.invariant.2 (grind arith)) ∙ ap (λ x. Some (x, r)) (before-none ds), l.invariant.5)
