use Rattle.std.proofs.Common.{◌≡◌, ◌-◌, [], ◌∷◌, length, Some, None, inl, inr, refl, sym, ap, ◌∙◌, arith}
use Rattle.std.proofs.lemmas.Result.{on_ok_weaker}
use Rattle.json.specs.Json.{parse_map, after_end_array, read_key, value}
use Rattle.json.specs.Reads.{token_of}
use Rattle.json.proofs.Grammar.{value_is, read_key-shorter}
use Rattle.serde_json.specs.Data.{null, boolean, number, string, array, object, item, no_items, no_members, put}
use Rattle.serde_json.specs.Read.{of_json, converted}
use Rattle.piece_files.proofs.Turns.{item_turn, item_refused, items_over, member_turn, member_refused, key_refused, members_over}
use Rattle.piece_files.specs.Tokens.{value_at, items_at}
use Rattle.piece_files.proofs.Values.{in_any_error, error_leads, value_at-none, value_at-null, value_at-boolean, value_at-string, value_at-number, value_at-no_number, value_at-array, value_at-object, too_deep_array, too_deep_object, none_before, one_before}
use Rattle.piece_files.proofs.passing.+pass.Goals as goal

pub pass_items-items-init : goal.pass_items-items-init
pass_items-items-init t c =
    (length c.args.reader.now, (λ ds. ds), omega arith, none_before (items_at c.args.depth c.args.reader.now), omega arith)

pub pass_items-returns-in_err-token-clause-err : goal.pass_items-returns-in_err-token-clause-err
pass_items-returns-in_err-token-clause-err t c =
    let p = value c.args.depth in
    let l = c.items in
    let going : (after_end_array l.reader ≡ None) × (c.take_end_array.new.self ≡ l.reader) = grind arith in
    let empty : c.take_end_array.new.self ≡ [] = grind arith in
    let none = ap (value_at c.args.depth) (sym going.1 ∙ empty) ∙ value_at-none c.args.depth in
    in_any_error c.from_residual.result (l.invariant.3 ∙ ap (parse_map l.invariant.1) (item_refused p l.invariant.0 l.reader going.0 none))

pub pass_items-items-preserved : goal.pass_items-items-preserved
pass_items-items-preserved t c =
    let p = value c.args.depth in
    let l = c.items in
    let n = l.invariant.0 in
    let front = l.invariant.1 in
    let going : (after_end_array l.reader ≡ None) × (c.take_end_array.new.self ≡ l.reader) = grind arith in
    let first : c.take_end_array.new.self ≡ token_of c.in_ok-token.token ∷ c.next.new.self = grind arith in
    let done = c.in_ok-pass_value.ensures in
    let r = c.pass_value.new.reader in
    let read = ap (value_at c.args.depth) (sym going.1 ∙ first) ∙ done.ok.1 in
    let fewer : length l.reader ≡ length (token_of c.in_ok-token.token ∷ c.next.new.self) = ap length (sym going.1 ∙ first) in
    let shorter = done.shorter in
    let turn = item_turn p n l.reader r done.ok.0 (omega (arith, l.invariant.2, fewer)) going.0 read in (
      n - 1,
      (λ ds. front (item done.ok.0 ds)),
      omega (arith, l.invariant.2, fewer, shorter),
      l.invariant.3 ∙ ap (parse_map front) turn ∙ one_before front (item done.ok.0) _,
      omega (arith, l.invariant.4, fewer, shorter),
    )

pub pass_items-returns-in_err-pass_value-clause-err : goal.pass_items-returns-in_err-pass_value-clause-err
pass_items-returns-in_err-pass_value-clause-err t c =
    let p = value c.args.depth in
    let l = c.items in
    let going : (after_end_array l.reader ≡ None) × (c.take_end_array.new.self ≡ l.reader) = grind arith in
    let first : c.take_end_array.new.self ≡ token_of c.in_ok-token.token ∷ c.next.new.self = grind arith in
    let none = ap (value_at c.args.depth) (sym going.1 ∙ first) ∙ c.in_err-pass_value.ensures.err in
    in_any_error c.from_residual-in_err-pass_value.result (l.invariant.3 ∙ ap (parse_map l.invariant.1) (item_refused p l.invariant.0 l.reader going.0 none))

pub pass_items-returns-clause-ok : goal.pass_items-returns-clause-ok
pass_items-returns-clause-ok t c =
    let p = value c.args.depth in
    let l = c.items in
    let r = c.take_end_array.new.self in
    (l.invariant.1 no_items, l.invariant.3 ∙ ap (parse_map l.invariant.1) (items_over p l.invariant.0 l.reader r l.invariant.2 (grind arith)))

pub pass_members-members-init : goal.pass_members-members-init
pass_members-members-init t c =
    (length c.args.reader.now, no_members, omega arith, refl, omega arith)

pub pass_members-returns-in_err-next_key-clause-err : goal.pass_members-returns-in_err-next_key-clause-err
pass_members-returns-in_err-next_key-clause-err t c =
    let l = c.members in
    in_any_error c.from_residual.result (l.invariant.3 ∙ key_refused (value c.args.depth) l.invariant.1 l.invariant.0 l.reader c.in_err-next_key.ensures.value)

pub pass_members-returns-in_err-token-clause-err : goal.pass_members-returns-in_err-token-clause-err
pass_members-returns-in_err-token-clause-err t c =
    let l = c.members in
    let k = c.in-Some.field-0.now in
    let s = c.next_key.new.self in
    let named : read_key l.reader ≡ Some (Some k, s) = grind arith in
    let empty : s ≡ [] = grind arith in
    let none = ap (value_at c.args.depth) empty ∙ value_at-none c.args.depth in
    in_any_error c.from_residual-in_err-token.result (l.invariant.3 ∙ member_refused (value c.args.depth) l.invariant.1 l.invariant.0 k l.reader s named none)

pub pass_members-members-preserved : goal.pass_members-members-preserved
pass_members-members-preserved t c =
    let p = value c.args.depth in
    let l = c.members in
    let n = l.invariant.0 in
    let old = l.invariant.1 in
    let k = c.in-Some.field-0.now in
    let s = c.next_key.new.self in
    let named : read_key l.reader ≡ Some (Some k, s) = grind arith in
    let first : s ≡ token_of c.in_ok-token.token ∷ c.next.new.self = grind arith in
    let done = c.in_ok-pass_value.ensures in
    let r = c.pass_value.new.reader in
    let less = read_key-shorter l.reader (Some k) s named in
    let fewer = ap length first in
    let shorter = done.shorter in
    let read = ap (value_at c.args.depth) first ∙ done.ok.1 in (
      n - 1,
      put k done.ok.0 old,
      omega (arith, l.invariant.2, less, fewer, shorter),
      l.invariant.3 ∙ member_turn p old n k l.reader s r done.ok.0 (omega (arith, l.invariant.2, less)) named read,
      omega (arith, l.invariant.4, less, fewer, shorter),
    )

pub pass_members-returns-in_err-pass_value-clause-err : goal.pass_members-returns-in_err-pass_value-clause-err
pass_members-returns-in_err-pass_value-clause-err t c =
    let l = c.members in
    let k = c.in-Some.field-0.now in
    let s = c.next_key.new.self in
    let named : read_key l.reader ≡ Some (Some k, s) = grind arith in
    let first : s ≡ token_of c.in_ok-token.token ∷ c.next.new.self = grind arith in
    let none = ap (value_at c.args.depth) first ∙ c.in_err-pass_value.ensures.err in
    in_any_error c.from_residual-in_err-pass_value.result (l.invariant.3 ∙ member_refused (value c.args.depth) l.invariant.1 l.invariant.0 k l.reader s named none)

pub pass_members-returns-clause-ok : goal.pass_members-returns-clause-ok
pass_members-returns-clause-ok t c =
    let l = c.members in
    let ended : read_key l.reader ≡ Some (None, c.next_key.new.self) = grind arith in
    (l.invariant.1, l.invariant.3 ∙ members_over (value c.args.depth) l.invariant.1 l.invariant.0 l.reader c.next_key.new.self l.invariant.2 ended)

pub pass_value-returns-then-depth-eq0-clause-err : goal.pass_value-returns-then-depth-eq0-clause-err
pass_value-returns-then-depth-eq0-clause-err t c =
    ap (λ k. value_at c.args.depth (token_of k ∷ c.args.reader.now)) c.in-BeginArray.is ∙ too_deep_array c.args.depth c.args.reader.now (omega arith)

pub pass_value-returns-then-depth-eq0-2-clause-err : goal.pass_value-returns-then-depth-eq0-2-clause-err
pass_value-returns-then-depth-eq0-2-clause-err t c =
    ap (λ k. value_at c.args.depth (token_of k ∷ c.args.reader.now)) c.in-BeginObject.is ∙ too_deep_object c.args.depth c.args.reader.now (omega arith)

pub pass_value-returns-in-String-clause-ok : goal.pass_value-returns-in-String-clause-ok
pass_value-returns-in-String-clause-ok t c =
    elim c.in-String.is [
      | inl w ↦ (string w.0.now, ap (λ k. value_at c.args.depth (token_of k ∷ c.args.reader.now)) w.1 ∙ value_at-string c.args.depth w.0.now c.args.reader.now)
      | inr other ↦ elim other [
        | inl w ↦ (boolean w.0, ap (λ k. value_at c.args.depth (token_of k ∷ c.args.reader.now)) w.1 ∙ value_at-boolean c.args.depth w.0 c.args.reader.now)
        | inr w ↦ (null, ap (λ k. value_at c.args.depth (token_of k ∷ c.args.reader.now)) w ∙ value_at-null c.args.depth c.args.reader.now)
      ]
    ]

pub pass_value-returns-in-Some-clause-ok : goal.pass_value-returns-in-Some-clause-ok
pass_value-returns-in-Some-clause-ok t c =
    let x = value_at-number c.args.depth c.in-Number.text.now c.args.reader.now c.in-Some.field-0 (sym c.in-Some.ensures) in
    (number x.0, ap (λ k. value_at c.args.depth (token_of k ∷ c.args.reader.now)) c.in-Number.is ∙ x.1)

pub pass_value-returns-in-None-clause-err : goal.pass_value-returns-in-None-clause-err
pass_value-returns-in-None-clause-err t c =
    ap (λ k. value_at c.args.depth (token_of k ∷ c.args.reader.now)) c.in-Number.is ∙ value_at-no_number c.args.depth c.in-Number.text.now c.args.reader.now (sym c.in-None.ensures)

pub pass_value-returns-in-EndObject-clause-err : goal.pass_value-returns-in-EndObject-clause-err
pass_value-returns-in-EndObject-clause-err t c =
    let none : value c.args.depth (token_of c.args.token ∷ c.args.reader.now) ≡ None = rw (value_is c.args.depth (token_of c.args.token ∷ c.args.reader.now)) (grind arith) in
    ap (converted of_json) none

pub pass_value-returns-else-depth-eq0-clause-ok : goal.pass_value-returns-else-depth-eq0-clause-ok
pass_value-returns-else-depth-eq0-clause-ok t c =
    let opened = ap (λ k. value_at c.args.depth (token_of k ∷ c.args.reader.now)) c.in-BeginArray.is ∙ value_at-array c.args.depth c.args.reader.now (omega arith) in
    on_ok_weaker c.pass_items.result (λ w. (array w.0, opened ∙ ap (parse_map array) w.1)) c.pass_items.ensures.ok

pub pass_value-returns-else-depth-eq0-clause-err : goal.pass_value-returns-else-depth-eq0-clause-err
pass_value-returns-else-depth-eq0-clause-err t c =
    let opened = ap (λ k. value_at c.args.depth (token_of k ∷ c.args.reader.now)) c.in-BeginArray.is ∙ value_at-array c.args.depth c.args.reader.now (omega arith) in
    error_leads c.pass_items.result (λ e. opened ∙ ap (parse_map array) e) c.pass_items.ensures.err

pub pass_value-returns-else-depth-eq0-2-clause-ok : goal.pass_value-returns-else-depth-eq0-2-clause-ok
pass_value-returns-else-depth-eq0-2-clause-ok t c =
    let opened = ap (λ k. value_at c.args.depth (token_of k ∷ c.args.reader.now)) c.in-BeginObject.is ∙ value_at-object c.args.depth c.args.reader.now (omega arith) in
    on_ok_weaker c.pass_members.result (λ w. (object w.0, opened ∙ ap (parse_map object) w.1)) c.pass_members.ensures.ok

pub pass_value-returns-else-depth-eq0-2-clause-err : goal.pass_value-returns-else-depth-eq0-2-clause-err
pass_value-returns-else-depth-eq0-2-clause-err t c =
    let opened = ap (λ k. value_at c.args.depth (token_of k ∷ c.args.reader.now)) c.in-BeginObject.is ∙ value_at-object c.args.depth c.args.reader.now (omega arith) in
    error_leads c.pass_members.result (λ e. opened ∙ ap (parse_map object) e) c.pass_members.ensures.err
