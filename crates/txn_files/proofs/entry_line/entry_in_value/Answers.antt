use Rattle.std.proofs.Common.{◌≡◌, [], ◌∷◌, sym, ap, ◌∙◌, arith}
use Rattle.std.proofs.lemmas.Result.{IfOk-weaker}
use Rattle.std.specs.Prelude.{option_and_then}
use Rattle.json.specs.Json.{parse_map}
use Rattle.json.specs.Reads.{token_of}
use Rattle.serde_json.specs.Data.{array}
use Rattle.serde_json.specs.Read.{max_depth}
use Rattle.piece_files.specs.Tokens.{value_at, items_at, items_from}
use Rattle.piece_files.proofs.ItemLists.{list_of-items_from}
use Rattle.piece_files.proofs.ValueKinds.{is_not_array}
use Rattle.piece_files.proofs.Values.{value_at-none, value_at-array}
use Rattle.txn_files.specs.Entries.{entry_of}
use Rattle.txn_files.proofs.entry_line.entry_in_value.Goals as goal

pub returns-in_err-token-clause-err : goal.returns-in_err-token-clause-err
returns-in_err-token-clause-err c refused =
    let empty : c.args.reader.now ≡ [] = grind arith in
    ap (value_at max_depth) empty ∙ value_at-none max_depth

pub returns-in-BeginArray-clause-ok : goal.returns-in-BeginArray-clause-ok
returns-in-BeginArray-clause-ok c =
    let first : c.args.reader.now ≡ token_of c.in_ok-token.token ∷ c.next.new.self = grind arith in
    let opened : value_at max_depth c.args.reader.now ≡ parse_map array (items_at 126 c.next.new.self) = ap (value_at max_depth) (first ∙ ap (λ k. token_of k ∷ c.next.new.self) c.in-BeginArray.is) ∙ value_at-array max_depth c.next.new.self (omega arith) in
    IfOk-weaker c.entry_in_array.result _ _ (λ found w. (array (items_from w.0), opened ∙ ap (parse_map array) w.1, w.2 ∙ ap entry_of (sym (list_of-items_from w.0)))) c.entry_in_array.ensures.ok

pub returns-in-BeginArray-clause-err : goal.returns-in-BeginArray-clause-err
returns-in-BeginArray-clause-err c refused =
    let first : c.args.reader.now ≡ token_of c.in_ok-token.token ∷ c.next.new.self = grind arith in
    let opened : value_at max_depth c.args.reader.now ≡ parse_map array (items_at 126 c.next.new.self) = ap (value_at max_depth) (first ∙ ap (λ k. token_of k ∷ c.next.new.self) c.in-BeginArray.is) ∙ value_at-array max_depth c.next.new.self (omega arith) in
    opened ∙ ap (parse_map array) (c.entry_in_array.ensures.err refused)

pub returns-in_ok-pass_value-in-BeginObject : goal.returns-in_ok-pass_value-in-BeginObject
returns-in_ok-pass_value-in-BeginObject c =
    let first : c.args.reader.now ≡ token_of c.in_ok-token.token ∷ c.next.new.self = grind arith in
    let w = c.in_ok-pass_value-in-BeginObject.ensures.ok in
    record {
      ok = (w.0, ap (value_at max_depth) first ∙ w.1, sym (ap (option_and_then entry_of) (is_not_array max_depth (token_of c.in_ok-token.token) c.next.new.self c.pass_value.new.reader w.0 w.1 (grind arith))));
      err = λ e. absurd (grind (arith, e));
    }
