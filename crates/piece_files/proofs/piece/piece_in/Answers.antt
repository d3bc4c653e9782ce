use Rattle.std.proofs.Common.{◌∷◌, option_and_then, sym, ap, ◌∙◌, arith}
use Rattle.std.proofs.lemmas.Result.{IfOk-weaker}
use Rattle.json.specs.Json.{parse_map}
use Rattle.json.specs.Reads.{token_of}
use Rattle.serde_json.specs.Data.{array}
use Rattle.piece_files.specs.Tokens.{value_at, items_from}
use Rattle.piece_files.proofs.ItemLists.{list_of-items_from}
use Rattle.piece_files.proofs.ValueKinds.{is_not_array}
use Rattle.piece_files.proofs.Values.{value_at-array, too_deep_array}
use Rattle.piece_files.proofs.piece.piece_in.Goals as goal

pub returns-then-depth-eq0-clause-err : goal.returns-then-depth-eq0-clause-err
returns-then-depth-eq0-clause-err g c refused =
    ap (λ k. value_at c.args.depth (token_of k ∷ c.args.reader.now)) c.in-BeginArray.is ∙ too_deep_array c.args.depth c.args.reader.now (omega arith)

pub returns-else-depth-eq0-clause-ok : goal.returns-else-depth-eq0-clause-ok
returns-else-depth-eq0-clause-ok g c =
    let opened = ap (λ k. value_at c.args.depth (token_of k ∷ c.args.reader.now)) c.in-BeginArray.is ∙ value_at-array c.args.depth c.args.reader.now (omega arith) in
    IfOk-weaker c.read.result _ _ (λ piece w. (array (items_from w.0), opened ∙ ap (parse_map array) w.1, w.2 ∙ ap g.K.PieceKind.of (sym (list_of-items_from w.0)))) c.read.ensures.ok

pub returns-else-depth-eq0-clause-err : goal.returns-else-depth-eq0-clause-err
returns-else-depth-eq0-clause-err g c refused =
    let opened = ap (λ k. value_at c.args.depth (token_of k ∷ c.args.reader.now)) c.in-BeginArray.is ∙ value_at-array c.args.depth c.args.reader.now (omega arith) in
    opened ∙ ap (parse_map array) (c.read.ensures.err refused)

pub returns-in_ok-pass_value-in-BeginObject : goal.returns-in_ok-pass_value-in-BeginObject
returns-in_ok-pass_value-in-BeginObject g c =
    let w = c.in_ok-pass_value-in-BeginObject.ensures.ok in
    record {
      ok = (w.0, w.1, sym (ap (option_and_then g.K.PieceKind.of) (is_not_array c.args.depth (token_of c.args.token) c.args.reader.now c.pass_value.new.reader w.0 w.1 (grind arith))));
      err = λ e. absurd (grind (arith, e));
      memory = λ e. absurd (grind (arith, e));
      shorter = c.in_ok-pass_value-in-BeginObject.ensures.shorter;
    }
