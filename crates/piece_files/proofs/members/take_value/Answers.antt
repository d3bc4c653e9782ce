use Rattle.std.proofs.Common.{◌≡◌, [], ◌∷◌, sym, ap, subst, ◌∙◌, arith}
use Rattle.std.proofs.lemmas.Result.{on_ok_weaker}
use Rattle.json.specs.Json.{parse_map}
use Rattle.json.specs.Reads.{token_of}
use Rattle.serde_json.specs.Data.{object}
use Rattle.serde_json.specs.Read.{max_depth}
use Rattle.piece_files.specs.Tokens.{value_at, members_at}
use Rattle.piece_files.specs.Members.{AreFound, kind_named}
use Rattle.piece_files.proofs.ValueKinds.{is_not_object}
use Rattle.piece_files.proofs.Values.{value_at-none, value_at-object}
use Rattle.piece_files.proofs.members.take_value.Goals as goal

pub returns-in_err-token-clause-err : goal.returns-in_err-token-clause-err
returns-in_err-token-clause-err g c refused =
    let empty : c.args.reader.now ≡ [] = grind arith in
    ap (value_at max_depth) empty ∙ value_at-none max_depth

pub returns-in-BeginObject-clause-ok : goal.returns-in-BeginObject-clause-ok
returns-in-BeginObject-clause-ok g c =
    let first : c.args.reader.now ≡ token_of c.in_ok-token.token ∷ c.next.new.self = grind arith in
    let opened : value_at max_depth c.args.reader.now ≡ parse_map object (members_at 126 c.next.new.self) = ap (value_at max_depth) (first ∙ ap (λ k. token_of k ∷ c.next.new.self) c.in-BeginObject.is) ∙ value_at-object max_depth c.next.new.self (omega arith) in
    on_ok_weaker c.take_members.result (λ w. (object w.0, opened ∙ ap (parse_map object) w.1, w.2)) c.take_members.ensures.ok

pub returns-in-BeginObject-clause-err : goal.returns-in-BeginObject-clause-err
returns-in-BeginObject-clause-err g c refused =
    let first : c.args.reader.now ≡ token_of c.in_ok-token.token ∷ c.next.new.self = grind arith in
    let opened : value_at max_depth c.args.reader.now ≡ parse_map object (members_at 126 c.next.new.self) = ap (value_at max_depth) (first ∙ ap (λ k. token_of k ∷ c.next.new.self) c.in-BeginObject.is) ∙ value_at-object max_depth c.next.new.self (omega arith) in
    opened ∙ ap (parse_map object) (c.take_members.ensures.err refused)

pub returns-in_ok-pass_value-in-BeginArray : goal.returns-in_ok-pass_value-in-BeginArray
returns-in_ok-pass_value-in-BeginArray g c =
    let first : c.args.reader.now ≡ token_of c.in_ok-token.token ∷ c.next.new.self = grind arith in
    let w = c.in_ok-pass_value-in-BeginArray.ensures.ok in
    let f = c.args.found.now in
    let none = is_not_object max_depth (token_of c.in_ok-token.token) c.next.new.self c.pass_value.new.reader w.0 w.1 (grind arith) in
    record {
      ok = (w.0, ap (value_at max_depth) first ∙ w.1, subst (AreFound (kind_named c.args.names g.K.PieceKind.of g.K.PieceKind.is_old g.K.PieceKind.part g.K.PieceKind.most) f.version f.numbers f.pieces) (sym none) c.requires.nothing);
      err = λ e. absurd (grind (arith, e));
    }
