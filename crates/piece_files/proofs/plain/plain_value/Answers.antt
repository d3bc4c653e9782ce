use Rattle.std.proofs.Common.{◌∷◌, ℕ, Option, Some, None, refl, sym, ap, ◌∙◌, arith}
use Rattle.json.specs.Reads.{token_of}
use Rattle.serde_json.specs.Data.{null, number, string}
use Rattle.piece_files.specs.Tokens.{value_at, is_whole}
use Rattle.piece_files.proofs.ValueKinds.{is_not_plain, is_unsigned, is_not_whole}
use Rattle.piece_files.proofs.Values.{value_at-null, value_at-string, value_at-number, value_at-no_number}
use Rattle.piece_files.proofs.plain.plain_value.Goals as goal

pub returns-in-Null-clause-ok : goal.returns-in-Null-clause-ok
returns-in-Null-clause-ok c =
    (null, ap (λ k. value_at c.args.depth (token_of k ∷ c.args.reader.now)) c.in-Null.is ∙ value_at-null c.args.depth c.args.reader.now, (refl, refl))

pub returns-in-String-clause-ok : goal.returns-in-String-clause-ok
returns-in-String-clause-ok c =
    (string c.in-String.text.now, ap (λ k. value_at c.args.depth (token_of k ∷ c.args.reader.now)) c.in-String.is ∙ value_at-string c.args.depth c.in-String.text.now c.args.reader.now, (refl, refl))

pub returns-in-Some-Some-clause-ok : goal.returns-in-Some-Some-clause-ok
returns-in-Some-Some-clause-ok c =
    let whole = sym c.number_in_text.ensures ∙ c.in-Some-Some.is ∙ ap (λ (o : Option ℕ). Some o) c.in-Some-Some.field-0-is in
    let x = value_at-number c.args.depth c.in-Number.text.now c.args.reader.now (Some c.in-Some-Some.number) whole in
    (number x.0, ap (λ k. value_at c.args.depth (token_of k ∷ c.args.reader.now)) c.in-Number.is ∙ x.1, (ap number (sym (is_unsigned x.0 c.in-Some-Some.number x.2)), ap is_whole (is_unsigned x.0 c.in-Some-Some.number x.2)))

pub returns-in-Some-None-clause-ok : goal.returns-in-Some-None-clause-ok
returns-in-Some-None-clause-ok c =
    let other = sym c.number_in_text.ensures ∙ c.in-Some-None.is ∙ ap (λ (o : Option ℕ). Some o) c.in-Some-None.field-0-is in
    let x = value_at-number c.args.depth c.in-Number.text.now c.args.reader.now None other in
    (number x.0, ap (λ k. value_at c.args.depth (token_of k ∷ c.args.reader.now)) c.in-Number.is ∙ x.1, is_not_whole x.0 x.2)

pub returns-in-None-clause-err : goal.returns-in-None-clause-err
returns-in-None-clause-err c =
    ap (λ k. value_at c.args.depth (token_of k ∷ c.args.reader.now)) c.in-Number.is ∙ value_at-no_number c.args.depth c.in-Number.text.now c.args.reader.now (sym c.in-None.ensures)

pub returns-in_ok-pass_value-in-Bool-clause-ok : goal.returns-in_ok-pass_value-in-Bool-clause-ok
returns-in_ok-pass_value-in-Bool-clause-ok c =
    let w = c.in_ok-pass_value-in-Bool.ensures.ok in
    (w.0, w.1, is_not_plain c.args.depth (token_of c.args.token) c.args.reader.now c.pass_value.new.reader w.0 w.1 (grind arith))
