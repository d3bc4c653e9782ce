use Rattle.std.proofs.Common.{ℕ, drop, subst}
use Rattle.serde_json.specs.Data.{null, number, unsigned}
use Rattle.piece_files.specs.PlainBytes.{IsValue}
use Rattle.piece_files.proofs.PlainLemmas.{text_is}
use Rattle.piece_files.proofs.plain_bytes.plain_at.Goals as goal

pub returns-in-Some-clause-value : goal.returns-in-Some-clause-value
returns-in-Some-clause-value c =
    let text = c.args.text.now in
    text_is (drop c.args.at text) c.in-Some.word.now (drop c.in-Some.end text) c.in-Some.ensures.value

pub returns-in-Some-number_at-clause-value : goal.returns-in-Some-number_at-clause-value
returns-in-Some-number_at-clause-value c =
    let end = c.in-Some-number_at.end in
    subst (λ b. (depth : ℕ) → IsValue depth (drop c.args.at b) (number (unsigned c.in-Some-number_at.number)) (drop end b)) c.as_bytes-bytes.ensures.value c.in-Some-number_at.ensures.value

pub returns-clause-value : goal.returns-clause-value
returns-clause-value c =
    let end = c.in_ok-end.end in
    subst (λ b. (depth : ℕ) → IsValue depth (drop c.args.at b) null (drop end b)) c.as_bytes-bytes.ensures.value c.in_ok-end.ensures.value
