use Rattle.std.proofs.Common.{◌≡◌, [], ◌∷◌, option_map, sym, ap, ◌∙◌, arith}
use Rattle.serde_json.specs.Find.{as_u64}
use Rattle.serde_json.specs.Read.{number_of}
use Rattle.piece_files.proofs.Numerals.{number_of-signed, number_of-unsigned, number_of-empty, nothing_left}
use Rattle.piece_files.proofs.numeral.number_in_text.Goals as goal

pub returns-in_default : goal.returns-in_default
returns-in_default c =
    let s = c.as_bytes-bytes.result.now in
    let empty : s ≡ [] = nothing_left s c.in_default.ensures.cases in
    c.unsigned_in.ensures ∙ ap (option_map as_u64) (sym (number_of-empty s empty) ∙ ap number_of c.as_bytes-bytes.ensures.value)

pub returns-then-first-eq45 : goal.returns-then-first-eq45
returns-then-first-eq45 c =
    let s = c.as_bytes-bytes.result.now in
    let whole : s ≡ 45 ∷ c.in-Some.digits.now = grind arith in
    c.negative_in.ensures ∙ ap (option_map as_u64) (sym (number_of-signed s c.in-Some.digits.now whole) ∙ ap number_of c.as_bytes-bytes.ensures.value)

pub returns-else-first-eq45 : goal.returns-else-first-eq45
returns-else-first-eq45 c =
    let s = c.as_bytes-bytes.result.now in
    let whole : s ≡ c.in-Some.first.now ∷ c.in-Some.digits.now = grind arith in
    c.unsigned_in-else-first-eq45.ensures ∙ ap (option_map as_u64) (sym (number_of-unsigned s c.in-Some.first.now c.in-Some.digits.now whole (grind arith)) ∙ ap number_of c.as_bytes-bytes.ensures.value)
