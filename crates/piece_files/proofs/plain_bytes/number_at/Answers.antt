use Rattle.std.proofs.Common.{◌≡◌, ◌+◌, ◌-◌, ◌<◌, ◌≤◌, ◌++◌, length, get_or, take, drop, sym, ap, ◌∙◌, arith, length-drop, length-take-le, get_or-take, subst, take-append-drop}
use Rattle.std.specs.Str.Parse.{AllDigits, digits_value}
use Rattle.std.proofs.lemmas.List.{drop-drop, get_or-drop, take_all}
use Rattle.piece_files.proofs.PlainLemmas.{number_is}
use Rattle.piece_files.proofs.plain_bytes.number_at.Goals.{then-len-gt1, else-len-gt1}
use Rattle.piece_files.proofs.plain_bytes.number_at.Goals as goal

pub returns-clause-value : goal.returns-clause-value
returns-clause-value c =
    let bytes = c.args.bytes.now in
    let at = c.args.at in
    let n = c.digits_in-number.result.0 in
    let len = c.digits_in-number.result.1 in
    let s = take len (drop at bytes) in
    let all : take (length bytes - at) (drop at bytes) ≡ drop at bytes = take_all (length bytes - at) (drop at bytes) (omega (arith, length-drop at bytes)) in
    let few = subst (λ d. len ≤ length d) all c.digits_in-number.ensures.few in
    let digits = subst (λ d. AllDigits 10 (take len d)) all c.digits_in-number.ensures.digits in
    let value = subst (λ d. n ≡ digits_value 10 (take len d)) all c.digits_in-number.ensures.value in
    let long : length s ≡ len = length-take-le len (drop at bytes) few in
    let some : 0 < len = omega (arith, c.if-len-eq0.false) in
    let first : get_or s 0 0 ≡ get_or bytes at 0 = get_or-take len (drop at bytes) 0 0 some ∙ get_or-drop at bytes 0 0 ∙ ap (λ k. get_or bytes k 0) (omega arith) in
    let whole : drop at bytes ≡ s ++ drop (at + len) bytes = sym (take-append-drop len (drop at bytes)) ∙ ap (λ r. s ++ r) (drop-drop len at bytes) in
    number_is (drop at bytes) s (drop (at + len) bytes) n whole (omega (arith, long, some), digits) (λ zero. elim c.if-len-gt1.branch [
      | then-len-gt1 w ↦ absurd (grind (arith, w.value-is, c.if-bytes-at-eq48.false, first, zero))
      | else-len-gt1 w ↦ omega (arith, w.if-len-gt1.false, long)
    ]) (omega arith) value
