use Rattle.std.proofs.Common.{◌≡◌, ◌+◌, ◌-◌, ◌<◌, ◌≤◌, ◌∷◌, ◌++◌, true, length, get_or, take, drop, refl, sym, ap, subst, ◌∙◌, arith, length-drop}
use Rattle.std.specs.List.{All}
use Rattle.std.proofs.lemmas.List.{take_all}
use Rattle.std.proofs.lemmas.Str.{IsCharBoundary-after_ascii}
use Rattle.json.specs.Run.{is_plain}
use Rattle.piece_files.proofs.PlainLemmas.{text_lexed, text_off}
use Rattle.piece_files.proofs.plain_bytes.text_at.Goals as goal

pub range-requires-clause-start_boundary : goal.range-requires-clause-start_boundary
range-requires-clause-start_boundary c some =
    let text = c.args.text.now in
    let at = c.args.at in
    let same = c.as_bytes-bytes.ensures.value in
    let within : at < length text = omega (arith, c.if-at-bytes.false, ap length same) in
    let opens : get_or text at 0 ≡ 34 = omega (arith, c.if-bytes-at-ne34.false, ap (λ b. get_or b at 0) same) in
    IsCharBoundary-after_ascii text at c.utf8.text within (omega (arith, opens))

pub returns-clause-value : goal.returns-clause-value
returns-clause-value c =
    let text = c.args.text.now in
    let at = c.args.at in
    let len = c.plain_len.result in
    let end = at + 1 + len in
    let same = c.as_bytes-bytes.ensures.value in
    let bytes = c.as_bytes-bytes.result.now in
    let all : take (length bytes - (at + 1)) (drop (at + 1) bytes) ≡ drop (at + 1) text = take_all (length bytes - (at + 1)) (drop (at + 1) bytes) (omega (arith, length-drop (at + 1) bytes)) ∙ ap (drop (at + 1)) same in
    let few = subst (λ d. len ≤ length d) all c.plain_len.ensures.few in
    let plain = subst (λ d. All (λ byte. is_plain byte ≡ true) (take len d)) all c.plain_len.ensures.plain in
    let within : end < length text = omega (arith, c.if-end-bytes.false, few, ap length same, length-drop (at + 1) text) in
    let opens : get_or text at 0 ≡ 34 = omega (arith, c.if-bytes-at-ne34.false, ap (λ b. get_or b at 0) same) in
    let closes : get_or text end 0 ≡ 34 = omega (arith, c.if-bytes-end-ne34.false, ap (λ b. get_or b end 0) same) in
    let size : end - (at + 1) ≡ len = omega arith in
    let word : c.range.result.now ≡ take len (drop (at + 1) text) = c.range.ensures.value ∙ ap (λ n. take n (drop (at + 1) text)) size in
    let whole = text_off text at (at + 1) end (end + 1) refl refl (omega arith) within opens closes ∙ ap (λ s. 34 ∷ (s ++ 34 ∷ drop (end + 1) text)) (sym c.range.ensures.value) in
    text_lexed (drop at text) c.range.result.now (drop (end + 1) text) whole (subst (All (λ byte. is_plain byte ≡ true)) (sym word) plain)
