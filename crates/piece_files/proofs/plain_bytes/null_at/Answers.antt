use Rattle.std.proofs.Common.{◌+◌, ◌∷◌, drop, refl, ap, ◌∙◌, arith}
use Rattle.piece_files.proofs.PlainLemmas.{null_is, one_off}
use Rattle.piece_files.proofs.plain_bytes.null_at.Goals as goal

pub returns-clause-value : goal.returns-clause-value
returns-clause-value c =
    let bytes = c.args.bytes.now in
    let at = c.args.at in
    let first = one_off bytes at (at + 1) 110 refl (omega arith) (omega (arith, c.if-bytes-at-ne110.false)) in
    let second = one_off bytes (at + 1) (at + 2) 117 (omega arith) (omega arith) (omega (arith, c.if-bytes-at-ne117.false)) in
    let third = one_off bytes (at + 2) (at + 3) 108 (omega arith) (omega arith) (omega (arith, c.if-bytes-at-ne108.false)) in
    let fourth = one_off bytes (at + 3) (at + 4) 108 (omega arith) (omega arith) (omega (arith, c.if-bytes-at-ne108-2.false)) in
    null_is (drop at bytes) (drop (at + 4) bytes) (first ∙ ap (λ r. 110 ∷ r) (second ∙ ap (λ r. 117 ∷ r) (third ∙ ap (λ r. 108 ∷ r) fourth)))
