use Rattle.std.proofs.Common.{◌+◌, drop, get_or, refl, sym, ◌∙◌, arith}
use Rattle.piece_files.proofs.PlainLemmas.{nothing_passed, one_off, one_passed}
use Rattle.piece_files.proofs.plain_bytes.spaces_end.Goals as goal

pub spaces-init : goal.spaces-init
spaces-init c = (omega arith, omega arith, nothing_passed (drop c.args.start c.args.bytes.now))

pub spaces-preserved : goal.spaces-preserved
spaces-preserved c =
    let bytes = c.args.bytes.now in
    let at = c.spaces.at in
    let first = one_off bytes at (at + 1) (get_or bytes at 0) refl (omega arith) refl in
    (omega arith, omega arith, one_passed (drop c.args.start bytes) (drop at bytes) (drop (at + 1) bytes) (get_or bytes at 0) first (sym c.is_space.ensures ∙ c.if-is_space.true) c.spaces.invariant.2)
