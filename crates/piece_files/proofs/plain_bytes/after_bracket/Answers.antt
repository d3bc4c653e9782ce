use Rattle.std.proofs.Common.{◌≡◌, ◌+◌, true, drop, arith}
use Rattle.piece_files.proofs.PlainLemmas.{closing}
use Rattle.piece_files.proofs.plain_bytes.after_bracket.Goals as goal

pub returns-clause-bracket : goal.returns-clause-bracket
returns-clause-bracket c =
    let bytes = c.args.bytes.now in
    let bracket = c.spaces_end-bracket.result in
    let is : c.is_at.result ≡ true = grind arith in
    closing (drop c.args.at bytes) (drop bracket bytes) (drop (bracket + 1) bytes) c.spaces_end-bracket.ensures.spaces (c.is_at.ensures is).1
