use Rattle.std.proofs.Common.{◌≡◌, ◌+◌, true, drop, arith}
use Rattle.piece_files.proofs.PlainLemmas.{comma_comes}
use Rattle.piece_files.proofs.plain_bytes.after_comma.Goals as goal

pub returns-clause-comma : goal.returns-clause-comma
returns-clause-comma c =
    let bytes = c.args.bytes.now in
    let comma = c.spaces_end-comma.result in
    let is : c.is_at.result ≡ true = grind arith in
    comma_comes (drop c.args.at bytes) (drop comma bytes) (drop (comma + 1) bytes) (drop c.spaces_end.result bytes) c.spaces_end-comma.ensures.spaces (c.is_at.ensures is).1 c.spaces_end.ensures.spaces
