use Rattle.std.proofs.Common.{arith}
use Rattle.piece_files.proofs.Numerals.{number_of-digits}
use Rattle.piece_files.proofs.numeral.unsigned_in.Goals as goal

pub returns-in-Some : goal.returns-in-Some
returns-in-Some c = number_of-digits c.args.bytes.now c.in-Some.number c.in-Some.ensures.0 (omega arith) c.in-Some.ensures.1
