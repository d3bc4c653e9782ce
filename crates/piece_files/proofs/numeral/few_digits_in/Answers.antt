use Rattle.std.proofs.Common.{◌<◌, ◌≤◌, length, get_or, take, sym, subst, arith}
use Rattle.std.specs.Str.Parse.{AllDigits}
use Rattle.std.proofs.lemmas.Int.Digits.{digits_value_more}
use Rattle.std.proofs.lemmas.List.{length-take, take_more}
use Rattle.std.proofs.lemmas.Str.{digit_value_digit}
use Rattle.piece_files.proofs.Numerals.{few_digits_fit, digits_more}
use Rattle.piece_files.proofs.numeral.few_digits_in.Goals as goal

pub overflow_mul-number : goal.overflow_mul-number
overflow_mul-number c =
    let front = take c.loop-byte.byte-index c.args.bytes.now in
    let few : length front ≤ 18 = omega (arith, length-take c.loop-byte.byte-index c.args.bytes.now) in
    omega (arith, few_digits_fit front 18 c.loop-byte.invariant.0 few, c.loop-byte.invariant.1)

pub overflow_add-number : goal.overflow_add-number
overflow_add-number c =
    let front = take c.loop-byte.byte-index c.args.bytes.now in
    let few : length front ≤ 18 = omega (arith, length-take c.loop-byte.byte-index c.args.bytes.now) in
    omega (arith, few_digits_fit front 18 c.loop-byte.invariant.0 few, c.loop-byte.invariant.1, c.from.ensures, c.if-not-is_ascii_digit.ensures.cases)

pub loop-byte-preserved : goal.loop-byte-preserved
loop-byte-preserved c =
    let bytes = c.args.bytes.now in
    let i = c.loop-byte.byte-index in
    let within : i < length bytes = omega arith in
    let one = digit_value_digit (get_or bytes i 0) c.if-not-is_ascii_digit.ensures.cases in (
      subst (AllDigits 10) (sym (take_more bytes i 0 within)) (digits_more (take i bytes) (get_or bytes i 0) c.loop-byte.invariant.0 (c.if-not-is_ascii_digit.ensures.bound, tt)),
      omega (arith, digits_value_more 10 bytes i within, one, c.loop-byte.invariant.1, c.from.ensures),
    )
