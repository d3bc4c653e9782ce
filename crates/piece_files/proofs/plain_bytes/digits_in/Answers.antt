use Rattle.std.proofs.Common.{◌<◌, ◌≤◌, length, get_or, take, sym, subst, arith, length-take-le}
use Rattle.std.specs.Str.Parse.{AllDigits}
use Rattle.std.proofs.lemmas.Int.Digits.{digits_value_more}
use Rattle.std.proofs.lemmas.List.{take_more}
use Rattle.std.proofs.lemmas.Str.{digit_value_digit}
use Rattle.piece_files.proofs.Numerals.{few_digits_fit, digits_more}
use Rattle.piece_files.proofs.plain_bytes.digits_in.Goals as goal

pub overflow_mul-number : goal.overflow_mul-number
overflow_mul-number c =
    let front = take c.digits.len c.args.bytes.now in
    let few : length front ≤ 18 = omega (arith, length-take-le c.digits.len c.args.bytes.now c.digits.invariant.0, c.if-len-lt-FEW.true) in
    omega (arith, few_digits_fit front 18 c.digits.invariant.2 few, c.digits.invariant.3)

pub overflow_add-number : goal.overflow_add-number
overflow_add-number c =
    let front = take c.digits.len c.args.bytes.now in
    let few : length front ≤ 18 = omega (arith, length-take-le c.digits.len c.args.bytes.now c.digits.invariant.0, c.if-len-lt-FEW.true) in
    omega (arith, few_digits_fit front 18 c.digits.invariant.2 few, c.digits.invariant.3, c.from.ensures, c.if-is_ascii_digit.ensures.cases)

pub digits-preserved : goal.digits-preserved
digits-preserved c =
    let bytes = c.args.bytes.now in
    let i = c.digits.len in
    let within : i < length bytes = omega arith in
    let one = digit_value_digit (get_or bytes i 0) c.if-is_ascii_digit.ensures.cases in (
      omega arith,
      omega (arith, c.if-len-lt-FEW.true),
      subst (AllDigits 10) (sym (take_more bytes i 0 within)) (digits_more (take i bytes) (get_or bytes i 0) c.digits.invariant.2 (c.if-is_ascii_digit.ensures.bound, tt)),
      omega (arith, digits_value_more 10 bytes i within, one, c.digits.invariant.3, c.from.ensures),
    )
