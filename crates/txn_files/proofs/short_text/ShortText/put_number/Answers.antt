use Rattle.std.proofs.Common.{◌≡◌, length, drop, arith, sym, ap, subst, length-append, length-drop}
use Rattle.std.specs.Fmt.{decimal}
use Rattle.std.specs.Str.{IsUtf8}
use Rattle.std.proofs.lemmas.Fmt.{length-decimal-le, IsAscii-decimal}
use Rattle.std.proofs.lemmas.Str.{IsUtf8-append, IsUtf8-from_ascii, IsUtf8-had}
use Rattle.txn_files.proofs.short_text.ShortText.put_number.Goals as goal

pub write_digits-self-inside-requires : goal.write_digits-self-inside-requires
write_digits-self-inside-requires c =
    let few = length-decimal-le 20 c.args.number (omega arith) (omega arith) c.ranges.number.fits in
    let there : length c.args.self.now ≡ length (drop c.self.inside.start c.self.inside.bytes) = ap length (sym c.self.view_is) in
    (omega (arith, few, there, length-drop c.self.inside.start c.self.inside.bytes, c.requires, c.self.invariant.0), omega (arith, c.self.invariant.0))

pub invariant_of-self : goal.invariant_of-self
invariant_of-self c =
    let rest = drop c.self.inside.start c.self.inside.bytes in
    let digits = IsUtf8-from_ascii (decimal c.args.number) (IsAscii-decimal c.args.number c.ranges.number.fits) in (
      omega (arith, c.write_digits-self-inside.ensures.start, c.self.invariant.0),
      ∣ subst IsUtf8 (sym c.write_digits-self-inside.ensures.written) (IsUtf8-append (decimal c.args.number) rest digits (IsUtf8-had rest c.self.invariant.1)) ∣₁,
    )

pub returns-clause-few : goal.returns-clause-few
returns-clause-few c =
    let rest = drop c.self.inside.start c.self.inside.bytes in
    let few = length-decimal-le 20 c.args.number (omega arith) (omega arith) c.ranges.number.fits in
    let there : length c.args.self.now ≡ length rest = ap length (sym c.self.view_is) in
    omega (arith, few, there, ap length c.write_digits-self-inside.ensures.written, length-append (decimal c.args.number) rest)
