-- Different numbers with the same remainder are at least the modulus apart.
use Rattle.std.proofs.Common.{◌≡◌, ℕ, suc, ◌+◌, ◌*◌, ◌/◌, ◌%◌, ◌<◌, ◌≤◌, inl, inr, arith}
use Rattle.std.proofs.Math.Nat.{suc-mul, mul-le-mul_right}
use Rattle.std.proofs.lemmas.Nat.{div-add-mod'}
use Rattle.std.proofs.lemmas.Bool.{cases_lt}

-- If `a` and `b` have the same remainder modulo `w`, and `a` is less than `b`, then `b` is at least
-- `a + w`.
pub stride : (w a b : ℕ) → a % w ≡ b % w → a < b → a + w ≤ b
stride w a b same less =
    let one : a / w * w + a % w ≡ a = div-add-mod' a w in
    let two : b / w * w + b % w ≡ b = div-add-mod' b w in
    elim (cases_lt (a / w) (b / w)) [
      | inl up ↦
          let more : suc (a / w) * w ≡ a / w * w + w = suc-mul (a / w) w in
          let high : suc (a / w) * w ≤ b / w * w = mul-le-mul_right w up in
          omega arith
      | inr down ↦ let low : b / w * w ≤ a / w * w = mul-le-mul_right w down in absurd (omega arith)
    ]
