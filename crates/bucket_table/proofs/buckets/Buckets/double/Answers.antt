use Rattle.std.proofs.Common.{◌≡◌, ◌*◌, ◌∙◌, sym, arith}
use Rattle.bucket_table.proofs.DirectoryLemmas.{sound_with_size, double_within}
use Rattle.bucket_table.proofs.buckets.Buckets.double.Goals as goal

pub overflow_mul-self : goal.overflow_mul-self
overflow_mul-self c =
    let below = double_within _ c.self.invariant (λ same. c.if-self-limit.false (same ∙ sym c.limit.ensures)) in
    omega (arith, below, c.self.invariant.fits)

pub invariant_of-self : goal.invariant_of-self
invariant_of-self c =
    let twice : c.self.inside.size * 2 ≡ 2 * c.self.inside.size = omega arith in
    rw twice (sound_with_size _ c.self.invariant (λ same. c.if-self-limit.false (same ∙ sym c.limit.ensures)))
