use Rattle.std.proofs.Common.{refl}
use Rattle.boostmap_c.proofs.judge.boostmap_judge_verdict.Goals as goal

pub returns : goal.returns
returns c =
    rw (c.in-Some.ensures.some, c.close.ensures)
    (refl, refl, c.verdict.result, c.verdict_of.ensures, λ way stripes h fed. c.verdict.ensures way stripes h (rw c.deref.ensures fed))
