use Rattle.std.proofs.Common.{ℕ, List, inl, refl, ap, subst, ◌∙◌}
use Rattle.boost_core.specs.State.{State}
use Rattle.txn_trace.specs.Now.{now}
use Rattle.txn_words.specs.Ordered.{ordered}
use Rattle.boostmap_c.specs.Contents.{LaysOf}
use Rattle.boostmap_c.proofs.read.boostmap_read.Goals as goal

pub returns : goal.returns
returns c =
    rw (c.get_mut-held.ensures.value) (
      refl,
      inl (subst (λ (xs : List (ℕ × ℕ)). LaysOf xs c.lay_all.result c.args.pairs.now c.lay_all.new.pairs c.lay_all.new.word)
          (c.deref.ensures.value ∙ c.in-Ok.ensures ∙ ap (λ (s : State). ordered (now s.history)) c.core.ensures) c.lay_all.ensures),
    )
