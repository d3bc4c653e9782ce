use Rattle.std.proofs.Common.{ap, sym, ◌∙◌, is_some}
use Rattle.std.proofs.lemmas.Bool.{false≢true}
use mathlib.Core.Logic.{inl}
use Rattle.order_check.proofs.exclusion.first_source.Goals as goal

pub returns-then-is_some : goal.returns-then-is_some
returns-then-is_some c n since accesses are all = inl (λ ts order last. false≢true (sym (ap is_some last.0) ∙ sym c.is_some.ensures ∙ c.if-is_some.true))

pub returns-then-is_excluded : goal.returns-then-is_excluded
returns-then-is_excluded c n since accesses are all = inl (c.is_excluded.ensures c.if-is_excluded.true n since accesses are all)
