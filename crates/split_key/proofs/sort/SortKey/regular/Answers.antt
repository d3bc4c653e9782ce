use Rattle.std.proofs.Common.{refl, ap, ◌∙◌}
use Rattle.split_key.specs.declared.sort.SortKey.{SortKey}
use Rattle.split_key.proofs.SortLemmas.{first_before_key}
use Rattle.split_key.proofs.PackedLemmas.{regular_packed, regular_seen}
use Rattle.split_key.proofs.sort.SortKey.regular.Goals as goal

pub invariant_of-result : goal.invariant_of-result
invariant_of-result c = rw (c.bytes.ensures, c.regular.ensures.value) (regular_packed _ _)

pub returns-clause-value : goal.returns-clause-value
returns-clause-value c =
    rw (c.bytes.ensures, c.regular.ensures.value, c.number.ensures) (regular_seen c.args.key _ (rw (← c.number.ensures) c.number.type_inv) refl)

pub returns-clause-apart : goal.returns-clause-apart
returns-clause-apart c other same = ap (λ (at : SortKey). at.key) (same ∙ returns-clause-value c)

pub returns-clause-behind_first : goal.returns-clause-behind_first
returns-clause-behind_first c = rw (returns-clause-value c) (first_before_key c.args.key)
