use Rattle.std.proofs.Common.{◌≡◌, ◌∙◌, ap, arith, bit_or, ◌^◌}
use Rattle.split_key.specs.Split.{reversed, split}
use Rattle.split_key.proofs.SplitLemmas.{top_set_is, same_from_split, split_same, split_odd}
use Rattle.split_key.proofs.split.regular.Goals as goal
use Rattle.split_key.proofs.split.regular.Goals.{After-reverse}

value_of : (c : After-reverse) → c.reverse.result ≡ split c.args.key
unfolding split
value_of c = c.reverse.ensures.value ∙ ap (λ key. reversed (bit_or key (2 ^ 63))) c.number.ensures ∙ ap reversed (top_set_is c.args.key (omega arith))

pub returns-clause-value : goal.returns-clause-value
returns-clause-value c = value_of c

pub returns-clause-odd : goal.returns-clause-odd
returns-clause-odd c = rw (value_of c) (split_odd c.args.key)

pub returns-clause-shared : goal.returns-clause-shared
returns-clause-shared c other same = rw (value_of c) (split_same other c.args.key same)

pub returns-clause-apart : goal.returns-clause-apart
returns-clause-apart c other same = same_from_split other c.args.key (same ∙ value_of c)
