use Rattle.std.proofs.Common.{◌≡◌, ◌∙◌, arith, rules}
use Rattle.split_key.specs.Split.{reversed}
use Rattle.split_key.proofs.SplitLemmas.{same_from_reversed}
use Rattle.split_key.proofs.AncestorLemmas.{ancestor_before}
use Rattle.split_key.proofs.split.dummy.Goals as goal

pub returns-clause-apart : goal.returns-clause-apart
returns-clause-apart c other fits same = same_from_reversed other c.args.bucket (omega arith) (omega arith) (same ∙ search rules)

pub returns-clause-order : goal.returns-clause-order
returns-clause-order c ancestor is other =
    let value : c.reverse.result ≡ reversed c.args.bucket = search rules in
    rw value (ancestor_before ancestor c.args.bucket (omega arith) is other)
