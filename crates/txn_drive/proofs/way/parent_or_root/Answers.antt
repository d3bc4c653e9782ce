use Rattle.std.proofs.Common.{sym, ap, ◌∙◌}
use Rattle.split_key.specs.Split.{parent_of}
use Rattle.txn_drive.proofs.WayLemmas.{parent_of-zero}
use Rattle.txn_drive.proofs.way.parent_or_root.Goals as goal

pub returns-then-bucket-eq0 : goal.returns-then-bucket-eq0
returns-then-bucket-eq0 c = sym (ap parent_of c.if-bucket-eq0.true ∙ parent_of-zero)
