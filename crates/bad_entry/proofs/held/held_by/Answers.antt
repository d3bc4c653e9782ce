use Rattle.std.proofs.Common.{[], sym, ◌∙◌}
use Rattle.bad_entry.proofs.Fronts.{holder-fold}
use Rattle.bad_entry.proofs.held.held_by.Goals as goal

pub returns-in_default : goal.returns-in_default
returns-in_default c holder legal =
    sym (holder-fold holder c.args.stripes c.args.stripe [] c.args.entries.now legal) ∙ sym c.holder_in.ensures ∙ c.in_default.is

pub returns : goal.returns
returns c holder legal = (
  sym (holder-fold holder c.args.stripes c.args.stripe [] c.args.entries.now legal) ∙ sym c.holder_in.ensures ∙ c.in-Some.is,
  c.txn_of-txn.ensures,
  c.in_ok-since.ensures,
)
