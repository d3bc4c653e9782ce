use Rattle.bad_entry.proofs.due.value_now.Goals as goal

pub returns : goal.returns
returns c legal = c.value.ensures c.args.holder c.args.stripes c.args.entries.now c.in_ok-checker.ensures legal
