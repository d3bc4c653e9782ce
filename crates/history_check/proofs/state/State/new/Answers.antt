use Rattle.txn_trace.proofs.BadEntries.{legal_none}
use Rattle.history_check.proofs.state.State.new.Goals as goal

pub returns : goal.returns
returns c = record { legal = legal_none c.args.stripes; entered = c.in_ok-new.ensures; shows = c.in_ok-new-2.ensures }
