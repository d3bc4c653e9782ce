use Rattle.std.proofs.Common.{sym, ap, ◌∙◌}
use Rattle.boost_core.proofs.Vocabulary.{owed, State}
use Rattle.boost_core.proofs.Numbers.{owed_is}
use Rattle.boost_core.proofs.machine.Core.owed.Goals as goal

pub returns : goal.returns
returns c = c.self.invariant.owes ∙ sym (owed_is _ c.self.invariant.tells) ∙ ap (λ (s : State). owed s.limits.callers s.history) c.self.view_is
