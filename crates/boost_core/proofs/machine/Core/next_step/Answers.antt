use Rattle.std.proofs.Common.{ap, ◌∙◌}
use Rattle.boost_core.proofs.Vocabulary.{sized_of, State}
use Rattle.boost_core.proofs.machine.Core.next_step.Goals as goal

pub returns-in-Ended-clause-drive : goal.returns-in-Ended-clause-drive
returns-in-Ended-clause-drive c = c.turn.ensures.drive ∙ ap (λ n. sized_of n c.args.drive.now) (c.size.ensures.size ∙ ap (λ (s : State). s.size) c.self.view_is)
