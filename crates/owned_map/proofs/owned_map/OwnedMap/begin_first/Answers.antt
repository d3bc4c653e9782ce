use Rattle.std.proofs.Common.{ap}
use Rattle.txn_words.specs.Sizes.{Sizes}
use Rattle.owned_map.proofs.TrimmedMap.{begun_first}
use Rattle.owned_map.proofs.FirstTransaction.{caller_there, begun, begin_lacks}
use Rattle.owned_map.proofs.owned_map.OwnedMap.begin_first.Goals as goal

pub returns-in-Began-clause-ok : goal.returns-in-Began-clause-ok
returns-in-Began-clause-ok c = begun_first c.args.self.now.core c.take_step.new.self.core c.in-Began.field-0 c.requires.blank c.in-Began.ensures.moves

pub returns-in-Began-clause-only : goal.returns-in-Began-clause-only
returns-in-Began-clause-only c =
    begun c.args.self.now.core c.take_step.new.self.core c.in-Began.field-0 c.requires.blank (caller_there c.args.self.now.core.limits c.limits.result.callers c.limits.result.stripes c.limits.result.buckets c.callers-callers.ensures.limits (ap (λ (l : Sizes). l.callers) c.limits.ensures))
    c.trace-legal.ensures.legal c.in-Began.ensures.moves

pub returns-in-Refused-clause-lack : goal.returns-in-Refused-clause-lack
returns-in-Refused-clause-lack c =
    begin_lacks c.args.self.now.core c.take_step.new.self.core c.in-Refused.refusal c.requires.blank (caller_there c.args.self.now.core.limits c.limits.result.callers c.limits.result.stripes c.limits.result.buckets c.callers-callers.ensures.limits (ap (λ (l : Sizes). l.callers) c.limits.ensures))
    c.in-Refused.ensures.moves

pub returns-in-Began-clause-stamp : goal.returns-in-Began-clause-stamp
returns-in-Began-clause-stamp c = c.in-Began.ensures.event.lists.stamp
