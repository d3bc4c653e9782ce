use Rattle.std.proofs.Common.{ap, ◌∙◌}
use Rattle.txn_trace.specs.Now.{now}
use Rattle.owned_map.proofs.TrimmedMap.{put_once}
use Rattle.owned_map.proofs.FirstTransaction.{put_on, put_lacks}
use Rattle.owned_map.proofs.Growing.{kept_by, stamp_put}
use Rattle.owned_map.proofs.owned_map.OwnedMap.put_new.Goals as goal

pub returns-in-Done-clause-ok : goal.returns-in-Done-clause-ok
returns-in-Done-clause-ok c =
    (kept_by 0 c.ask.new.self.core c.grow.new.self.core c.grow.ensures).history
    ∙ (put_once c.args.self.now.core c.ask.new.self.core c.args.key c.args.value c.in-Done.field-0 c.trace-legal.ensures.legal c.in-Done.ensures c.requires.fresh).0

pub returns-in-Done-clause-map : goal.returns-in-Done-clause-map
returns-in-Done-clause-map c =
    ap now (kept_by 0 c.ask.new.self.core c.grow.new.self.core c.grow.ensures).history
    ∙ (put_once c.args.self.now.core c.ask.new.self.core c.args.key c.args.value c.in-Done.field-0 c.trace-legal.ensures.legal c.in-Done.ensures c.requires.fresh).1

pub returns-in-Done-clause-only : goal.returns-in-Done-clause-only
returns-in-Done-clause-only c =
    put_on c.args.self.now.core c.ask.new.self.core c.grow.new.self.core c.args.key c.args.value c.in-Done.field-0 c.requires.only c.trace-legal.ensures.legal c.in-Done.ensures c.grow.ensures

pub returns-in-Refused-clause-lack : goal.returns-in-Refused-clause-lack
returns-in-Refused-clause-lack c = put_lacks c.args.self.now.core c.ask.new.self.core c.args.key c.args.value c.in-Refused.refusal c.requires.only c.requires.taken c.in-Refused.ensures

pub returns-in-Done-clause-stamp : goal.returns-in-Done-clause-stamp
returns-in-Done-clause-stamp c = stamp_put 0 c.args.key c.args.value c.in-Done.field-0 c.args.self.now.core c.ask.new.self.core c.grow.new.self.core c.in-Done.ensures c.grow.ensures

pub returns-in-Done-clause-limits : goal.returns-in-Done-clause-limits
returns-in-Done-clause-limits c =
    (kept_by 0 c.ask.new.self.core c.grow.new.self.core c.grow.ensures).limits
    ∙ (put_once c.args.self.now.core c.ask.new.self.core c.args.key c.args.value c.in-Done.field-0 c.trace-legal.ensures.legal c.in-Done.ensures c.requires.fresh).2
