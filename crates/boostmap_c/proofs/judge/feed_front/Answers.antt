use Rattle.boostmap_c.proofs.Feeding.{fed_next, fed_front}
use Rattle.boostmap_c.proofs.judge.feed_front.Goals as goal

pub returns-then-status-ne-DONE : goal.returns-then-status-ne-DONE
returns-then-status-ne-DONE c =
    fed_front c.args.entries.now c.feeds.i _ c.args.referee.now c.feeds.referee c.feed_entry-status.new.referee c.feed_entry-status.result
    c.feeds-test.true c.feeds.invariant c.feed_entry-status.ensures c.if-status-ne-DONE.true

pub feeds-preserved : goal.feeds-preserved
feeds-preserved c =
    fed_next c.args.entries.now c.feeds.i _ c.args.referee.now c.feeds.referee c.feed_entry-status.new.referee c.feed_entry-status.result
    c.feeds-test.true c.feeds.invariant c.feed_entry-status.ensures c.if-status-ne-DONE.false
