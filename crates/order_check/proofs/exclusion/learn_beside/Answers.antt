use Rattle.std.proofs.Common.{sym, ◌∙◌}
use Rattle.order_check.proofs.SourcesLeft.{reader_first, before_source}
use Rattle.order_check.proofs.exclusion.learn_beside.Goals as goal

pub returns-then-is_before : goal.returns-then-is_before
returns-then-is_before c n since accesses were beside =
    c.learn.ensures n since accesses were
    (reader_first n since accesses c.args.source c.args.txn c.args.reader beside c.if-txn-source.false c.requires (were c.args.source c.args.txn (sym c.is_before.ensures ∙ c.if-is_before.true)))

pub returns-then-is_before-2 : goal.returns-then-is_before-2
returns-then-is_before-2 c n since accesses were beside =
    c.learn-then-is_before-2.ensures n since accesses were
    (before_source n since accesses c.args.source c.args.txn c.args.reader beside c.if-txn-source.false c.requires (were c.args.txn c.args.reader (sym c.is_before-2.ensures ∙ c.if-is_before-2.true)))
