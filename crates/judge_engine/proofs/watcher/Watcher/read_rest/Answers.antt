use Rattle.std.proofs.Common.{◌++◌, ◌<◌, length, arith, length-append}
use Rattle.judge_engine.proofs.LineLemmas.{long_line}
use Rattle.judge_engine.proofs.watcher.Watcher.read_rest.Goals as goal

pub returns-then-saturating_add-gt-MAX_LINE-clause-ok : goal.returns-then-saturating_add-gt-MAX_LINE-clause-ok
returns-then-saturating_add-gt-MAX_LINE-clause-ok c = λ basis h fed.
    let w = c.args.self.now in
    let long : 1000 < length (w.part.items ++ c.args.rest.now) = omega (arith, length-append w.part.items c.args.rest.now, c.saturating_add.ensures, c.len.ensures, c.if-saturating_add-gt-MAX_LINE.true) in
    (long_line _ long, fed)
