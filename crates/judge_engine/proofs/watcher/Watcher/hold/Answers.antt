use Rattle.std.proofs.Common.{◌++◌, ◌<◌, length, ◌∙◌, sym, arith, length-append}
use Rattle.judge_engine.proofs.LineLemmas.{stands_long}
use Rattle.judge_engine.proofs.Taking.{none_yet}
use Rattle.judge_engine.proofs.watcher.Watcher.hold.Goals as goal

pub returns-then-saturating_add-gt-MAX_LINE-clause-ok : goal.returns-then-saturating_add-gt-MAX_LINE-clause-ok
returns-then-saturating_add-gt-MAX_LINE-clause-ok c = λ basis bytes t.
    let w = c.args.self.now in
    let here = none_yet bytes t.entries w.part.items w.number w.refused (sym c.is_some.ensures ∙ c.if-is_some.false) t.place in
    let long : 1000 < length (w.part.items ++ c.args.piece.now) = omega (arith, length-append w.part.items c.args.piece.now, c.saturating_add.ensures, c.len.ensures, c.if-saturating_add-gt-MAX_LINE.true) in
    record {
      entries = t.entries;
      fed = t.fed;
      place = stands_long bytes t.entries w.part.items w.number c.args.piece.now c.requires here w.part.items w.number long;
    }
