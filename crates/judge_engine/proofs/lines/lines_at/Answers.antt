use Rattle.std.proofs.Common.{◌<◌}
use Rattle.std.proofs.lemmas.Result.{IfOk-weaker}
use Rattle.txn_words.specs.Kinds.{caller_of}
use Rattle.judge_engine.proofs.Bad.{holds_at}
use Rattle.judge_engine.proofs.lines.lines_at.Goals as goal

pub lines_of_bad-requires-clause-caller : goal.lines_of_bad-requires-clause-caller
lines_of_bad-requires-clause-caller c = holds_at (λ e. caller_of e < 64) c.args.entries.now c.args.index c.entry_within-bad.result c.requires.callers c.requires.within c.entry_within-bad.ensures

pub returns : goal.returns
returns c = IfOk-weaker c.lines_of_bad.result _ _ (λ text is. (c.entry_within-bad.result, c.entry_within-bad.ensures, is)) c.lines_of_bad.ensures
