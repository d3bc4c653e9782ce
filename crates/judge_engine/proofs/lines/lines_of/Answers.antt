use Rattle.std.proofs.Common.{subst}
use Rattle.judge_engine.specs.Bases.{IsVerdictBy}
use Rattle.judge_engine.proofs.Bad.{bad_within, legal_before}
use Rattle.judge_engine.proofs.lines.lines_of.Goals as goal

pub lines_at-requires-clause-within : goal.lines_at-requires-clause-within
lines_at-requires-clause-within c =
    bad_within c.args.basis c.args.entries.now c.in-Illegal.entry c.in-Illegal.rule (subst (IsVerdictBy c.args.basis c.args.entries.now) c.in-Illegal.is c.requires.verdict)

pub lines_at-requires-clause-legal : goal.lines_at-requires-clause-legal
lines_at-requires-clause-legal c =
    legal_before c.args.basis c.args.entries.now c.in-Illegal.entry c.in-Illegal.rule (subst (IsVerdictBy c.args.basis c.args.entries.now) c.in-Illegal.is c.requires.verdict)

pub returns-in-Illegal : goal.returns-in-Illegal
returns-in-Illegal c = rw c.in-Illegal.is c.lines_at.ensures
