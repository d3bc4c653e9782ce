use Rattle.std.proofs.lemmas.Result.{on_ok_weaker}
use Rattle.judge_engine.proofs.Feeding.{fed_locks, fed_commits}
use Rattle.judge_engine.proofs.judge.Judge.feed.Goals as goal

pub returns-in-Locks : goal.returns-in-Locks
returns-in-Locks c = on_ok_weaker c.feed.result (λ more. fed_locks c.args.self.now c.in-Locks.checker c.feed.new.self c.args.entry.now c.in-Locks.is more) c.feed.ensures.ok

pub returns-in-Commits : goal.returns-in-Commits
returns-in-Commits c = on_ok_weaker c.feed-in-Commits.result (λ more. fed_commits c.args.self.now c.in-Commits.checker c.feed-in-Commits.new.self c.args.entry.now c.in-Commits.is more) c.feed-in-Commits.ensures.ok
