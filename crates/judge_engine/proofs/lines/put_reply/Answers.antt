use Rattle.std.proofs.Common.{◌++◌, ap, ◌∙◌}
use Rattle.std.specs.Prelude.{string_bytes}
use Rattle.std.proofs.lemmas.Result.{on_ok_weaker}
use Rattle.bad_entry.specs.Commits.{last_commit}
use Rattle.judge_engine.specs.ReasonLines.{due_line, last_line, since_lines, transaction_lines}
use Rattle.judge_engine.proofs.Listed.{joined_four}
use Rattle.judge_engine.proofs.lines.put_reply.Goals as goal

pub returns : goal.returns
returns c =
    let h = c.args.entries.now in
    let k = c.args.key in
    let since = c.in_ok-put_since_commit.ensures ∙ ap (λ commit. string_bytes c.put_last.new.text ++ since_lines k commit h) (c.in_ok-commit.ensures c.requires.serial) in
    on_ok_weaker c.put_transaction.result (joined_four (string_bytes c.args.text.now) (due_line c.args.due) (last_line k c.args.last) (since_lines k (last_commit k h) h) (transaction_lines c.args.caller h) (string_bytes c.writeln.new.self) (string_bytes c.put_last.new.text) (string_bytes c.put_since_commit.new.text) (string_bytes c.put_transaction.new.text) c.in_ok-writeln.ensures.bytes c.in_ok-put_last.ensures since) c.put_transaction.ensures
