use Rattle.std.proofs.Common.{◌++◌, ap, ◌∙◌}
use Rattle.std.specs.Prelude.{string_bytes}
use Rattle.std.proofs.lemmas.Result.{on_ok_weaker}
use Rattle.bad_entry.specs.Changes.{last_with_fate}
use Rattle.judge_engine.specs.ReasonLines.{last_line, misread_line, since_lines, transaction_lines}
use Rattle.judge_engine.proofs.Listed.{joined_four}
use Rattle.judge_engine.proofs.lines.put_misread.Goals as goal

pub returns : goal.returns
returns c =
    let h = c.args.entries.now in
    let k = c.args.key in
    let last = c.in_ok-put_last.ensures ∙ ap (λ last. string_bytes c.writeln.new.self ++ last_line k last) c.in_ok-last.ensures in
    on_ok_weaker c.put_transaction.result (joined_four (string_bytes c.args.text.now) (misread_line k c.args.read c.args.due) (last_line k (last_with_fate k h)) (since_lines k c.args.commit h) (transaction_lines c.args.caller h) (string_bytes c.writeln.new.self) (string_bytes c.put_last.new.text) (string_bytes c.put_since_commit.new.text) (string_bytes c.put_transaction.new.text) c.in_ok-writeln.ensures.bytes last c.in_ok-put_since_commit.ensures) c.put_transaction.ensures
