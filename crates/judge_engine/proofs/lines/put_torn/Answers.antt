use Rattle.std.specs.Prelude.{string_bytes}
use Rattle.std.proofs.lemmas.Result.{on_ok_weaker}
use Rattle.judge_engine.specs.ReasonLines.{no_map_line, since_torn, transaction_lines}
use Rattle.judge_engine.proofs.Listed.{joined_three}
use Rattle.judge_engine.proofs.lines.put_torn.Goals as goal

pub returns : goal.returns
returns c =
    on_ok_weaker c.put_transaction.result (joined_three (string_bytes c.args.text.now) no_map_line (since_torn c.args.entries.now c.args.since) (transaction_lines c.args.caller c.args.entries.now) (string_bytes c.writeln.new.self) (string_bytes c.put_since_torn.new.text) (string_bytes c.put_transaction.new.text) c.in_ok-writeln.ensures.bytes c.in_ok-put_since_torn.ensures) c.put_transaction.ensures
