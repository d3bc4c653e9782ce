use Rattle.std.proofs.Common.{◌∷◌, ◌++◌, [], codes, decimal}
use Rattle.std.specs.Prelude.{string_bytes}
use Rattle.std.proofs.lemmas.Result.{on_ok_weaker}
use Rattle.judge_engine.specs.OrderLines.{after_space, each_txn}
use Rattle.judge_engine.specs.ReasonLines.{value_words}
use Rattle.judge_engine.proofs.Listed.{joined_three}
use Rattle.judge_engine.proofs.order_lines.put_undecided.Goals as goal

pub returns : goal.returns
returns c =
    on_ok_weaker c.writeln.result (joined_three (string_bytes c.args.text.now) (codes "undecided key " ++ (decimal c.args.key ++ (codes " value " ++ (value_words c.args.value ++ codes ": transactions")))) (each_txn after_space c.args.writers.now) (10 ∷ []) (string_bytes c.write.new.self) (string_bytes c.put_spaced.new.text) (string_bytes c.writeln.new.self) c.in_ok-write.ensures.bytes c.in_ok-put_spaced.ensures) c.writeln.ensures.bytes
