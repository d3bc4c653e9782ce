use Rattle.std.proofs.Common.{◌∷◌, ◌++◌, [], codes}
use Rattle.std.specs.Prelude.{string_bytes}
use Rattle.std.proofs.lemmas.Result.{on_ok_weaker}
use Rattle.judge_engine.specs.OrderLines.{in_time_if, reason_words}
use Rattle.judge_engine.proofs.Listed.{joined_three}
use Rattle.judge_engine.proofs.order_lines.put_reason.Goals as goal

pub returns : goal.returns
returns c =
    on_ok_weaker c.writeln.result (joined_three (string_bytes c.args.text.now) (codes "not serializable" ++ (in_time_if c.args.real_time ++ codes ": ")) (reason_words c.args.real_time c.args.reason.now) (10 ∷ []) (string_bytes c.write.new.self) (string_bytes c.put_reason_words.new.text) (string_bytes c.writeln.new.self) c.in_ok-write.ensures.bytes c.in_ok-put_reason_words.ensures) c.writeln.ensures.bytes
