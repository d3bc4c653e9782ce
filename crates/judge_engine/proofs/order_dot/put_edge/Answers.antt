use Rattle.std.specs.Prelude.{string_bytes}
use Rattle.std.proofs.lemmas.Result.{on_ok_weaker}
use Rattle.judge_engine.specs.DotLines.{arrow_line, node_line}
use Rattle.judge_engine.proofs.Listed.{joined}
use Rattle.judge_engine.proofs.order_dot.put_edge.Goals as goal

pub returns : goal.returns
returns c =
    let edge = c.args.edge in
    on_ok_weaker c.put_arrow.result (joined (string_bytes c.args.text.now) (node_line c.args.entries.now edge.from) (arrow_line edge c.args.to) (string_bytes c.put_node.new.text) (string_bytes c.put_arrow.new.text) c.in_ok-put_node.ensures) c.put_arrow.ensures
