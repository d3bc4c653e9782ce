use Rattle.std.proofs.Common.{◌∷◌, [], ◌++◌, false, codes}
use Rattle.std.specs.Prelude.{string_bytes}
use Rattle.judge_engine.specs.DotLines.{verdict_dots}
use Rattle.judge_engine.specs.OrderLines.{order_text}
use Rattle.judge_engine.proofs.Listed.{joined_three}
use Rattle.judge_engine.proofs.order.graph_of.Goals as goal

pub returns : goal.returns
returns c found =
    let h = c.args.entries.now in
    let verdict = c.args.ordered.now.verdict in
    let line = c.in_ok-line.ensures h found in
    let opening = codes "digraph {" ++ 10 ∷ (codes "  // " ++ order_text c.args.real_time false h verdict) in
    joined_three [] opening (verdict_dots h verdict) (codes "}" ++ 10 ∷ []) (string_bytes c.write.new.self) (string_bytes c.put_graph.new.text) (string_bytes c.writeln.new.self) (rw (c.new-text.ensures.bytes, line) at c.in_ok-write.ensures.bytes) c.in_ok-put_graph.ensures c.in_ok-writeln.ensures.bytes
