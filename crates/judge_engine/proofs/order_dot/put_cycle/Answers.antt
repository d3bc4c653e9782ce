use Rattle.std.proofs.Common.{◌∙◌}
use Rattle.std.specs.Prelude.{string_bytes}
use Rattle.std.proofs.lemmas.Result.{on_ok_weaker}
use Rattle.judge_engine.specs.DotLines.{class_line, edge_dots}
use Rattle.judge_engine.specs.OrderLines.{each_edge, first_from}
use Rattle.judge_engine.proofs.Listed.{joined}
use Rattle.judge_engine.proofs.OrderTexts.{first_is}
use Rattle.judge_engine.proofs.order_dot.put_cycle.Goals as goal

pub returns : goal.returns
returns c =
    let edges = c.args.edges.now in
    let first = c.from_at.ensures ∙ first_is edges 0 in
    on_ok_weaker c.put_edges.result (joined (string_bytes c.args.text.now) (class_line edges) (each_edge (edge_dots c.args.entries.now) edges (first_from edges 0)) (string_bytes c.writeln.new.self) (string_bytes c.put_edges.new.text) (rw (c.class_of.ensures, c.has_time.ensures) at c.in_ok-writeln.ensures.bytes)) (rw first at c.put_edges.ensures)
