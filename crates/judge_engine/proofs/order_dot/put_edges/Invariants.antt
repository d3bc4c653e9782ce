use Rattle.std.proofs.Common.{◌≡◌, ◌++◌, take}
use Rattle.std.specs.Prelude.{slice_get, string_bytes}
use Rattle.judge_engine.specs.DotLines.{edge_dots}
use Rattle.judge_engine.specs.OrderLines.{each_edge, from_or}
use Rattle.judge_engine.proofs.order_dot.put_edges.Given as goal

abbrev pub invariant-loop-index : goal.invariant-loop-index
invariant-loop-index l =
    string_bytes l.text ≡ string_bytes l.fn.text
    ++ each_edge (edge_dots l.fn.entries) (take l.index l.fn.edges) (from_or (slice_get l.fn.edges l.index) l.fn.end)
