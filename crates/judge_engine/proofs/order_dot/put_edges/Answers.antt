use Rattle.std.proofs.Common.{◌++◌, ap₂, List, Option, ◌∙◌}
use Rattle.std.specs.Prelude.{string_bytes}
use Rattle.std.proofs.lemmas.List.{take_all}
use Rattle.std.proofs.lemmas.Option.{slice_get_past}
use Rattle.order_check.specs.declared.edge.Edge.{Edge}
use Rattle.judge_engine.specs.DotLines.{edge_dots}
use Rattle.judge_engine.specs.OrderLines.{each_edge, from_or}
use Rattle.judge_engine.proofs.OrderTexts.{grown_edges}
use Rattle.judge_engine.proofs.order_dot.put_edges.Goals as goal

pub loop-index-preserved : goal.loop-index-preserved
loop-index-preserved c =
    grown_edges (edge_dots c.args.entries.now) (string_bytes c.put_edge.new.text) (string_bytes c.loop-index.text) (string_bytes c.args.text.now) c.args.edges.now c.loop-index.index _ c.from_at-to.result c.args.end c.in_ok-put_edge.ensures c.loop-index.invariant c.from_at-to.ensures c.loop-index-test.true

pub returns : goal.returns
returns c =
    let whole = take_all c.loop-index.index c.args.edges.now c.loop-index-test.false in
    let past = slice_get_past c.args.edges.now c.loop-index.index c.loop-index-test.false in
    c.loop-index.invariant ∙ ap₂ (λ (es : List Edge) (o : Option Edge). string_bytes c.args.text.now ++ each_edge (edge_dots c.args.entries.now) es (from_or o c.args.end)) whole past
