use Rattle.std.proofs.Common.{◌++◌, ◌∙◌, length, codes}
use Rattle.std.specs.Prelude.{decimal, string_bytes}
use Rattle.std.proofs.lemmas.Result.{on_ok_weaker}
use Rattle.judge_engine.specs.Classes.{class_of, class_words, suffix_of}
use Rattle.judge_engine.specs.OrderLines.{after_semicolon, each_edge, first_from}
use Rattle.judge_engine.proofs.Listed.{joined}
use Rattle.judge_engine.proofs.OrderTexts.{first_is}
use Rattle.judge_engine.proofs.order_lines.put_cycle.Goals as goal

pub returns : goal.returns
returns c =
    let edges = c.args.edges.now in
    let first = c.from_at.ensures ∙ first_is edges 0 in
    let opening = class_words (class_of edges) ++ (suffix_of edges ++ (codes ", cycle of " ++ decimal (length edges))) in
    on_ok_weaker c.put_edges.result (joined (string_bytes c.args.text.now) opening (each_edge after_semicolon edges (first_from edges 0)) (string_bytes c.write.new.self) (string_bytes c.put_edges.new.text) (rw (c.class_of.ensures, c.has_time.ensures) at c.in_ok-write.ensures.bytes)) (rw first at c.put_edges.ensures)
