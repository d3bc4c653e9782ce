use Rattle.std.specs.Prelude.{string_bytes}
use Rattle.std.proofs.lemmas.Result.{on_ok_weaker}
use Rattle.judge_engine.specs.WhyLines.{edge_heading, first_extent, second_extent, txn_lines}
use Rattle.judge_engine.proofs.Listed.{joined_three}
use Rattle.judge_engine.proofs.order_why.put_edge.Goals as goal

pub returns : goal.returns
returns c =
    let h = c.args.entries.now in
    let edge = c.args.edge in
    on_ok_weaker c.put_entries-2.result (joined_three (string_bytes c.args.text.now) (edge_heading h edge c.args.to) (txn_lines edge.from (first_extent edge.kind edge.key) h) (txn_lines c.args.to (second_extent edge.kind edge.key) h) (string_bytes c.put_heading.new.text) (string_bytes c.put_entries.new.text) (string_bytes c.put_entries-2.new.text) c.in_ok-put_heading.ensures (rw c.first_extent-first.ensures at c.in_ok-put_entries.ensures)) (rw c.second_extent-second.ensures at c.put_entries-2.ensures)
