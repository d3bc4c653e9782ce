use Rattle.std.proofs.Common.{◌++◌, List, ℕ, ap, subst, sym, ◌∙◌}
use Rattle.std.proofs.lemmas.Result.{err_from_is_err_and}
use Rattle.std.specs.Io.KnownBytes.{Appends}
use Rattle.txn_files.specs.HistoryText.{text_of_history}
use Rattle.boostmap_engine.specs.Report.{line}
use Rattle.txn_files.proofs.Writes.{Appends-then}
use Rattle.boostmap_engine.proofs.WrittenBlocks.{block_written, part_written, nothing_left, whole_written}
use Rattle.boostmap_engine.proofs.output.write_history.Goals as goal

pub loop-blocks-preserved : goal.loop-blocks-preserved
loop-blocks-preserved g c =
    let before = c.loop-blocks.invariant in
    let left = c.next_block.ensures.whole ∙ ap (λ (xs : List ℕ). xs ++ c.next_block.new.self) (sym c.text.ensures) in (
      before.0 ++ c.text.result.now,
      block_written (line (text_of_history c.args.version c.args.stripes c.args.entries.now)) before.0 c.loop-blocks.blocks c.text.result.now c.next_block.new.self before.1 left,
      Appends-then (g.W.Write.contents c.args.output.now) (g.W.Write.contents c.loop-blocks.output) (g.W.Write.contents c.write_text.new.output) before.0 c.text.result.now before.2 c.in_ok-write_text.ensures.ok,
    )

pub returns-in_err-write_text-clause-err : goal.returns-in_err-write_text-clause-err
returns-in_err-write_text-clause-err g c =
    let before = c.loop-blocks.invariant in
    let left = c.next_block.ensures.whole ∙ ap (λ (xs : List ℕ). xs ++ c.next_block.new.self) (sym c.text.ensures) in
    let p = err_from_is_err_and c.from_residual-in_err-write_text.result c.from_residual-in_err-write_text.ensures.1 in
    rw (p.1, p.2)
    (part_written (g.W.Write.contents c.args.output.now) (g.W.Write.contents c.loop-blocks.output) (g.W.Write.contents c.write_text.new.output)
    (line (text_of_history c.args.version c.args.stripes c.args.entries.now)) before.0 c.loop-blocks.blocks c.text.result.now c.next_block.new.self before.1 left before.2 c.in_err-write_text.ensures.err)

pub returns-clause-ok : goal.returns-clause-ok
returns-clause-ok g c =
    let before = c.loop-blocks.invariant in
    let none = nothing_left c.next_block.result c.loop-blocks.blocks c.next_block.new.block c.next_block.new.self _ c.loop-blocks-test.false c.next_block.ensures.some c.next_block.ensures.full c.next_block.ensures.whole in
    subst (Appends (g.W.Write.contents c.args.output.now) (g.W.Write.contents c.loop-blocks.output)) (whole_written (line (text_of_history c.args.version c.args.stripes c.args.entries.now)) before.0 c.loop-blocks.blocks before.1 none) before.2
