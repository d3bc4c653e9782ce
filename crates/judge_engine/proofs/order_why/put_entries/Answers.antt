use Rattle.std.proofs.Common.{List, take, subst, sym}
use Rattle.std.specs.Prelude.{string_bytes}
use Rattle.txn_words.specs.declared.entry.Entry.{Entry}
use Rattle.txn_words.specs.Kinds.{caller_of}
use Rattle.bad_entry.specs.Desks.{HaveNoted, IsDeskOf}
use Rattle.bad_entry.proofs.Steps.{next_take}
use Rattle.judge_engine.specs.WhyLines.{belongs}
use Rattle.judge_engine.proofs.Listed.{grown_where}
use Rattle.judge_engine.proofs.order_why.put_entries.Goals as goal

pub loop-index-preserved : goal.loop-index-preserved
loop-index-preserved c =
    let i = c.loop-index.index in
    let h = c.args.entries.now in
    let e = c.entry-entry.result in
    let next = next_take i h e c.index-entries-index.result c.loop-index-test.true c.entry-entry.ensures c.index-entries-index.is in
    let noted = c.loop-index.invariant.noted in
    let desk : IsDeskOf (take i h) (caller_of e) c.at.result = record {
      waiting = rw c.caller.ensures at (c.at.ensures.waiting (take i h) noted);
      txn = rw c.caller.ensures at (c.at.ensures.txn (take i h) noted);
    } in
    record {
      noted = subst (λ (g : List Entry). HaveNoted g c.enter.new.self) (sym next) (c.enter.ensures (take i h) noted);
      written = grown_where (belongs c.args.txn c.args.extent) (string_bytes c.put_if.new.text) (string_bytes c.loop-index.text) (string_bytes c.args.text.now) h i e c.belongs-is_chosen.result c.in_ok-put_if.ensures c.loop-index.invariant.written (c.belongs-is_chosen.ensures (take i h) desk) c.loop-index-test.true next;
    }
