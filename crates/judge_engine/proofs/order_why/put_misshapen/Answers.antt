use Rattle.std.proofs.Common.{◌≡◌, Some, take, sym, ap, ◌∙◌}
use Rattle.std.specs.Prelude.{slice_get, string_bytes}
use Rattle.std.proofs.lemmas.Option.{slice_get-get_or}
use Rattle.std.proofs.lemmas.Result.{on_ok_weaker}
use Rattle.txn_words.specs.declared.entry.Entry.{Entry}
use Rattle.txn_words.specs.Kinds.{caller_of}
use Rattle.judge_engine.specs.ReasonLines.{entry_line, heading, transaction_lines}
use Rattle.judge_engine.proofs.Listed.{joined_three}
use Rattle.judge_engine.proofs.order_why.put_misshapen.Goals as goal

pub returns : goal.returns
returns c =
    let h = c.args.entries.now in
    let i = c.args.index in
    let e = c.entry-entry.result in
    let there : slice_get h i ≡ Some e = slice_get-get_or h i c.in-Some.packed.now c.in-Some.ensures.lookup.3.0 ∙ ap (λ (x : Entry). Some x) (sym c.in-Some.ensures.lookup.1 ∙ sym c.entry-entry.ensures) in
    let put = rw c.caller.ensures at c.put_transaction.ensures in
    rw there (on_ok_weaker c.put_transaction.result (joined_three (string_bytes c.args.text.now) heading (entry_line i e) (transaction_lines (caller_of e) (take i h)) (string_bytes c.writeln.new.self) (string_bytes c.put_entry.new.text) (string_bytes c.put_transaction.new.text) c.in_ok-writeln.ensures.bytes c.in_ok-put_entry.ensures) put)
