use Rattle.std.proofs.Common.{[], ◌∷◌, ◌++◌, codes}
use Rattle.std.specs.Prelude.{string_bytes}
use Rattle.std.proofs.lemmas.Result.{on_ok_weaker}
use Rattle.txn_words.specs.Kinds.{caller_of}
use Rattle.judge_engine.specs.ReasonLines.{allowed_words, holder_line, named_line, transaction_lines}
use Rattle.judge_engine.proofs.Listed.{joined}
use Rattle.judge_engine.proofs.lines.put_reason.Goals as goal

pub returns-in_ok-put_holder-in-Lock : goal.returns-in_ok-put_holder-in-Lock
returns-in_ok-put_holder-in-Lock c =
    rw c.in-Lock.is (on_ok_weaker c.put_named.result (joined (string_bytes c.args.text.now) (holder_line c.in-Lock.stripe c.in-Lock.holder) (named_line c.args.basis c.args.bad) (string_bytes c.put_holder.new.text) (string_bytes c.put_named.new.text) c.in_ok-put_holder-in-Lock.ensures) c.put_named.ensures)

pub returns-in_ok-writeln-in-Shape : goal.returns-in_ok-writeln-in-Shape
returns-in_ok-writeln-in-Shape c =
    let caller = caller_of c.args.bad in
    let allowed = codes "what may stand there: " ++ (allowed_words caller c.in-Shape.phase c.in-Shape.newest c.in-Shape.began c.in-Shape.committed ++ 10 ∷ []) in
    let wrote = rw c.caller-caller.ensures at c.in_ok-writeln-in-Shape.ensures.bytes in
    let put = rw c.caller-caller.ensures at c.put_transaction.ensures in
    rw c.in-Shape.is (on_ok_weaker c.put_transaction.result (joined (string_bytes c.args.text.now) allowed (transaction_lines caller c.args.entries.now) (string_bytes c.writeln.new.self) (string_bytes c.put_transaction.new.text) wrote) put)
