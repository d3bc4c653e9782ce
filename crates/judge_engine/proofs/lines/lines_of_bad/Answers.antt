use Rattle.std.proofs.Common.{length}
use Rattle.std.specs.Prelude.{string_bytes}
use Rattle.judge_engine.specs.ReasonLines.{entry_line, heading, reason_lines}
use Rattle.judge_engine.proofs.Bad.{serial_by}
use Rattle.judge_engine.proofs.Listed.{joined_three}
use Rattle.judge_engine.proofs.lines.lines_of_bad.Goals as goal

pub put_reason-requires-clause-serial : goal.put_reason-requires-clause-serial
put_reason-requires-clause-serial c = serial_by c.args.basis c.args.entries.now c.requires.legal

pub returns : goal.returns
returns c =
    let h = c.args.entries.now in
    let text = joined_three (string_bytes c.new-text.result) heading (entry_line (length h) c.args.bad) (reason_lines c.args.basis h c.args.bad c.in_ok-reason.reason) (string_bytes c.writeln.new.self) (string_bytes c.put_entry.new.text) (string_bytes c.put_reason.new.text) c.in_ok-writeln.ensures.bytes c.in_ok-put_entry.ensures c.in_ok-put_reason.ensures in
    (c.in_ok-reason.reason, c.in_ok-reason.ensures, rw c.new-text.ensures.bytes at text)
