use Rattle.std.proofs.Common.{◌≡◌, ◌++◌, take}
use Rattle.std.specs.Prelude.{string_bytes}
use Rattle.bad_entry.specs.Desks.{txn_in}
use Rattle.judge_engine.specs.ReasonLines.{is_of, lines_where}
use Rattle.judge_engine.proofs.lines.put_entries_of.Given as goal

abbrev pub invariant-loop-index : goal.invariant-loop-index
invariant-loop-index l = record {
  now : l.now ≡ txn_in (take l.index l.entries) l.caller;
  written : string_bytes l.text ≡ string_bytes l.fn.text ++ lines_where (is_of l.caller l.txn) (take l.index l.entries);
}
