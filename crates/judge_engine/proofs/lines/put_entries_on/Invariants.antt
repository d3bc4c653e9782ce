use Rattle.std.proofs.Common.{◌≡◌, ◌++◌, take}
use Rattle.std.specs.Prelude.{string_bytes}
use Rattle.history_check.specs.Callers.{HaveEntered}
use Rattle.judge_engine.specs.ReasonLines.{lines_on}
use Rattle.judge_engine.proofs.lines.put_entries_on.Given as goal

abbrev pub invariant-loop-index : goal.invariant-loop-index
invariant-loop-index l = record {
  entered : HaveEntered (take l.index l.entries) l.callers;
  written : string_bytes l.text ≡ string_bytes l.fn.text ++ lines_on l.key l.first (take l.index l.entries);
}
