use Rattle.std.proofs.Common.{◌≡◌, ◌++◌, take}
use Rattle.std.specs.Prelude.{string_bytes}
use Rattle.bad_entry.specs.Desks.{HaveNoted}
use Rattle.judge_engine.specs.WhyLines.{txn_lines}
use Rattle.judge_engine.proofs.order_why.put_entries.Given as goal

abbrev pub invariant-loop-index : goal.invariant-loop-index
invariant-loop-index l = record {
  noted : HaveNoted (take l.index l.entries) l.desks;
  written : string_bytes l.text ≡ string_bytes l.fn.text ++ txn_lines l.txn l.extent (take l.index l.entries);
}
