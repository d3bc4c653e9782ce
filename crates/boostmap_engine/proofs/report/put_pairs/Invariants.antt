use Rattle.std.proofs.Common.{◌≡◌, ◌++◌, take}
use Rattle.std.specs.Prelude.{string_bytes}
use Rattle.boostmap_engine.specs.Report.{pairs_text}
use Rattle.boostmap_engine.proofs.report.put_pairs.Given as goal

abbrev pub invariant-loop-key : goal.invariant-loop-key
invariant-loop-key l = string_bytes l.text ≡ string_bytes l.fn.text ++ pairs_text (take l.key-index l.pairs)
