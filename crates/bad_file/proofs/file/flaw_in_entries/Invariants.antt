use Rattle.std.proofs.Common.{map, take}
use Rattle.serde_json.specs.View.{view}
use Rattle.bad_file.specs.Flaws.{AreEntries}
use Rattle.bad_file.proofs.file.flaw_in_entries.Given as goal

abbrev pub invariant-loop-index : goal.invariant-loop-index
invariant-loop-index l = AreEntries l.is_old l.ranged (take l.index (map view l.entries))
