use Rattle.std.proofs.Common.{◌≡◌, [], ◌∷◌, Some, map, take}
use Rattle.std.specs.Prelude.{reverse}
use Rattle.serde_json.specs.View.{view}
use Rattle.bad_file.specs.declared.expected.Expected.TheVariants.{EntryName}
use Rattle.bad_file.proofs.Faults.{rest_of}
use Rattle.bad_file.proofs.elements.fault_in.Given as goal

abbrev pub invariant-loop-index : goal.invariant-loop-index
invariant-loop-index l = rest_of l.is_old l.ranged (take l.index (map view l.values)) (EntryName ∷ []) ≡ Some (reverse l.stack.items)
