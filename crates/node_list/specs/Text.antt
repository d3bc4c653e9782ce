-- The texts of faults.
use Rattle.std.specs.Prelude.{ℕ, List, codes}
use Rattle.node_list.specs.declared.spare.SpareFault.{SpareFault}
use Rattle.node_list.specs.declared.spare.SpareFault.TheVariants.{Worn, NoMemory}

-- The text of a fault.
abbrev pub fault_text : SpareFault → List ℕ
fault_text Worn = codes "the list has no stamp left for a spare"
fault_text NoMemory = codes "the list got no memory for a spare"
