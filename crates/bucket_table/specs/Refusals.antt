-- The refusals when the list gives no spare for a new dummy.
use Rattle.node_list.specs.declared.spare.SpareFault.{SpareFault}
use Rattle.node_list.specs.declared.spare.SpareFault.TheVariants.{Worn, NoMemory as SpareNoMemory}
use Rattle.bucket_table.specs.declared.answer.InitRefusal.{InitRefusal}
use Rattle.bucket_table.specs.declared.answer.InitRefusal.TheVariants.{StampsUsedUp, NoMemory}

-- The refusal that is returned if the list gives no spare, for this reason, for a new dummy.
abbrev pub refusal_of : SpareFault → InitRefusal
refusal_of Worn = StampsUsedUp
refusal_of SpareNoMemory = NoMemory
