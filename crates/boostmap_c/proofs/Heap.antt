-- The heap as a box's allocator, in the form that calls of `Box` methods take. This file makes no
-- assumptions.
use mathlib.Core.Path.{refl}
use mathlib.Core.List.{[], ◌∷◌}
use mir.Raw.{raw}
use mir.Syntax.{Ty, Dict, tnil, tcons, dnil, impl}
use denote.RattleType.{RattleType}
use denote.Exit.{no}
use denote.Param.{layout, arg}
use denote.Param.Laws.{Laws, arg_laws}
use Rattle.core.proofs.alloc.Calls.{Al}
use Rattle.std.proofs.alloc.Global.TheLaws as laws
use Rattle.std.specs.contracts.alloc.Global as heap
use Rattle.std.specs.contracts.impls.GlobalAllocator.TheImpl.{ghosts, dict}
use Rattle.std_alloc.proofs.BoxSteps.Form.{Bx}

-- The form in which a call passes the heap's handle, which takes no bytes.
abbrev handle : Ty
handle = raw (layout heap.the_row)

-- The drop glue that this crate's code names for the heap's handle. The handle needs no drop.
abbrev pub glue : Dict
glue = impl ("boostmap_c::Destruct++none::drop" ∷ []) (tcons handle tnil) dnil

-- The heap as an argument of a call, with everything that a statement assumes about an allocator.
abbrev pub the_heap : Al
the_heap = record { row = arg handle no heap.the_row; laws = arg_laws handle no heap.the_row laws.the_row_laws refl; g = ghosts; d = dict; drops = glue }

-- A box on the heap, for an element type.
abbrev pub on_heap : (T : RattleType) → Laws T → Bx
on_heap T L = record { row = T; laws = L; al = the_heap }
