-- What it means to own a box's pointer.
use Rattle.std_alloc.specs.Box.Ownership.{box_owns}
use Rattle.std.specs.Global.{Global}
use Rattle.std.specs.contracts.impls.GlobalAllocator.TheImpl.{ghosts}
use base.Fml.{Fml, fex}
use denote.RattleType.{RattleType}
use denote.RawPtr.{Ptr}

-- Ownership of the value at the pointer, and the right to free its heap block.
abbrev pub owns_block : (R : RattleType) → Ptr → R.Denot → Fml
owns_block R p x = fex Global (λ heap. box_owns (ghosts.dealloc_token heap) R p x)
