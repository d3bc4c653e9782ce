-- The pointer of a handle after a reference to what it owns has ended.
use Rattle.std.specs.Prelude.{Some}
use Rattle.std.specs.Borrow.{Fml, MutBor, Lends}
use Rattle.boostmap_c.specs.declared.held_map.HeldMap.{HeldMap}
use Rattle.boostmap_c.specs.contracts.held_map.HeldMap.{the_row as held_map_row}
use Rattle.boostmap_c.specs.declared.map_pointer.MapPointer.{MapPointer}
use Rattle.boostmap_c.specs.contracts.map_pointer.MapPointer.{the_row as map_pointer_row}
use Rattle.boostmap_c.specs.declared.keeper.Keeper.{Keeper}
use Rattle.boostmap_c.specs.contracts.keeper.Keeper.{the_row as keeper_row}
use Rattle.boostmap_c.specs.declared.keeper_pointer.KeeperPointer.{KeeperPointer}
use Rattle.boostmap_c.specs.contracts.keeper_pointer.KeeperPointer.{the_row as keeper_pointer_row}
use Rattle.boostmap_c.specs.declared.member.Member.{Member}
use Rattle.boostmap_c.specs.contracts.member.Member.{the_row as member_row}
use Rattle.boostmap_c.specs.declared.member_pointer.MemberPointer.{MemberPointer}
use Rattle.boostmap_c.specs.contracts.member_pointer.MemberPointer.{the_row}

-- A pointer that has the same address as `pointer`, and the given map behind it.
abbrev pub with_map : MapPointer → HeldMap → MapPointer
with_map pointer held = record { at = pointer.at; map = Some held }

-- When the reference ends, the pointer's map is the map that the reference has at that moment. The
-- address is unchanged.
abbrev pub LendsMap : MutBor MapPointer → MutBor HeldMap → Fml
LendsMap pointer reference =
    Lends map_pointer_row held_map_row pointer reference (with_map pointer.now)

-- A pointer that has the same address as `pointer`, and the given member behind it.
abbrev pub with_member : MemberPointer → Member → MemberPointer
with_member pointer member = record { at = pointer.at; member = Some member }

-- When the reference ends, the pointer's member is the member that the reference has at that
-- moment. The address is unchanged.
abbrev pub LendsMember : MutBor MemberPointer → MutBor Member → Fml
LendsMember pointer reference =
    Lends the_row member_row pointer reference (with_member pointer.now)

-- A pointer that has the same address as `pointer`, and the given keeper behind it.
abbrev pub with_keeper : KeeperPointer → Keeper → KeeperPointer
with_keeper pointer keeper = record { at = pointer.at; keeper = Some keeper }

-- When the reference ends, the pointer's keeper is the keeper that the reference has at that
-- moment. The address is unchanged.
abbrev pub LendsKeeper : MutBor KeeperPointer → MutBor Keeper → Fml
LendsKeeper pointer reference =
    Lends keeper_pointer_row keeper_row pointer reference (with_keeper pointer.now)
