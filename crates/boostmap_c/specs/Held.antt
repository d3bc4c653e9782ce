-- A handle's pointer owns a map, a referee, a member or a keeper on the heap, or nothing.
use Rattle.std.specs.Prelude.{Option, Some, None}
use Rattle.boostmap_c.specs.declared.held_map.HeldMap.{HeldMap}
use Rattle.boostmap_c.specs.contracts.held_map.HeldMap.{the_row as held_map_row}
use Rattle.boostmap_c.specs.declared.referee.Referee.{Referee}
use Rattle.boostmap_c.specs.contracts.referee.Referee.{the_row as referee_row}
use Rattle.boostmap_c.specs.declared.member.Member.{Member}
use Rattle.boostmap_c.specs.contracts.member.Member.{the_row as member_row}
use Rattle.boostmap_c.specs.declared.keeper.Keeper.{Keeper}
use Rattle.boostmap_c.specs.contracts.keeper.Keeper.{the_row as keeper_row}
use Rattle.boostmap_c.specs.Blocks.{owns_block}
use base.Fml.{Fml, ftrue}
use denote.RawPtr.{Ptr}

-- Owns the block at the pointer, with this map in it. Owns nothing if there is no map.
abbrev pub owns_map : Ptr → Option HeldMap → Fml
owns_map p None = ftrue
owns_map p (Some held) = owns_block held_map_row p held

-- Owns the block at the pointer, with this referee in it. Owns nothing if there is no referee.
abbrev pub owns_referee : Ptr → Option Referee → Fml
owns_referee p None = ftrue
owns_referee p (Some referee) = owns_block referee_row p referee

-- Owns the block at the pointer, with this member in it. Owns nothing if there is no member.
abbrev pub owns_member : Ptr → Option Member → Fml
owns_member p None = ftrue
owns_member p (Some member) = owns_block member_row p member

-- Owns the block at the pointer, with this keeper in it. Owns nothing if there is no keeper.
abbrev pub owns_keeper : Ptr → Option Keeper → Fml
owns_keeper p None = ftrue
owns_keeper p (Some keeper) = owns_block keeper_row p keeper
