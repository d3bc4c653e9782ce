-- Ownership of a map's pointer: its machine value, and the map that it owns, if any. Assumes
-- `Logic`.
use Rattle.std.proofs.Common.{◌≡◌, List, [], ◌∷◌, refl}
use Rattle.std.specs.Prelude.{Option, Some, None, IsSome}
use Rattle.std.proofs.lemmas.Bool.{false≢true}
use seplogic.Ra.Ura.{Ura}
use mir.Val.{Val}
use types.Logic.{Logic}
use types.Kit.{Item, Goal, Seq, Step, step, ‵, ◌$◌, fsplit, fjoin}
use denote.RattleType.{RattleType}
use denote.RawPtr.{Ptr}
use Rattle.boostmap_c.proofs.PointerWords.{word, opens_word, makes_word}
use Rattle.boostmap_c.specs.declared.held_map.HeldMap.{HeldMap}
use Rattle.boostmap_c.specs.Held.{owns_map}
use Rattle.boostmap_c.specs.contracts.map_pointer.MapPointer as pointer

abbrev pub Row : RattleType
Row = pointer.the_row

-- The map that the pointer owns.
pub map_of : (held : Option HeldMap) → IsSome held → (map : HeldMap) × (held ≡ Some map)
map_of None is = absurd (false≢true is)
map_of (Some map) is = (map, refl)

module _ {M : Type 1} {𝓤 : Ura M} {𝓛 : Logic 𝓤} {K : Type 0} {Γ : List (Item 𝓤)} {G : Goal 𝓤 𝓛.H} where
  pub opens_map : K → (d : Row.Denot) (vs : List Val) → (vs ≡ word d.at ∷ [] → Seq K 𝓛 (‵ (owns_map d.at d.map) ∷ Γ) G) → Seq K 𝓛 (‵ (Row.own_val d vs) ∷ Γ) G
  opens_map t d vs k = fsplit t $ opens_word pointer.the_type t d.at vs k

  pub makes_map : K → (p : Ptr) (held : Option HeldMap) → Step K 𝓛 (‵ (Row.own_val (record { at = p; map = held }) (word p ∷ [])) ∷ Γ) G (‵ (owns_map p held) ∷ Γ) G
  makes_map t p held = step (λ s. makes_word pointer.the_type t p $ fjoin t $ s)
