-- Ownership of a keeper's pointer: its machine value, and the keeper that it owns, if any. Assumes
-- `Logic`.
use Rattle.std.proofs.Common.{◌≡◌, List, [], ◌∷◌, refl}
use Rattle.std.specs.Prelude.{Option, Some, None, IsSome}
use Rattle.std.proofs.lemmas.Bool.{false≢true}
use seplogic.Ra.Ura.{Ura}
use mir.Val.{Val}
use types.Logic.{Logic}
use types.Kit.{Item, Goal, Seq, Step, step, ‵, ◌$◌, fsplit, fjoin}
use denote.RattleType.{RattleType}
use denote.RawPtr.{Ptr}
use Rattle.boostmap_c.proofs.PointerWords.{word, opens_word, makes_word}
use Rattle.boostmap_c.specs.declared.keeper.Keeper.{Keeper}
use Rattle.boostmap_c.specs.Held.{owns_keeper}
use Rattle.boostmap_c.specs.contracts.keeper_pointer.KeeperPointer as pointer

abbrev pub Row : RattleType
Row = pointer.the_row

-- The keeper that the pointer owns.
pub keeper_of : (held : Option Keeper) → IsSome held → (keeper : Keeper) × (held ≡ Some keeper)
keeper_of None is = absurd (false≢true is)
keeper_of (Some keeper) is = (keeper, refl)

module _ {M : Type 1} {𝓤 : Ura M} {𝓛 : Logic 𝓤} {K : Type 0} {Γ : List (Item 𝓤)} {G : Goal 𝓤 𝓛.H} where
  pub opens_keeper : K → (d : Row.Denot) (vs : List Val) → (vs ≡ word d.at ∷ [] → Seq K 𝓛 (‵ (owns_keeper d.at d.keeper) ∷ Γ) G) → Seq K 𝓛 (‵ (Row.own_val d vs) ∷ Γ) G
  opens_keeper t d vs k = fsplit t $ opens_word pointer.the_type t d.at vs k

  pub makes_keeper : K → (p : Ptr) (held : Option Keeper) → Step K 𝓛 (‵ (Row.own_val (record { at = p; keeper = held }) (word p ∷ [])) ∷ Γ) G (‵ (owns_keeper p held) ∷ Γ) G
  makes_keeper t p held = step (λ s. makes_word pointer.the_type t p $ fjoin t $ s)
