-- Ownership of a referee's pointer: its machine value, and the referee that it owns, if any.
-- Assumes `Logic`.
use Rattle.std.proofs.Common.{◌≡◌, List, [], ◌∷◌, refl}
use Rattle.std.specs.Prelude.{Option, Some, None, IsSome}
use Rattle.std.proofs.lemmas.Bool.{false≢true}
use seplogic.Ra.Ura.{Ura}
use mir.Val.{Val}
use types.Logic.{Logic}
use types.Kit.{Item, Goal, Seq, Step, step, ‵, ◌$◌, fsplit, fjoin}
use denote.RattleType.{RattleType}
use denote.RawPtr.{Ptr}
use Rattle.boostmap_c.proofs.PointerWords.{word, opens_word, makes_word}
use Rattle.boostmap_c.specs.declared.referee.Referee.{Referee}
use Rattle.boostmap_c.specs.Held.{owns_referee}
use Rattle.boostmap_c.specs.contracts.referee_pointer.RefereePointer as pointer

abbrev pub Row : RattleType
Row = pointer.the_row

-- The referee that the pointer owns.
pub referee_of : (held : Option Referee) → IsSome held → (referee : Referee) × (held ≡ Some referee)
referee_of None is = absurd (false≢true is)
referee_of (Some referee) is = (referee, refl)

module _ {M : Type 1} {𝓤 : Ura M} {𝓛 : Logic 𝓤} {K : Type 0} {Γ : List (Item 𝓤)} {G : Goal 𝓤 𝓛.H} where
  pub opens_referee : K → (d : Row.Denot) (vs : List Val) → (vs ≡ word d.at ∷ [] → Seq K 𝓛 (‵ (owns_referee d.at d.referee) ∷ Γ) G) → Seq K 𝓛 (‵ (Row.own_val d vs) ∷ Γ) G
  opens_referee t d vs k = fsplit t $ opens_word pointer.the_type t d.at vs k

  pub makes_referee : K → (p : Ptr) (held : Option Referee) → Step K 𝓛 (‵ (Row.own_val (record { at = p; referee = held }) (word p ∷ [])) ∷ Γ) G (‵ (owns_referee p held) ∷ Γ) G
  makes_referee t p held = step (λ s. makes_word pointer.the_type t p $ fjoin t $ s)
