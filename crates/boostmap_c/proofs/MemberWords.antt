-- Ownership of a member's pointer: its machine value, and the member that it owns, if any. Assumes
-- `Logic`.
use Rattle.std.proofs.Common.{◌≡◌, List, [], ◌∷◌, refl}
use Rattle.std.specs.Prelude.{Option, Some, None, IsSome}
use Rattle.std.proofs.lemmas.Bool.{false≢true}
use seplogic.Ra.Ura.{Ura}
use mir.Val.{Val}
use types.Logic.{Logic}
use types.Kit.{Item, Goal, Seq, Step, step, ‵, ◌$◌, fsplit, fjoin}
use denote.RattleType.{RattleType}
use denote.RawPtr.{Ptr}
use Rattle.boostmap_c.proofs.PointerWords.{word, opens_word, makes_word}
use Rattle.boostmap_c.specs.declared.member.Member.{Member}
use Rattle.boostmap_c.specs.Held.{owns_member}
use Rattle.boostmap_c.specs.contracts.member_pointer.MemberPointer as pointer

abbrev pub Row : RattleType
Row = pointer.the_row

-- The member that the pointer owns.
pub member_of : (held : Option Member) → IsSome held → (member : Member) × (held ≡ Some member)
member_of None is = absurd (false≢true is)
member_of (Some member) is = (member, refl)

module _ {M : Type 1} {𝓤 : Ura M} {𝓛 : Logic 𝓤} {K : Type 0} {Γ : List (Item 𝓤)} {G : Goal 𝓤 𝓛.H} where
  pub opens_member : K → (d : Row.Denot) (vs : List Val) → (vs ≡ word d.at ∷ [] → Seq K 𝓛 (‵ (owns_member d.at d.member) ∷ Γ) G) → Seq K 𝓛 (‵ (Row.own_val d vs) ∷ Γ) G
  opens_member t d vs k = fsplit t $ opens_word pointer.the_type t d.at vs k

  pub makes_member : K → (p : Ptr) (held : Option Member) → Step K 𝓛 (‵ (Row.own_val (record { at = p; member = held }) (word p ∷ [])) ∷ Γ) G (‵ (owns_member p held) ∷ Γ) G
  makes_member t p held = step (λ s. makes_word pointer.the_type t p $ fjoin t $ s)
