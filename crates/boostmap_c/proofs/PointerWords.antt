-- The machine value of a struct whose only field is a pointer. Assumes `Logic`.
--     word                           the value: the struct of the pointer
--     opens_word, makes_word         to own the struct is to know that its value is `word`
--     opens_pointer, makes_pointer   to own an owned pointer is to own a heap block with its value
use Rattle.std.proofs.Common.{◌≡◌, ℕ, List, [], ◌∷◌, ◌++◌, refl, ap, ◌∙◌}
use seplogic.Ra.Ura.{Ura}
use mir.Raw.{raw as bare}
use mir.Val.{Val, vstruct, vcons, vnil, of_list}
use base.Logic.{never, fst∗}
use base.Fml.{Fml}
use types.Logic.{Logic, sem}
use types.Kit.{Item, Goal, Seq, Step, step, ‵, ◌$◌, drop, fsplit, fjoin, fpick, fpack, feq_i, feq_l}
use denote.RattleType.{RattleType, Valss}
use denote.Builtin.{RawPtr}
use denote.Memory.{lone}
use denote.RawPtr.{Ptr, block_ptr, null_ptr, ptr_val, in_a_block}
use denote.Steps.{nothing}
use denote.Struct.Struct.{Struct, Shape, within}
use denote.Struct.Owning.{Owning, shape}
use Rattle.std.specs.Global.{Global}
use Rattle.std.specs.contracts.impls.GlobalAllocator.TheImpl.{ghosts}
use Rattle.std_alloc.specs.Box.Ownership.{box_owns}
use Rattle.boostmap_c.specs.contracts.owned_pointer.OwnedPointer as pointer

abbrev pub word : Ptr → Val
word p = vstruct (vcons (ptr_val p) vnil)

-- The shape of the type, but with only one field, a pointer.
abbrev alone : Owning → Shape
alone T = record (shape T) { fields = RawPtr ∷ [] }

module _ (T : Owning) {M : Type 1} {𝓤 : Ura M} {𝓛 : Logic 𝓤} {K : Type 0} {Γ : List (Item 𝓤)} {G : Goal 𝓤 𝓛.H} where
  pub opens_word : K → (p : Ptr) (vs : List Val) → (vs ≡ word p ∷ [] → Seq K 𝓛 Γ G) → Seq K 𝓛 (‵ ((Struct (alone T)).own_val (p, tt) vs) ∷ Γ) G
  opens_word t p vs k =
      fpick t (λ vss. fsplit t $ feq_l t (λ whole. fsplit t $ feq_l t (λ at. drop t $ k (whole ∙ ap (λ (ps : List Val). vstruct (of_list (ps ++ [])) ∷ []) at))))

  pub makes_word : K → (p : Ptr) → Step K 𝓛 (‵ ((Struct (alone T)).own_val (p, tt) (word p ∷ [])) ∷ Γ) G Γ G
  makes_word t p = step (λ s.
      nothing t $ feq_i t (List Val) (ptr_val p ∷ []) (ptr_val p ∷ []) refl $ fjoin t $ feq_i t (List Val) (word p ∷ []) (word p ∷ []) refl $ fjoin t $
      fpack t (Valss (RawPtr ∷ [])) (within (alone T) (p, tt) (word p ∷ [])) (ptr_val p ∷ [], tt) $ s)

module _ (R : RattleType) where
  abbrev pub Pointer : RattleType
  Pointer = pointer.the_row R

  abbrev block : Global → Ptr → R.Denot → Fml
  block heap p x = box_owns (ghosts.dealloc_token heap) R p x

  module _ {M : Type 1} {𝓤 : Ura M} {𝓛 : Logic 𝓤} {K : Type 0} {Γ : List (Item 𝓤)} {G : Goal 𝓤 𝓛.H} where
    pub opens_pointer : K → (d : Pointer.Denot) (vs : List Val)
        → ((heap : Global) (b o : ℕ) → d.at ≡ block_ptr b o → vs ≡ word (block_ptr b o) ∷ [] → Seq K 𝓛 (‵ (box_owns (ghosts.dealloc_token heap) R (block_ptr b o) d.value) ∷ Γ) G)
        → Seq K 𝓛 (‵ (Pointer.own_val d vs) ∷ Γ) G
    opens_pointer t d vs k =
        fsplit t $ opens_word (pointer.the_type R) t d.at vs (λ is. fpick t (λ heap.
        in_a_block t d.at (λ p. block heap p d.value) (fst∗ 𝓤 (never 𝓤) (sem 𝓛 (ghosts.dealloc_token heap (bare (lone R.mir)) null_ptr))) (λ b o here.
        k heap b o here (is ∙ ap (λ (p : Ptr). word p ∷ []) here))))

    pub makes_pointer : K → (heap : Global) (b o : ℕ) (x : R.Denot)
        → Step K 𝓛 (‵ (Pointer.own_val (record { at = block_ptr b o; value = x }) (word (block_ptr b o) ∷ [])) ∷ Γ) G
        (‵ (box_owns (ghosts.dealloc_token heap) R (block_ptr b o) x) ∷ Γ) G
    makes_pointer t heap b o x = step (λ s.
        fpack t Global (λ (a : Global). block a (block_ptr b o) x) heap $ makes_word (pointer.the_type R) t (block_ptr b o) $ fjoin t $ s)
