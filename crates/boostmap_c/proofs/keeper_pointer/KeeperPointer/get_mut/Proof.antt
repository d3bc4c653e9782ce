-- `get_mut` lends the keeper, and the pointer keeps its block.
use Rattle.std.proofs.Common.{◌≡◌, ℕ, List, [], ◌∷◌, refl, sym, ap, ◌∙◌}
use Rattle.std.specs.Prelude.{Option, Some, IsSome}
use Rattle.std.specs.Global.{Global}
use Rattle.std.specs.contracts.impls.GlobalAllocator.TheImpl.{ghosts}
use seplogic.Ra.Ura.{Ura}
use base.Fraction.{full_share}
use mir.Raw.{raw as bare}
use mir.Syntax.{named}
use mir.Val.{Val, vptr}
use base.Logic.{ent, sep, never, fst∗, id⊢}
use base.Fml.{GName, Fml, ftrue, fsep, flft}
use types.Logic.{Logic, sem}
use types.Kit.{‵, raw, ◌⊛◌, some, later, at_ret, ◌$◌, ◌∵◌, !, qed, done, move, keep, use1, split, split3, join, fsplit, fsplit3, fjoin, fpick, fpack, pick, await, rewrite, suffices, frame, group}
use types.Run.{stop, fld, load, addr, of_opd, first, blocks, exec, returns, enter}
use types.ByLocal.{alloc_all, pass_all, free_all, look_at, get, through, sets, sets_last, env}
use types.Part.{whole, sub, look_in}
use contract.Monad.{fact}
use contract.Running.{tables}
use denote.Exit.{no}
use denote.Follow.{follows, Part, lends_Part}
use denote.Memory.{lone, mem, cell_at, part_at, part_of}
use denote.RawPtr.{Ptr, block_ptr, null_ptr, in_a_block}
use denote.Ref.{MutBor, MutRef, mut_vals, mut_Tells}
use denote.Signature.{plain, mut_ref_to}
use denote.Steps.{nothing, opens, heard}
use denote.Triple.Walked.{says, Stays, stay_dropped, walk_of, ends_at, Goes-spent_ref}
use Rattle.core.proofs.alloc.Shapes.{after}
use Rattle.std.proofs.raw_atomic.Walks.{proved}
use Rattle.std_alloc.specs.Box.Ownership.{box_owns}
use Rattle.boostmap_c.proofs.PointerWords.{word}
use Rattle.boostmap_c.specs.declared.keeper.Keeper.{Keeper}
use Rattle.boostmap_c.specs.contracts.keeper.Keeper as keeper
use Rattle.boostmap_c.specs.Held.{owns_keeper}
use Rattle.boostmap_c.specs.Lends.{with_keeper}
use Rattle.boostmap_c.proofs.KeeperWords.{Row, opens_keeper, makes_keeper, keeper_of}
use Rattle.boostmap_c.specs.contracts.keeper_pointer.KeeperPointer.get_mut.{ended, clauses}
use Rattle.boostmap_c.specs.contracts.keeper_pointer.KeeperPointer.get_mut.Key.{name as #self}
use Rattle.boostmap_c.proofs.keeper_pointer.KeeperPointer.get_mut.Statement.{statement}
use Rattle.boostmap_c.proofs.keeper_pointer.KeeperPointer.get_mut.Code as code

abbrev stayed : Stays ended.signature.params ended.kept
stayed = (stay_dropped (mut_ref_to (0 ∷ []) tt (plain (λ _. Row))) no, tt)

module _ {M : Type 1} {𝓤 : Ura M} (𝓛 : Logic 𝓤) (d : Row.Denot) (rb ro : ℕ) (heap : Global) (b o : ℕ) where
  -- Everything except the keeper: the right to free the keeper's block, and the pointer's own
  -- memory.
  abbrev Rest : Fml
  Rest = fsep (ghosts.dealloc_token heap (bare (lone keeper.the_row.mir)) (block_ptr b o)) (cell_at full_share Row.mir (word (block_ptr b o) ∷ []) rb ro)

  back : d.at ≡ block_ptr b o → (w : Keeper) → ent 𝓤 (sep 𝓤 (sem 𝓛 ((mem keeper.the_row).own_at w b o)) (sem 𝓛 Rest)) (sem 𝓛 ((mem Row).own_at (with_keeper d w) rb ro))
  unfolding part_of
  back here w =
      let p = block_ptr b o in
      qed 𝓛 (‵ (part_at keeper.the_row full_share w b o) ∷ ‵ Rest ∷ []) ∵ move ! (1 ∷ []) $ fsplit ! $ move ! (2 ∷ 0 ∷ []) $ fjoin ! $
      fpack ! Global (λ (a : Global). box_owns (ghosts.dealloc_token a) keeper.the_row p w) heap $ makes_keeper ! p (Some w) $
      rewrite ! 0 (λ (at : Ptr). ‵ (Row.own_val (record { at = at; keeper = Some w }) (word p ∷ []))) (sym here) refl $ move ! (1 ∷ 0 ∷ []) $ fjoin ! $
      fpack ! (List Val) (λ us. fsep (cell_at full_share Row.mir us rb ro) (Row.own_val (with_keeper d w) us)) (word p ∷ []) $ done !

pub get_mut_spec : {M : Type 1} → statement M
get_mut_spec 𝓤 𝓛 𝓜 𝓡 wired =
    let c = clauses 𝓛 𝓜.mem 𝓡.returns in let W = walk_of 𝓛 ended stayed c in let 𝓣 = tables 𝓤 𝓛.H 𝓜 𝓡 𝓡.env in
    proved 𝓛 ended stayed c 𝓜 𝓡 (Goes-spent_ref 𝓛 1 (0 ∷ []) tt (plain (λ _. Row)), tt) #self code.function (code.unfolded 𝓤 𝓛.H 𝓜 𝓡 wired)
    (λ κs. (mut_vals, tt)) (λ κs. (mut_Tells (named 0) κs.0 Row, tt)) (λ κs qs bounds a g are.
    let κ = κs.0 in let q = qs.0 in let rb = a.0.ref_ptr.0 in let ro = a.0.ref_ptr.1 in let γ = a.0.ghost_name in let d = a.0.now in let vs = mut_vals a.0 in
    let y : W.Ghost = ((κs, qs, bounds, a, (vs, tt)), g) in
    qed 𝓛 (((‵ (flft κ q) ⊛ ‵ ftrue) ⊛ ‵ ((MutRef (named 0) κ Row).own_val a.0 vs) ⊛ ‵ ftrue) ∷ raw (fact 𝓤 (IsSome d.keeper)) ∷ []) ∵
    move ! (1 ∷ []) $ heard ! (IsSome d.keeper) (λ is. let x = (keeper_of d.keeper is).0 in let there : d.keeper ≡ Some x = (keeper_of d.keeper is).1 in
    split ! $ split ! $ move ! (2 ∷ []) $ split ! $ keep ! (0 ∷ 2 ∷ []) $
    enter ! _ _ _ _ _ $ alloc_all ! (λ l. pass_all ! refl ((tt, tt), tt) $ fsplit3 ! $ move ! (1 ∷ 2 ∷ 3 ∷ []) $
    opens ! tt Row {h = d} rb ro (λ us. move ! (1 ∷ []) $ opens_keeper ! d us (λ spelled. rewrite ! 0 (λ (held : Option Keeper). ‵ (owns_keeper d.at held)) there refl $ fpick ! (λ heap.
    in_a_block ! d.at (λ p. box_owns (ghosts.dealloc_token heap) keeper.the_row p x) (fst∗ 𝓤 (never 𝓤) (sem 𝓛 (ghosts.dealloc_token heap (bare (lone keeper.the_row.mir)) null_ptr))) (λ b o here. fsplit ! $
    rewrite ! 2 (λ (ws : List Val). ‵ (cell_at full_share Row.mir ws rb ro)) (spelled ∙ ap (λ (p : Ptr). word p ∷ []) here) refl $
    -- The resources at this point, in order: the keeper, the right to free its block, the pointer's
    -- memory, and three resources for the pointer's open borrow.
    let lent : GName → MutBor Keeper = λ δ. record { ref_ptr = (b, o); ghost_name = δ; now = x } in
    let Others = sem 𝓛 (Rest 𝓛 d rb ro heap b o) in let way = back 𝓛 d rb ro heap b o here in
    first ! $ blocks ! $ sets ! (of_opd ! (load ! (through ! refl (fld ! refl (stop !))) (look_in ! 2 (sub ! 0 refl (whole !))))) refl (tt, tt) $ sets ! (of_opd ! (get ! refl)) refl (tt, tt) $
    sets_last ! (addr ! (through ! refl (stop !))) refl (tt, tt) $ exec ! 𝓣.C 𝓣.Λ (env code.Mir.locals l) (after 1 (code.function).body) (at_ret _ (W.post y)) $ sets ! (of_opd ! (get ! refl)) refl (tt, tt) $
    move ! (1 ∷ 2 ∷ []) $ fjoin ! $ move ! (2 ∷ 3 ∷ 4 ∷ 1 ∷ 0 ∷ []) $ group ! 5 $
    use1 𝓛 (later (some (λ (δ : GName). raw (Part 𝓛 Row keeper.the_row (with_keeper d) (named 0) κ q rb ro b o γ Others way x δ))))
    (lends_Part 𝓛 Row keeper.the_row (with_keeper d) (named 0) κ q rb ro b o γ Others way (Row.coded.code d) (Row.coded.code d) x) $ await ! tt $ pick ! (λ δ.
    returns ! (look_at ! 0 refl) $ free_all ! refl $ keep ! (0 ∷ []) $
    use1 𝓛 (‵ ((MutRef (named 0) κ keeper.the_row).own_val (lent δ) (vptr b o ∷ [])) ⊛ ‵ (flft κ q) ⊛ ‵ (follows Row keeper.the_row γ δ (with_keeper d))) (id⊢ 𝓤 _) $ split3 ! $
    suffices ! _ (ends_at 𝓛 ended stayed c y (vptr b o) (lent δ) (tt, tt) (tt, tt)) $
    nothing ! $ nothing ! $ fjoin ! $ join ! $ nothing ! $ move ! (2 ∷ 0 ∷ []) $ join ! $ join ! $ frame ! $ says ! there $ done !))))))))
