-- `from_box` transfers the block of the box to the pointer.
use Rattle.std.proofs.Common.{◌≡◌, List, [], ◌∷◌, ◌++◌, refl, sym, ap, ◌∙◌, subst}
use mir.Syntax.{a_type, dcons, dnil}
use mir.Raw.{raw as bare}
use mir.Val.{Val}
use mir.MapTy.{inst_fn}
use base.Logic.{SProp, ent, emp, never, id⊢, fst∗}
use base.Fml.{ftrue, flft}
use base.Share
use prog.Wp.{WpFn}
use types.Logic.{sem}
use types.Kit.{‵, raw, ◌⊛◌, some, later, ◌$◌, ◌∵◌, !, qed, by, move, keep, drop, split, split3, join, fsplit, fjoin, pick, suffices, use0, use1, use2, await, feq_l}
use types.Run.{of_opd, no_more, and_then, returns, enter}
use types.ByLocal.{alloc_all, pass_all, free_all, look_at, get, sets, lands_as}
use types.Part.{agg}
use contract.Monad.{fact, fact_i}
use contract.BorrowLft.{◌⊑◌, ⊑_static}
use contract.Running.{tables, tables_of}
use Rattle.boostmap_c.proofs.Destruct++none.drop.Code as lets_go_code
use denote.Exit.{no}
use denote.RattleType.{RattleType, owns}
use denote.Signature.{types_at, plain}
use denote.Builtin.{RawPtr}
use denote.RawPtr.{Ptr, block_ptr, null_ptr, ptr_val, in_a_block}
use denote.Steps.{nothing, only, heard}
use denote.Param.{param, layout, bounded}
use denote.Param.NoDrop.{glues}
use denote.Triple.Clauses.{Lasts, lasts}
use denote.Triple.Spec.{triple_of}
use denote.Triple.Call.{calls_at}
use denote.Triple.Walked.{Stays, stay_dropped, walk_of}
use Rattle.core.proofs.alloc.Calls.{Goes-blank}
use Rattle.core.proofs.atomic.Steps.{fm}
use Rattle.std.proofs.impls.GlobalAllocator.TheImpl.Met.{passed}
use Rattle.std.proofs.raw_atomic.Walks.{proved_at, leaves}
use Rattle.std_alloc.specs.Box.Ownership.{box_owns}
use Rattle.std_alloc.proofs.BoxSteps.Form as form
use Rattle.std_alloc.proofs.BoxSteps.Steps.{box_out, box_in}
use Rattle.std.specs.contracts.alloc.Global as heap
use Rattle.std_alloc.specs.contracts.boxed.Box as boxed
use Rattle.std_alloc.specs.contracts.boxed.Box.into_raw as into_raw
use Rattle.std_alloc.proofs.boxed.Box.into_raw.Met.{met}
use Rattle.boostmap_c.proofs.Heap.{glue, the_heap, on_heap}
use Rattle.boostmap_c.proofs.PointerWords.{word, makes_pointer}
use Rattle.boostmap_c.specs.contracts.owned_pointer.OwnedPointer.from_box.{ended, clauses}
use Rattle.boostmap_c.specs.contracts.owned_pointer.OwnedPointer.from_box.Key.{name as #self}
use Rattle.boostmap_c.proofs.owned_pointer.OwnedPointer.from_box.Statement.{statement}
use Rattle.boostmap_c.proofs.owned_pointer.OwnedPointer.from_box.Code as code

pub from_box_spec : {M : Type 1} → statement M
unfolding tables_of lets_go_code.code
from_box_spec {M = M} 𝓤 𝓛 𝓜 𝓡 wired T L lets_go gone =
    let 𝓣 = tables 𝓤 𝓛.H 𝓜 𝓡 𝓡.env in let c = clauses T lets_go 𝓛 𝓜.mem 𝓡.returns in let S = ended T lets_go in
    let at_T = bounded (a_type ∷ []) (T, tt) (dcons lets_go dnil) in let fn = inst_fn at_T code.function in
    let E = on_heap T L in let B : RattleType = boxed.the_row (param 0 T) heap.the_row the_heap.g in
    let hs : Stays S.signature.params S.kept = (stay_dropped (plain (λ _. B)) no, tt) in
    let frees = passed 𝓡.env (code.calls-std_heap::GlobalAllocator::allocate 𝓡.env wired) (code.calls-std_heap::GlobalAllocator::deallocate 𝓡.env wired) (code.calls-std_heap::GlobalAllocator::grow 𝓡.env wired) (code.calls-std_heap::GlobalAllocator::shrink 𝓡.env wired) M 𝓤 𝓛 𝓜 𝓡 in
    let lets_heap_go = glues "boostmap_c::Destruct++none::drop" 𝓡.env (code.calls-boostmap_c::Destruct++none::drop 𝓡.env wired) the_heap.row the_heap.laws M 𝓤 𝓛 𝓜 𝓡 in
    proved_at 𝓛 S hs c 𝓜 𝓡 (Goes-blank 𝓛 1 (plain (λ _. B)) no (λ κs x f. tt), tt) (#self at_T) fn (code.unfolded 𝓤 𝓛.H 𝓜 𝓡 wired (T, tt) lets_go) (λ z are.
    let κ = z.0.0.0 in let q = z.0.1.0 in let v = z.0.3.0 in let Post : Val → SProp 𝓤 = (walk_of 𝓛 S hs c).post z in
    let runs : List Val → SProp 𝓤 = λ ws. WpFn 𝓤 𝓛.H 𝓣.C 𝓣.Λ fn ws Post in
    qed 𝓛 (((‵ (flft κ q) ⊛ ‵ ftrue) ⊛ ‵ (owns (types_at S.signature.params z.0.0) z.0.3 z.0.4)) ∷ raw ((c z.0.0 z.0.3).requires z.1) ∷ []) ∵
    move ! (1 ∷ []) $ use1 𝓛 (raw (fact 𝓤 (κ ⊑ T.lives)) ⊛ ‵ ftrue) (id⊢ 𝓤 _) $ split ! $ heard ! (κ ⊑ T.lives) (λ lives. drop ! $
    split ! $ split ! $ move ! (0 ∷ 2 ∷ []) $ move ! (1 ∷ []) $ fsplit ! $ box_out E ! v z.0.4.0 (λ b o h there spelled fits. box_in E ! v b o v.value there refl $
    -- The resources at this point, in order: the box, an empty resource that ends the parameters,
    -- the token, and an empty resource that ends the tokens.
    let w : Val = form.word E h b o in let typed = form.box_typed E h b o fits in
    let k = triple_of 𝓛 (into_raw.signature T the_heap.row the_heap.g the_heap.d glue lets_go) (into_raw.spec T the_heap.row the_heap.g the_heap.d glue lets_go 𝓛 𝓜.mem 𝓡.returns) in
    let y : k.Ghost = (((κ, (κ, tt)), (Share.left q, (Share.right q, tt)), tt, (v, tt), (w ∷ [], tt)), tt) in
    let Called = into_raw.ended T the_heap.row the_heap.g the_heap.d glue lets_go in
    fjoin ! $ move ! (1 ∷ []) $ use1 𝓛 (‵ (flft κ (Share.left q)) ⊛ ‵ (flft κ (Share.right q))) (𝓛.lfts.lft_split κ q) $ split ! $
    nothing ! $ move ! (2 ∷ 0 ∷ []) $ join ! $ move ! (1 ∷ 0 ∷ []) $ join ! $ join ! $
    nothing ! $ use0 𝓛 (raw (fact 𝓤 (κ ⊑ the_heap.row.lives))) (fact_i 𝓤 (κ ⊑ the_heap.row.lives) (emp 𝓤) (⊑_static κ)) $ join ! $
    use0 𝓛 (raw (fact 𝓤 (κ ⊑ T.lives))) (fact_i 𝓤 (κ ⊑ T.lives) (emp 𝓤) lives) $ join ! $ move ! (1 ∷ 0 ∷ []) $ join ! $ use1 𝓛 (raw (k.pre y)) (id⊢ 𝓤 _) $
    -- The resources at this point, in order: all that the call requires, and an empty resource that
    -- ends the tokens.
    suffices ! (runs (w ∷ [])) (subst (λ (us : List Val). ent 𝓤 (runs (w ∷ [])) (runs us)) (sym (λ i. spelled i ++ [])) (id⊢ 𝓤 (runs (w ∷ [])))) $
    enter ! 𝓣.C 𝓣.Λ fn (w ∷ []) Post $ alloc_all ! (λ l. pass_all ! refl (typed, tt) $ sets ! (of_opd ! (get ! refl)) refl typed $
    calls_at ! (fm 𝓛 𝓜 𝓡) k (met 𝓤 𝓛 𝓜 𝓡 (code.calls-std_alloc::boxed::Box::into_raw 𝓡.env wired) T the_heap.row L the_heap.laws the_heap.g the_heap.d glue lets_go frees lets_heap_go gone) y (and_then ! (get ! refl) (no_more !)) (λ u.
    use1 𝓛 (later (some (λ (r : Ptr). ((‵ (flft κ (Share.left q)) ⊛ ‵ (flft κ (Share.right q)) ⊛ ‵ ftrue) ⊛ ‵ (RawPtr.own_val r (u ∷ []))) ⊛ some (λ (ls : Lasts Called y.0.0 y.0.3). ‵ (lasts Called y.0.0 y.0.3 ls) ⊛ ‵ (box_owns (the_heap.g.dealloc_token v.alloc) (param 0 T) r v.value))))) (id⊢ 𝓤 _) $
    await ! tt $ pick ! (λ r. split ! $ move ! (1 ∷ []) $ pick ! (λ ls. split ! $ drop ! $
    in_a_block ! r (λ p. box_owns (the_heap.g.dealloc_token v.alloc) (param 0 T) p v.value) (fst∗ 𝓤 (never 𝓤) (sem 𝓛 (the_heap.g.dealloc_token v.alloc (bare (layout T)) null_ptr))) (λ b' o' here.
    move ! (1 ∷ []) $ split ! $ move ! (1 ∷ []) $ feq_l ! (λ is.
    -- The resources at this point, in order: the tokens, the block, and an empty resource that ends
    -- the tokens.
    lands_as ! (ap only (is ∙ ap (λ (p : Ptr). ptr_val p ∷ []) here)) refl (tt, tt) $ sets ! (agg ! (and_then ! (get ! refl) (no_more !))) refl (tt, (tt, tt)) $
    split3 ! $ use2 𝓛 (‵ (flft κ q)) (𝓛.lfts.lft_join κ q) $ move ! (2 ∷ []) $ makes_pointer (param 0 T) ! v.alloc b' o' v.value $
    use0 𝓛 (raw (fact 𝓤 (v.value ≡ v.value))) (fact_i 𝓤 (v.value ≡ v.value) (emp 𝓤) refl) $ nothing ! $ nothing ! $ fjoin ! $ move ! (3 ∷ 4 ∷ []) $ join ! $
    -- The resources at this point, in order: the token, an empty resource for the box, what the
    -- contract ensures, and the pointer.
    returns ! (look_at ! 0 refl) $ free_all ! refl $ keep ! (0 ∷ 1 ∷ 3 ∷ 2 ∷ []) $ by ! (leaves 𝓛 S hs c z (word (block_ptr b' o')) (record { at = block_ptr b' o'; value = v.value }) (tt, tt) (tt, tt)))))))))))
