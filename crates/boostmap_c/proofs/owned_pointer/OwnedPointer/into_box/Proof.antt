-- `into_box` transfers the block of the pointer to a box.
use Rattle.std.proofs.Common.{◌≡◌, List, [], ◌∷◌, ◌++◌, refl, sym, ap, subst}
use mir.Syntax.{a_type, dcons, dnil}
use mir.Val.{Val, vptr}
use mir.MapTy.{inst_fn}
use base.Logic.{SProp, ent, emp, id⊢}
use base.Fml.{ftrue, flft}
use base.Share
use prog.Wp.{WpFn}
use types.Kit.{‵, raw, ◌⊛◌, some, later, at_ret, ◌$◌, ◌∵◌, !, qed, by, move, keep, drop, split, split3, join, fsplit, fjoin, pick, suffices, use0, use1, use2, await, rewrite, feq_i}
use types.Run.{stop, fld, of_opd, no_more, and_then, first, blocks, exec, returns, enter}
use types.ByLocal.{alloc_all, pass_all, free_all, look_at, get, get_in, sets, lands_last, env}
use types.Part.{sub, whole}
use contract.Monad.{fact, fact_i}
use contract.BorrowLft.{◌⊑◌, ⊑_static}
use contract.Running.{tables, tables_of}
use denote.Exit.{yes, no}
use denote.RattleType.{RattleType, owns}
use denote.Signature.{types_at, plain}
use denote.RawPtr.{block_ptr}
use denote.Steps.{nothing, only, heard}
use denote.Param.{param, layout, bounded}
use denote.Param.NoDrop.{glues}
use denote.Triple.Clauses.{Lasts, lasts}
use denote.Triple.Spec.{triple_of}
use denote.Triple.Call.{calls_at_last}
use denote.Triple.Walked.{Stays, stay_dropped, walk_of}
use Rattle.core.proofs.alloc.Calls.{Goes-blank, handle_tells}
use Rattle.core.proofs.alloc.Shapes.{after}
use Rattle.core.proofs.atomic.Steps.{fm}
use Rattle.core.proofs.cell.Inside.{Good}
use Rattle.std.proofs.impls.GlobalAllocator.TheImpl.Met.{passed}
use Rattle.std.proofs.raw_atomic.Walks.{proved_at, leaves}
use Rattle.std.specs.contracts.alloc.Global as heap
use Rattle.std_alloc.proofs.BoxSteps.Form as form
use Rattle.std_alloc.proofs.BoxSteps.Steps.{box_out, box_in}
use Rattle.std_alloc.specs.contracts.boxed.Box.from_raw as from_raw
use Rattle.std_alloc.proofs.boxed.Box.from_raw.Met.{met}
use Rattle.boostmap_c.proofs.Destruct++none.drop.Code as lets_go_code
use Rattle.boostmap_c.proofs.Heap.{glue, the_heap, on_heap}
use Rattle.boostmap_c.proofs.PointerWords.{Pointer, word, opens_pointer}
use Rattle.boostmap_c.specs.contracts.owned_pointer.OwnedPointer.into_box.{ended, clauses}
use Rattle.boostmap_c.specs.contracts.owned_pointer.OwnedPointer.into_box.Key.{name as #self}
use Rattle.boostmap_c.proofs.owned_pointer.OwnedPointer.into_box.Statement.{statement}
use Rattle.boostmap_c.proofs.owned_pointer.OwnedPointer.into_box.Code as code

pub into_box_spec : {M : Type 1} → statement M
unfolding tables_of lets_go_code.code
into_box_spec {M = M} 𝓤 𝓛 𝓜 𝓡 wired T L lets_go gone =
    let 𝓣 = tables 𝓤 𝓛.H 𝓜 𝓡 𝓡.env in let c = clauses T lets_go 𝓛 𝓜.mem 𝓡.returns in let S = ended T lets_go in
    let at_T = bounded (a_type ∷ []) (T, tt) (dcons lets_go dnil) in let fn = inst_fn at_T code.function in
    let E = on_heap T L in let P : RattleType = Pointer (param 0 T) in
    let hs : Stays S.signature.params S.kept = (stay_dropped (plain (λ _. P)) no, (stay_dropped (plain (λ _. heap.the_row)) yes, tt)) in
    let frees = passed 𝓡.env (code.calls-std_heap::GlobalAllocator::allocate 𝓡.env wired) (code.calls-std_heap::GlobalAllocator::deallocate 𝓡.env wired) (code.calls-std_heap::GlobalAllocator::grow 𝓡.env wired) (code.calls-std_heap::GlobalAllocator::shrink 𝓡.env wired) M 𝓤 𝓛 𝓜 𝓡 in
    let lets_heap_go = glues "boostmap_c::Destruct++none::drop" 𝓡.env (code.calls-boostmap_c::Destruct++none::drop 𝓡.env wired) the_heap.row the_heap.laws M 𝓤 𝓛 𝓜 𝓡 in
    proved_at 𝓛 S hs c 𝓜 𝓡 (Goes-blank 𝓛 1 (plain (λ _. P)) no (λ κs x f. tt), (Goes-blank 𝓛 1 (plain (λ _. heap.the_row)) yes (λ κs x f. tt), tt)) (#self at_T) fn (code.unfolded 𝓤 𝓛.H 𝓜 𝓡 wired (T, tt) lets_go) (λ z are.
    let κ = z.0.0.0 in let q = z.0.1.0 in let v = z.0.3.0 in let a = z.0.3.1.0 in let Post : Val → SProp 𝓤 = (walk_of 𝓛 S hs c).post z in
    let runs : List Val → SProp 𝓤 = λ ws. WpFn 𝓤 𝓛.H 𝓣.C 𝓣.Λ fn ws Post in
    qed 𝓛 (((‵ (flft κ q) ⊛ ‵ ftrue) ⊛ ‵ (owns (types_at S.signature.params z.0.0) z.0.3 z.0.4)) ∷ raw ((c z.0.0 z.0.3).requires z.1) ∷ []) ∵
    move ! (1 ∷ []) $ use1 𝓛 (raw (fact 𝓤 (κ ⊑ T.lives)) ⊛ ‵ ftrue) (id⊢ 𝓤 _) $ split ! $ heard ! (κ ⊑ T.lives) (λ lives. drop ! $
    split ! $ split ! $ move ! (2 ∷ []) $ fsplit ! $ opens_pointer (param 0 T) ! v z.0.4.0 (λ freed b o here spelled.
    move ! (1 ∷ []) $ fsplit ! $ handle_tells the_heap ! a z.0.4.1.0 (λ h handed fits.
    -- The resources at this point, in order: the handle, an empty resource that ends the
    -- parameters, the block, the token, and an empty resource that ends the tokens.
    let w : Val = word (block_ptr b o) in let us : List Val = w ∷ h ∷ [] in let B : RattleType = form.B E in
    let k = triple_of 𝓛 (from_raw.signature T the_heap.row the_heap.g the_heap.d glue) (from_raw.spec T the_heap.row the_heap.g the_heap.d glue 𝓛 𝓜.mem 𝓡.returns) in
    let y : k.Ghost = (((κ, (κ, tt)), (Share.left q, (Share.right q, tt)), tt, (a, (block_ptr b o, tt)), (h ∷ [], (vptr b o ∷ [], tt))), v.value) in
    let Called = from_raw.ended T the_heap.row the_heap.g the_heap.d glue in
    move ! (1 ∷ []) $ feq_i ! (List Val) (vptr b o ∷ []) (vptr b o ∷ []) refl $ fjoin ! $ move ! (1 ∷ 0 ∷ []) $ fjoin ! $
    move ! (2 ∷ []) $ use1 𝓛 (‵ (flft κ (Share.left q)) ⊛ ‵ (flft κ (Share.right q))) (𝓛.lfts.lft_split κ q) $ split ! $
    nothing ! $ move ! (2 ∷ 0 ∷ []) $ join ! $ move ! (1 ∷ 0 ∷ []) $ join ! $ join ! $
    move ! (1 ∷ []) $ use0 𝓛 (raw (fact 𝓤 (κ ⊑ the_heap.row.lives))) (fact_i 𝓤 (κ ⊑ the_heap.row.lives) (emp 𝓤) (⊑_static κ)) $ join ! $
    use0 𝓛 (raw (fact 𝓤 (κ ⊑ T.lives))) (fact_i 𝓤 (κ ⊑ T.lives) (emp 𝓤) lives) $ join ! $ move ! (1 ∷ 0 ∷ []) $ join ! $ use1 𝓛 (raw (k.pre y)) (id⊢ 𝓤 _) $
    -- The resources at this point, in order: all that the call requires, and an empty resource that
    -- ends the tokens.
    suffices ! (runs us) (subst (λ (ws : List Val). ent 𝓤 (runs us) (runs ws)) (sym (λ i. spelled i ++ (handed i ++ []))) (id⊢ 𝓤 (runs us))) $
    enter ! 𝓣.C 𝓣.Λ fn us Post $ alloc_all ! (λ l. pass_all ! refl ((tt, (tt, tt)), (fits, tt)) $ let Ev = env fn.locals l in
    sets ! (of_opd ! (get_in ! (fld ! refl (stop !)) (sub ! 0 refl (whole !)))) refl (tt, tt) $ first ! $ blocks ! $
    calls_at_last ! (fm 𝓛 𝓜 𝓡) k (met 𝓤 𝓛 𝓜 𝓡 (code.calls-std_alloc::boxed::Box::from_raw 𝓡.env wired) T the_heap.row L the_heap.laws the_heap.g the_heap.d glue frees lets_heap_go) y (and_then ! (get ! refl) (and_then ! (get ! refl) (no_more !))) (λ u.
    use1 𝓛 (later (some (λ (r : B.Denot). ((‵ (flft κ (Share.left q)) ⊛ ‵ (flft κ (Share.right q)) ⊛ ‵ ftrue) ⊛ ‵ (B.own_val r (u ∷ []))) ⊛ some (λ (ls : Lasts Called y.0.0 y.0.3). ‵ (lasts Called y.0.0 y.0.3 ls) ⊛ (raw (fact 𝓤 (r.value ≡ v.value)) ⊛ raw (fact 𝓤 (r.alloc ≡ a))))))) (id⊢ 𝓤 (k.post y u)) $
    await ! tt $ pick ! (λ r. split ! $ move ! (1 ∷ []) $ pick ! (λ ls. split3 ! $ drop ! $
    -- The resources at this point, in order: the fact about the box's value, the fact about the
    -- box's allocator, the tokens with the box, and an empty resource that ends the tokens.
    move ! (2 ∷ []) $ split ! $ split3 ! $ use2 𝓛 (‵ (flft κ q)) (𝓛.lfts.lft_join κ q) $ move ! (2 ∷ []) $
    box_out E ! r (u ∷ []) (λ b' o' h' there made fits'. box_in E ! r b' o' r.value there refl $ rewrite ! 0 (λ (xs : List Val). ‵ (B.own_val r xs)) (sym made) refl $
    let good : Good (layout B) u = subst (Good (layout B)) (sym (ap only made)) (form.box_typed E h' b' o' fits') in
    lands_last ! refl good $ exec ! 𝓣.C 𝓣.Λ Ev (after 2 fn.body) (at_ret Ev Post) $ sets ! (of_opd ! (get ! refl)) refl good $
    nothing ! $ nothing ! $ fjoin ! $ nothing ! $ fjoin ! $ move ! (2 ∷ 3 ∷ []) $ join ! $
    -- The resources at this point, in order: the token, an empty resource for the parameters, the
    -- box, and the fact about the box's value.
    returns ! (look_at ! 0 refl) $ free_all ! refl $ keep ! (0 ∷ 1 ∷ 2 ∷ 3 ∷ []) $ by ! (leaves 𝓛 S hs c z u r (tt, (tt, tt)) (tt, (tt, tt))))))))))))
