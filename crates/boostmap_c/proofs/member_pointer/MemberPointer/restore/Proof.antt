-- `restore` keeps the block, and returns a typed pointer to it.
use Rattle.std.proofs.Common.{◌≡◌, List, [], ◌∷◌, ◌++◌, refl, sym, ap, ◌∙◌, subst}
use Rattle.std.specs.Prelude.{Option, Some, IsSome}
use Rattle.std.specs.contracts.impls.GlobalAllocator.TheImpl.{ghosts}
use mir.Val.{Val}
use mir.Raw.{raw as bare}
use base.Logic.{SProp, ent, emp, id⊢, never, fst∗}
use base.Fml.{ftrue}
use types.Logic.{sem}
use prog.Wp.{WpFn}
use types.Kit.{‵, raw, ◌⊛◌, ◌$◌, ◌∵◌, !, qed, by, move, keep, split, fsplit, fjoin, fpick, suffices, rewrite, use0}
use types.Run.{stop, fld, of_opd, no_more, and_then, returns, enter}
use types.ByLocal.{alloc_all, pass_all, free_all, look_at, get, get_in, sets}
use types.Part.{agg, sub, whole}
use contract.Monad.{fact, fact_i}
use contract.Running.{tables}
use denote.Exit.{yes}
use denote.Memory.{lone}
use denote.RattleType.{owns}
use denote.Signature.{types_at, plain}
use denote.RawPtr.{Ptr, block_ptr, null_ptr, in_a_block}
use denote.Steps.{nothing, heard}
use denote.Triple.Walked.{Stays, stay_dropped, walk_of}
use Rattle.core.proofs.alloc.Calls.{Goes-blank}
use Rattle.std.proofs.raw_atomic.Walks.{proved_at, leaves}
use Rattle.std_alloc.specs.Box.Ownership.{box_owns}
use Rattle.boostmap_c.proofs.PointerWords.{word, makes_pointer}
use Rattle.boostmap_c.specs.declared.member.Member.{Member}
use Rattle.boostmap_c.specs.contracts.member.Member as member
use Rattle.boostmap_c.specs.Held.{owns_member}
use Rattle.boostmap_c.proofs.MemberWords.{Row, opens_member, member_of}
use Rattle.boostmap_c.specs.contracts.member_pointer.MemberPointer.restore.{ended, clauses}
use Rattle.boostmap_c.specs.contracts.member_pointer.MemberPointer.restore.Key.{name as #self}
use Rattle.boostmap_c.proofs.member_pointer.MemberPointer.restore.Statement.{statement}
use Rattle.boostmap_c.proofs.member_pointer.MemberPointer.restore.Code as code

pub restore_spec : {M : Type 1} → statement M
restore_spec 𝓤 𝓛 𝓜 𝓡 wired =
    let 𝓣 = tables 𝓤 𝓛.H 𝓜 𝓡 𝓡.env in let c = clauses 𝓛 𝓜.mem 𝓡.returns in let fn = code.function in
    let hs : Stays ended.signature.params ended.kept = (stay_dropped (plain (λ _. Row)) yes, tt) in
    proved_at 𝓛 ended hs c 𝓜 𝓡 (Goes-blank 𝓛 0 (plain (λ _. Row)) yes (λ κs x f. tt), tt) #self fn (code.unfolded 𝓤 𝓛.H 𝓜 𝓡 wired) (λ z are.
    let v = z.0.3.0 in let Post : Val → SProp 𝓤 = (walk_of 𝓛 ended hs c).post z in let runs : List Val → SProp 𝓤 = λ ws. WpFn 𝓤 𝓛.H 𝓣.C 𝓣.Λ fn ws Post in
    qed 𝓛 ((‵ ftrue ⊛ ‵ (owns (types_at ended.signature.params z.0.0) z.0.3 z.0.4)) ∷ raw (fact 𝓤 (IsSome v.member)) ∷ []) ∵
    move ! (1 ∷ []) $ heard ! (IsSome v.member) (λ is. let x = (member_of v.member is).0 in let there : v.member ≡ Some x = (member_of v.member is).1 in
    split ! $ move ! (1 ∷ []) $ fsplit ! $ opens_member ! v z.0.4.0 (λ spelled. rewrite ! 0 (λ (held : Option Member). ‵ (owns_member v.at held)) there refl $ fpick ! (λ heap.
    in_a_block ! v.at (λ p. box_owns (ghosts.dealloc_token heap) member.the_row p x) (fst∗ 𝓤 (never 𝓤) (sem 𝓛 (ghosts.dealloc_token heap (bare (lone member.the_row.mir)) null_ptr))) (λ b o here. keep ! (0 ∷ []) $
    let p = block_ptr b o in let ws = word p ∷ [] in
    suffices ! (runs ws) (subst (λ (us : List Val). ent 𝓤 (runs ws) (runs us)) (sym (λ i. (spelled ∙ ap (λ (a : Ptr). word a ∷ []) here) i ++ [])) (id⊢ 𝓤 (runs ws))) $
    enter ! 𝓣.C 𝓣.Λ fn ws Post $ alloc_all ! (λ l. pass_all ! refl ((tt, (tt, tt)), tt) $
    sets ! (of_opd ! (get_in ! (fld ! refl (stop !)) (sub ! 0 refl (whole !)))) refl (tt, tt) $ sets ! (of_opd ! (get ! refl)) refl (tt, tt) $
    sets ! (agg ! (and_then ! (get ! refl) (no_more !))) refl (tt, (tt, tt)) $ makes_pointer member.the_row ! heap b o x $
    -- The end of the function needs the pointer and the fact that the contract ensures. No resource
    -- of the parameter remains.
    use0 𝓛 (raw (fact 𝓤 (v.member ≡ Some x))) (fact_i 𝓤 (v.member ≡ Some x) (emp 𝓤) there) $ nothing ! $ nothing ! $ fjoin ! $ nothing ! $
    returns ! (look_at ! 0 refl) $ free_all ! refl $ keep ! (0 ∷ 1 ∷ 3 ∷ 2 ∷ []) $ by ! (leaves 𝓛 ended hs c z (word p) (record { at = p; value = x }) (tt, tt) (tt, tt))))))))
