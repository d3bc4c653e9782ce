use Rattle.std.proofs.Common.{◌≡◌, ℕ, zero, suc, ◌+◌, ◌<◌, List, [], ◌∷◌, ◌++◌, length, get_or, sym, refl, ap, subst, ◌∙◌, arith}
use mathlib.Core.Logic.{dite}
use native.Mathlib.Decide.{ℕ_discrete}
use Rattle.striped_map.specs.declared.caller.Caller.{Caller}
use Rattle.striped_map.specs.Callers.{IsNew}
use Rattle.striped_map.specs.Rule.{opener, view}
use Rattle.striped_map.specs.Steps.{Sat, elder}
use Rattle.txn_words.specs.declared.holder.Holder.TheVariants.{Begun}
use Rattle.txn_trace.specs.Legal.{IsLegal}
use Rattle.txn_trace.proofs.BadEntries.{legal_none}
use Rattle.striped_map.specs.Seats.{known, stripes_of}
use Rattle.striped_map.proofs.open.Opening.open.Goals as goal

pushed_old : (xs : List Caller) (x d : Caller) (k : ℕ) → k < length xs → get_or (xs ++ x ∷ []) k d ≡ get_or xs k d
pushed_old [] x d k lt = absurd (omega arith)
pushed_old (y ∷ xs) x d zero lt = refl
pushed_old (y ∷ xs) x d (suc k) lt = pushed_old xs x d k (omega arith)

pushed_new : (xs : List Caller) (x d : Caller) → get_or (xs ++ x ∷ []) (length xs) d ≡ x
pushed_new [] x d = refl
pushed_new (y ∷ xs) x d = pushed_new xs x d

pub loop-place-preserved : goal.loop-place-preserved
loop-place-preserved c = let inv = c.loop-place.invariant in let map = c.in-Ok.map.value in let place = c.loop-place.place in let me = c.new-in-loop-place.result in let all = c.loop-place.all.items in
    let map_is = c.new-in-loop-place.ensures.map ∙ c.in-Ok-try_clone.ensures in
    let new : IsNew map c.args.self.now.stripes (place + 1) me = record {
      map_is = map_is;
      stripes_are = ap stripes_of map_is ∙ ap stripes_of c.in-Ok.ensures.ok ∙ c.in_ok-map.ensures.stripes;
      numbered = ap (λ z. (known z).number) c.new-in-loop-place.ensures.seat ∙ c.seat-seat.ensures.seat.number_is;
      closed = c.new-in-loop-place.ensures.closed;
      unseen = ap (λ z. (known z).seen) c.new-in-loop-place.ensures.seat ∙ c.seat-seat.ensures.seat.seen ∙ ap (λ (m : Sat). m.0.seen) inv.first;
      childless = ap (λ z. (known z).parent) c.new-in-loop-place.ensures.seat ∙ c.seat-seat.ensures.seat.childless;
    } in
    let items : c.push_reserved.new.self.items ≡ all ++ me ∷ [] = c.push_reserved.ensures.items in
    let long : length all ≡ place = (let n = inv.count in let o = c.loop-place.all.ok.0 in omega arith) in
    record {
      table = c.seat-seat.ensures.table ∙ ap (λ m. m.table.shared.table_id) c.deref.ensures;
      keep = inv.keep;
      first = c.seat-seat.ensures.maker ∙ ap (λ (m : Sat). let p : Sat = (elder m.0, m.1) in p) inv.first;
      room = c.push_reserved.ensures.capacity ∙ inv.room;
      count = (let n = inv.count in let l = c.push_reserved.ensures.len in omega arith);
      each = λ k lt d. dite (ℕ_discrete k place)
          (λ (e : k ≡ place). subst (λ (i : ℕ). IsNew map c.args.self.now.stripes (i + 1) (get_or c.push_reserved.new.self.items i d)) (sym e)
          (subst (IsNew map c.args.self.now.stripes (place + 1)) (sym (ap (λ (l : List Caller). get_or l place d) items ∙ ap (λ (i : ℕ). get_or (all ++ me ∷ []) i d) (sym long) ∙ pushed_new all me d)) new))
          (λ ne. subst (IsNew map c.args.self.now.stripes (k + 1)) (sym (ap (λ (l : List Caller). get_or l k d) items ∙ pushed_old all me d k (omega arith))) (inv.each k (omega arith) d));
    }

pub new-requires-in-loop-place-clause-legal : goal.new-requires-in-loop-place-clause-legal
new-requires-in-loop-place-clause-legal c =
    subst (IsLegal Begun _) (sym (c.seat-seat.ensures.seat.seen ∙ ap (λ (m : Sat). m.0.seen) c.loop-place.invariant.first)) (legal_none _)

pub new-requires-3-clause-first : goal.new-requires-3-clause-first
new-requires-3-clause-first c = let inv = c.loop-place.invariant in let callers = c.args.self.now.callers in
    let last : c.loop-place.place ≡ callers = (let low = c.loop-place.auto.place-end in let high = c.loop-place-test.false in omega arith) in (
      callers + 1,
      inv.first ∙ ap (λ (k : ℕ). let p : Sat = (record (opener c.args.self.now.keep callers) { next = k + 1 }, []) in p) last
          ∙ ap (λ k. let p : Sat = (view k 0 (callers + 1) [] [], []) in p) (sym inv.keep),
    )
