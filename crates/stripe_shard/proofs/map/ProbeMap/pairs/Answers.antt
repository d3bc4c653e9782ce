use Rattle.std.proofs.Common.{◌≡◌, ℕ, List, Result, Ok, Err, IfOk, IsPermutation, sym, ap, subst}
use Rattle.stripe_shard.specs.MapAt.{MapAt}
use Rattle.stripe_shard.specs.Slots.{pairs_of}
use Rattle.stripe_shard.proofs.Tables.{rows_content}
use Rattle.stripe_shard.proofs.map.ProbeMap.pairs.Goals as goal

permuted : {T E : Type 0} (result : Result T E) (items : T → List (ℕ × ℕ)) (rows all : List (ℕ × ℕ)) → IsPermutation rows all → IfOk result (λ v. items v ≡ all)
    → IfOk result (λ v. IsPermutation rows (items v))
permuted (Ok v) items rows all are is = subst (IsPermutation rows) (sym is) are
permuted (Err e) items rows all are is = tt

pub returns : goal.returns
returns c = let m = c.self.inside in
    permuted c.list.result (λ v. v.items) c.args.self.now.content.rows (pairs_of c.deref.result.now)
    (subst (IsPermutation c.args.self.now.content.rows) (ap pairs_of (sym c.deref.ensures.value))
    (subst (λ (p : MapAt). IsPermutation p.content.rows (pairs_of m.slots.items)) c.self.view_is (rows_content m.slots.items m.room m.len m.hash c.self.invariant)))
    c.list.ensures
