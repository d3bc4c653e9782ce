use Rattle.std.proofs.Common.{◌≡◌, ◌∙◌, sym, subst, arith, None, get_or, set, length-set}
use Rattle.std.proofs.lemmas.List.{get_or_read}
use Rattle.key_locks.specs.Chains.{AreChained}
use Rattle.key_locks.specs.Locks.{Releases}
use Rattle.key_locks.proofs.ChainLemmas.{newest_read, AreChained-freed, fewer_held, without_caller-set, Releases-none, Releases-all}
use Rattle.key_locks.proofs.key_locks.KeyLocks.release_all.Goals as goal

pub index_mut-requires : goal.index_mut-requires
index_mut-requires c =
    let locks = c.loop-stripe.self-inside in
    let is = newest_read locks.holders.items locks.older.items locks.newest.items c.args.caller c.in-Some.stripe _ c.loop-stripe.invariant.are_chained (omega (arith, c.if-caller-len.false, c.len.ensures, c.self.invariant.callers)) c.index.ensures (sym c.stripe.ensures ∙ c.in-Some.is) in
    omega (arith, is.within)

pub index-requires-in-Some : goal.index-requires-in-Some
index-requires-in-Some c =
    let locks = c.loop-stripe.self-inside in
    let is = newest_read locks.holders.items locks.older.items locks.newest.items c.args.caller c.in-Some.stripe _ c.loop-stripe.invariant.are_chained (omega (arith, c.if-caller-len.false, c.len.ensures, c.self.invariant.callers)) c.index.ensures (sym c.stripe.ensures ∙ c.in-Some.is) in
    omega (arith, is.within_older)

pub loop-stripe-smaller : goal.loop-stripe-smaller
loop-stripe-smaller c =
    let locks = c.loop-stripe.self-inside in
    let is = newest_read locks.holders.items locks.older.items locks.newest.items c.args.caller c.in-Some.stripe _ c.loop-stripe.invariant.are_chained (omega (arith, c.if-caller-len.false, c.len.ensures, c.self.invariant.callers)) c.index.ensures (sym c.stripe.ensures ∙ c.in-Some.is) in
    rw c.none.ensures (fewer_held locks.holders.items c.args.caller c.in-Some.stripe is.within is.held)

pub loop-stripe-preserved : goal.loop-stripe-preserved
loop-stripe-preserved c =
    let caller = c.args.caller in
    let stripe = c.in-Some.stripe in
    let locks = c.loop-stripe.self-inside in
    let holders = locks.holders.items in
    let older = locks.older.items in
    let newest = locks.newest.items in
    let are = c.loop-stripe.invariant.are_chained in
    let is = newest_read holders older newest caller stripe _ are (omega (arith, c.if-caller-len.false, c.len.ensures, c.self.invariant.callers)) c.index.ensures (sym c.stripe.ensures ∙ c.in-Some.is) in
    let next = get_or_read older stripe _ is.within_older c.index-in-Some.ensures None in
    rw c.none.ensures (record {
      are_chained = subst (λ first. AreChained (set holders stripe None) older (set newest caller first)) (sym next) (AreChained-freed holders older newest caller stripe are (omega (arith, c.if-caller-len.false, c.len.ensures, c.self.invariant.callers)) is);
      as_many = length-set holders stripe None ∙ c.loop-stripe.invariant.as_many;
      each = λ other. without_caller-set holders caller stripe other is.held ∙ c.loop-stripe.invariant.each other;
    })

pub returns-then-caller-len : goal.returns-then-caller-len
returns-then-caller-len c =
    subst (λ old. Releases c.args.caller old old) c.self.view_is
    (Releases-none c.self.inside.holders.items c.self.inside.older.items c.self.inside.newest.items c.args.caller c.self.invariant (omega (arith, c.if-caller-len.true, c.len.ensures, c.self.invariant.callers)))

pub returns : goal.returns
returns c =
    let caller = c.args.caller in
    let locks = c.loop-stripe.self-inside in
    let are = c.loop-stripe.invariant.are_chained in
    let last = get_or_read locks.newest.items caller _ (omega (arith, are.callers)) c.index.ensures None in
    let none : get_or locks.newest.items caller None ≡ None = sym last ∙ sym c.stripe.ensures ∙ c.in_default.is in
    subst (λ old. Releases caller old locks.holders.items) c.self.view_is
    (Releases-all c.self.inside.holders.items locks.holders.items locks.older.items locks.newest.items caller are (omega (arith, c.if-caller-len.false, c.len.ensures, c.self.invariant.callers)) none c.loop-stripe.invariant.as_many c.loop-stripe.invariant.each)
