use Rattle.std.proofs.Common.{◌≡◌, ◌∙◌, ◌<◌, sym, subst, arith, None, Some, length, get_or, set}
use Rattle.std.proofs.lemmas.List.{get_or_read}
use Rattle.key_locks.specs.Chains.{AreChained}
use Rattle.key_locks.proofs.ChainLemmas.{AreChained-taken}
use Rattle.key_locks.proofs.key_locks.KeyLocks.lock.Goals as goal

pub invariant_of-self : goal.invariant_of-self
invariant_of-self c =
    let holders = c.self.inside.holders.items in
    let older = c.self.inside.older.items in
    let newest = c.self.inside.newest.items in
    let are = c.self.invariant in
    let within : c.args.stripe < length holders = rw c.self.view_is c.requires.stripe in
    let caller_within : c.args.caller < length newest = omega (arith, are.callers) in
    let free : get_or holders c.args.stripe None ≡ None = sym (get_or_read holders c.args.stripe _ within c.index.ensures None) ∙ sym c.caller.ensures ∙ c.in-None.is in
    let last = get_or_read newest c.args.caller _ caller_within c.index-in-None.ensures None in
    rw (c.of.ensures, c.to.ensures)
    (subst (λ next. AreChained (set holders c.args.stripe (Some c.args.caller)) (set older c.args.stripe next) (set newest c.args.caller (Some c.args.stripe))) (sym last)
    (AreChained-taken holders older newest c.args.caller c.args.stripe are c.requires.caller within free))
