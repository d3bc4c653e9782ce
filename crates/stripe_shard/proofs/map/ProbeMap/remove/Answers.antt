use Rattle.std.proofs.Common.{◌≡◌, None, arith, refl, sym, ap, ◌∙◌}
use Rattle.txn_words.specs.Map.{get, set_at}
use Rattle.stripe_shard.specs.declared.slot.Slot.TheVariants.{Removed}
use Rattle.stripe_shard.specs.MapAt.{MapAt}
use Rattle.stripe_shard.specs.Slots.{value_in}
use Rattle.stripe_shard.proofs.Tables.{content_set, get_nowhere, get_read, no_value, removed_none, table_remove}
use Rattle.stripe_shard.proofs.map.ProbeMap.remove.Goals as goal

pub returns-in_default-clause-before : goal.returns-in_default-clause-before
returns-in_default-clause-before c = sym (get_nowhere c.self.inside.slots.items c.args.key (c.in_default.ensures.none refl)) ∙ ap (λ (p : MapAt). get p.content c.args.key) c.self.view_is

pub returns-in_default-clause-content : goal.returns-in_default-clause-content
returns-in_default-clause-content c = removed_none c.args.self.now.content c.args.key
    (ap (λ (p : MapAt). get p.content c.args.key) (sym c.self.view_is) ∙ get_nowhere c.self.inside.slots.items c.args.key (c.in_default.ensures.none refl))

pub returns-in_default-index : goal.returns-in_default-index
returns-in_default-index c = let m = c.self.inside in
    let none : get c.args.self.now.content c.args.key ≡ None = ap (λ (p : MapAt). get p.content c.args.key) (sym c.self.view_is)
    ∙ sym (get_read m.slots.items m.room m.len m.hash c.args.key c.in-Some.place c.index.result.now c.self.invariant c.in-Some.ensures.some c.index.ensures)
    ∙ no_value c.index.result.now c.in_default-index.not-Full in
    record { before = sym none; content = removed_none c.args.self.now.content c.args.key none; spare = omega arith }

pub invariant_of-self : goal.invariant_of-self
invariant_of-self c = let m = c.self.inside in
    table_remove m.slots.items m.room m.len m.hash c.args.key c.in-Some.place c.index.result.now c.in-Full.field-0 c.in-Full.before c.self.invariant c.in-Some.ensures.some c.index.ensures c.in-Full.is

pub returns-clause-before : goal.returns-clause-before
returns-clause-before c = let m = c.self.inside in sym (ap value_in c.in-Full.is)
    ∙ get_read m.slots.items m.room m.len m.hash c.args.key c.in-Some.place c.index.result.now c.self.invariant c.in-Some.ensures.some c.index.ensures
    ∙ ap (λ (p : MapAt). get p.content c.args.key) c.self.view_is

pub returns-clause-content : goal.returns-clause-content
returns-clause-content c = let m = c.self.inside in
    content_set m.slots.items m.room m.len m.hash c.args.key c.in-Some.place (Removed c.args.key) c.self.invariant c.in-Some.ensures.some refl
    ∙ ap (λ (p : MapAt). set_at p.content c.args.key None) c.self.view_is
