use Rattle.std.proofs.Common.{Some, is_some, not, refl, ap, subst, sym, ◌<◌, ◌∙◌}
use mir.Val.{bool_byte}
use Rattle.txn_words.specs.Map.{get, set_at}
use Rattle.stripe_shard.specs.declared.slot.Slot.TheVariants.{Full}
use Rattle.stripe_shard.specs.MapAt.{MapAt}
use Rattle.stripe_shard.proofs.Tables.{content_set, get_read, not_back, stops_with_room, table_put}
use Rattle.stripe_shard.proofs.map.ProbeMap.insert.Goals as goal

pub unreachable-requires : goal.unreachable-requires
unreachable-requires c = let m = c.self.inside in
    stops_with_room m.slots.items m.room m.len m.hash c.args.key c.self.invariant (subst (λ (p : MapAt). 0 < p.spare) (sym c.self.view_is) c.requires) (c.in_default.ensures.none refl)

pub invariant_of-self : goal.invariant_of-self
invariant_of-self c = let m = c.self.inside in
    table_put m.slots.items m.room m.len m.hash c.args.key c.args.value c.in-Some.place c.index.result.now c.from.result c.from-2.result c.self.invariant c.in-Some.ensures.some c.index.ensures
    (subst (λ (p : MapAt). 0 < p.spare) (sym c.self.view_is) c.requires) (c.from.ensures ∙ ap bool_byte c.is_empty.ensures) (c.from-2.ensures ∙ ap bool_byte (not_back c.is_none.result (is_some c.value-before.result) c.is_none.ensures ∙ ap (λ o. not (is_some o)) c.value-before.ensures))

pub returns-clause-before : goal.returns-clause-before
returns-clause-before c = let m = c.self.inside in c.value-before.ensures
    ∙ get_read m.slots.items m.room m.len m.hash c.args.key c.in-Some.place c.index.result.now c.self.invariant c.in-Some.ensures.some c.index.ensures
    ∙ ap (λ (p : MapAt). get p.content c.args.key) c.self.view_is

pub returns-clause-content : goal.returns-clause-content
returns-clause-content c = let m = c.self.inside in
    content_set m.slots.items m.room m.len m.hash c.args.key c.in-Some.place (Full c.args.key c.args.value) c.self.invariant c.in-Some.ensures.some refl
    ∙ ap (λ (p : MapAt). set_at p.content c.args.key (Some c.args.value)) c.self.view_is
