use Rattle.std.proofs.Common.{ℕ, ◌∙◌, ap, refl, subst, Some, false}
use Rattle.map_ops.specs.Vocabulary.{NodeAt, Regular, SortKey, SpareAt}
use Rattle.node_list.specs.Nodes.{filled}
use Rattle.map_ops.specs.Lists.{Sets}
use Rattle.map_ops.proofs.ChangeLemmas.{links_sets, links_node, links_belong}
use Rattle.map_ops.proofs.change.link_key.Goals as goal

-- A regular node at this position, with the place and the stamp of a spare.
abbrev node_at : SortKey → ℕ → SpareAt → NodeAt
node_at at value spare = record { place = spare.place; at = at; kind = Regular; value = value; stamp = spare.stamp; marked = false }

pub link_at-requires-clause-vacant : goal.link_at-requires-clause-vacant
link_at-requires-clause-vacant c =
    let at = ap (λ (s : SpareAt). s.at) c.fill.ensures ∙ c.regular.ensures.value in
    rw at c.requires.room.vacant

pub returns-clause-sets : goal.returns-clause-sets
returns-clause-sets c =
    subst (λ (v : ℕ). Sets c.args.list.now c.link_at.new.list c.args.key (Some v)) (ap (λ (s : SpareAt). s.value) c.fill.ensures)
    (links_sets c.args.list.now c.link_at.new.list c.args.key c.requires.sound (c.link_at.ensures.follows.sound c.requires.sound) c.requires.belong
    (filled c.fill.new.self) (ap (λ (s : SpareAt). s.kind) c.fill.ensures) refl (ap (λ (s : SpareAt). s.at) c.fill.ensures ∙ c.regular.ensures.value) _ c.requires.room c.link_at.ensures.links)

pub returns-clause-belong : goal.returns-clause-belong
returns-clause-belong c =
    links_belong c.args.list.now c.link_at.new.list c.args.key c.requires.sound (c.link_at.ensures.follows.sound c.requires.sound) c.requires.belong
    (filled c.fill.new.self) (ap (λ (s : SpareAt). s.kind) c.fill.ensures) refl (ap (λ (s : SpareAt). s.at) c.fill.ensures ∙ c.regular.ensures.value) _ c.link_at.ensures.links

pub returns-clause-writes : goal.returns-clause-writes
returns-clause-writes c =
    let is = ap filled c.fill.ensures
    ∙ ap (λ (spare : SpareAt). node_at c.regular.result c.args.value spare) c.into_spare-node.ensures
    ∙ ap (λ (at : SortKey). node_at at c.args.value c.args.spare) c.regular.ensures.value in
    links_node c.args.list.now c.link_at.new.list c.args.key c.requires.sound (c.link_at.ensures.follows.sound c.requires.sound) c.requires.belong
    _ (filled c.fill.new.self) _ c.requires.room is c.link_at.ensures.links
