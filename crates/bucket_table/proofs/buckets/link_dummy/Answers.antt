use Rattle.std.proofs.Common.{◌∙◌, ap, ℕ, false}
use Rattle.std.proofs.lemmas.Result.{err_from_is_err_and}
use Rattle.node_list.proofs.NodesLemmas.{found_linked}
use Rattle.split_key.specs.declared.sort.SortKey.{SortKey}
use Rattle.node_list.specs.declared.node.Kind.TheVariants.{Dummy}
use Rattle.node_list.specs.Nodes.{NodeAt, SpareAt, IsLinked, filled}
use Rattle.bucket_table.specs.Dummies.{IsKeyedNode}
use Rattle.bucket_table.proofs.DummyLemmas.{keyed_dummy}
use Rattle.node_list.proofs.OrderLemmas.{each_linked}
use Rattle.bucket_table.proofs.LinkLemmas.{unlinked, links_at}
use Rattle.bucket_table.proofs.buckets.link_dummy.Goals as goal

-- A dummy at this place with this sort key and stamp.
abbrev dummy_with : ℕ → SortKey → ℕ → NodeAt
dummy_with place at stamp = record { place = place; at = at; kind = Dummy; value = 0; stamp = stamp; marked = false }

pub returns-in_err-spare-clause-err : goal.returns-in_err-spare-clause-err
returns-in_err-spare-clause-err c =
    let p = err_from_is_err_and c.from_residual.result c.from_residual.ensures.1 in
    rw (p.1, p.2) (unlinked _ _ _ c.in_err-spare.ensures.worn c.in_err-spare.ensures.unchanged)

pub link_at-requires-clause-vacant : goal.link_at-requires-clause-vacant
link_at-requires-clause-vacant c =
    let at = ap (λ (s : SpareAt). s.at) c.fill.ensures ∙ c.dummy.ensures.value in
    rw (at, c.in_ok-spare.ensures.ok.nodes) c.requires

pub returns-clause-ok : goal.returns-clause-ok
returns-clause-ok c =
    let given = c.in_ok-spare.ensures.ok in
    let linked : IsLinked c.spare.new.self.nodes c.args.pred = rw given.nodes (found_linked _ _ _ c.requires.is) in
    let at_place = c.link_at.ensures.place ∙ ap (λ (s : SpareAt). s.place) c.fill.ensures in
    let filled_is = ap filled c.fill.ensures ∙ ap (λ (at : SortKey). dummy_with c.in_ok-spare.spare.place at c.in_ok-spare.spare.stamp) c.dummy.ensures.value in
    rw at_place (links_at c.args.list.now c.spare.new.self _ c.args.pred _ _ _ given c.in_ok-spare.ensures.stamp (λ last. cc (c.in_ok-spare.ensures.worn.1 last)) c.ranges.bucket.fits
    linked (filled c.fill.new.self) filled_is c.link_at.ensures.links)

pub returns-clause-keyed : goal.returns-clause-keyed
returns-clause-keyed c keyed =
    rw (c.link_at.ensures.links.takes.nodes, c.in_ok-spare.ensures.ok.nodes)
    (each_linked IsKeyedNode _ _ (filled c.fill.new.self) (keyed_dummy (filled c.fill.new.self) (ap (λ (s : SpareAt). s.kind) c.fill.ensures)) keyed)
