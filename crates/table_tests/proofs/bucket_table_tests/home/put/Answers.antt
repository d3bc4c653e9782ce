use Rattle.std.proofs.Common.{◌≡◌, ℕ, None, sym, ◌∙◌, ap}
use Rattle.node_list.proofs.OrderLemmas.{each_linked}
use Rattle.node_list.specs.Nodes.{NodeAt, SpareAt, filled}
use Rattle.split_key.specs.declared.sort.SortKey.{SortKey}
use Rattle.split_key.specs.Sort.{regular_at}
use Rattle.bucket_table.specs.Dummies.{IsKeyedNode}
use Rattle.bucket_table.proofs.HomeLemmas.{still_home}
use Rattle.bucket_table.proofs.DummyLemmas.{each_sought}
use Rattle.table_tests.proofs.bucket_table_tests.home.put.Goals as goal

pub returns-clause-home : goal.returns-clause-home
returns-clause-home g c =
    still_home _ _ c.link_at.ensures.follows _ (still_home _ _ c.seek-cursor.ensures.follows _ (still_home _ _ c.in_ok-spare.ensures.follows _ c.requires.home))

-- If the sort key of a node is `regular_at number`, then `number` is the node's key, and the node
-- is keyed.
regular_keyed : (n : NodeAt) (number : ℕ) → n.at ≡ regular_at number → IsKeyedNode n
regular_keyed n number at regular =
    let own : n.at.key ≡ number = ap (λ (at : SortKey). at.key) at in
    at ∙ ap regular_at (sym own)

pub returns-clause-keyed : goal.returns-clause-keyed
returns-clause-keyed g c =
    let own = regular_keyed (filled c.fill.new.self) c.args.number (ap (λ (s : SpareAt). s.at) c.fill.ensures ∙ c.regular.ensures.value ∙ ap regular_at c.new-key.ensures) in
    rw (c.link_at.ensures.links.takes.nodes, c.seek-cursor.ensures.nodes, c.in_ok-spare.ensures.ok.nodes)
    (each_linked IsKeyedNode _ _ (filled c.fill.new.self) own (each_sought IsKeyedNode _ _ _ c.requires.keyed))

pub link_at-requires-clause-vacant : goal.link_at-requires-clause-vacant
link_at-requires-clause-vacant g c =
    let here = rw c.in-Ok-None.field-0-is at c.in-Ok-None.ensures.ok in
    let at = ap (λ (s : SpareAt). s.at) c.fill.ensures ∙ c.regular.ensures.value in
    rw (c.pred.ensures, at, ← c.regular-2.ensures.value, ← c.seek-cursor.ensures.at) here.vacant
