use Rattle.std.proofs.Common.{◌≡◌, ◌<◌, ◌+◌, length, arith, sym, ap, ◌∙◌}
use Rattle.order_check.specs.declared.search.Mark.TheVariants.{New}
use Rattle.order_check.specs.declared.search.Visit.{Visit}
use Rattle.order_check.specs.Search.{mark_in}
use Rattle.order_check.proofs.SearchTurns.{visit_is}
use Rattle.order_check.proofs.Rooting.{rooting, root_open, visited_more, each_once, keeps_edges, same_search, same_visited}
use Rattle.order_check.proofs.search.find_order.Goals as goal
use Rattle.order_check.proofs.search.find_order.Goals.{in-New+in_ok-push+in_ok-follow+else-not-branch, in_default}

pub index-requires : goal.index-requires
index-requires c = omega (arith, c.loop-root.invariant.keeps.len, c.loop-root.visits.ok.0)

pub follow-requires-clause-keeps : goal.follow-requires-clause-keeps
follow-requires-clause-keeps c =
    let below : c.loop-root.root < length c.loop-root.visits.items = omega (arith, c.loop-root.invariant.keeps.len) in
    let in_range : c.loop-root.root < length c.args.graph.now = omega arith in
    let is_new : mark_in c.loop-root.visits.items c.loop-root.root ≡ New = ap (λ (x : Visit). x.mark) (sym (visit_is c.loop-root.visits.items c.loop-root.root c.index.result.now below c.index.ensures)) ∙ c.in-New.is in
    (rooting c.args.graph.now c.loop-root.visits.items c.loop-root.path.items c.loop-root.order.items c.loop-root.root c.index_mut.result.now c.push.new.self.items c.loop-root.invariant.keeps c.loop-root.invariant.idle in_range is_new c.index_mut.ensures.value c.in_ok-push.ensures.items).keeps

pub loop-root-preserved : goal.loop-root-preserved
loop-root-preserved c = elim c.match-index.branch [
  | in-New+in_ok-push+in_ok-follow+else-not-branch w ↦
      let below : c.loop-root.root < length c.loop-root.visits.items = omega (arith, c.loop-root.invariant.keeps.len) in
      let in_range : c.loop-root.root < length c.args.graph.now = omega arith in
      let is_new : mark_in c.loop-root.visits.items c.loop-root.root ≡ New = ap (λ (x : Visit). x.mark) (sym (visit_is c.loop-root.visits.items c.loop-root.root c.index.result.now below c.index.ensures)) ∙ w.in-New.is in
      let k = rooting c.args.graph.now c.loop-root.visits.items c.loop-root.path.items c.loop-root.order.items c.loop-root.root w.index_mut.result.now w.push.new.self.items c.loop-root.invariant.keeps c.loop-root.invariant.idle in_range is_new w.index_mut.ensures.value w.in_ok-push.ensures.items in
      let f = w.in_ok-follow.ensures in
      record {
        keeps = same_search c.args.graph.now c.match-index.visits w.follow.new.visits c.match-index.path w.follow.new.path c.match-index.order w.follow.new.order w.visits-is w.path-is w.order-is f.keeps;
        idle = ap (λ v. v.items) w.path-is ∙ f.ended w.if-not-branch.false;
        visited = same_visited c.match-index.visits w.follow.new.visits (c.loop-root.root + 1) w.visits-is (visited_more c.loop-root.visits.items w.follow.new.visits.items c.loop-root.root c.loop-root.invariant.visited (λ u is. k.visited u (f.visited u is))
            (λ is. root_open c.loop-root.visits.items c.loop-root.root w.index_mut.result.now.next below (f.visited c.loop-root.root is)));
      }
  | in_default w ↦
      let below : c.loop-root.root < length c.loop-root.visits.items = omega (arith, c.loop-root.invariant.keeps.len) in
      record {
        keeps = same_search c.args.graph.now c.match-index.visits c.loop-root.visits c.match-index.path c.loop-root.path c.match-index.order c.loop-root.order w.visits-is w.path-is w.order-is c.loop-root.invariant.keeps;
        idle = ap (λ v. v.items) w.path-is ∙ c.loop-root.invariant.idle;
        visited = same_visited c.match-index.visits c.loop-root.visits (c.loop-root.root + 1) w.visits-is (visited_more c.loop-root.visits.items c.loop-root.visits.items c.loop-root.root c.loop-root.invariant.visited (λ u is. is)
            (λ is. w.in_default.not-New (ap (λ (x : Visit). x.mark) (visit_is c.loop-root.visits.items c.loop-root.root c.index.result.now below c.index.ensures) ∙ is)));
      }
]

pub returns : goal.returns
returns c = (
  each_once c.args.graph.now c.loop-root.visits.items c.loop-root.path.items c.loop-root.order.items c.loop-root.invariant.keeps c.loop-root.invariant.idle c.loop-root.root (omega arith) c.loop-root.invariant.visited,
  keeps_edges c.args.graph.now c.loop-root.visits.items c.loop-root.path.items c.loop-root.order.items c.loop-root.invariant.keeps c.loop-root.invariant.idle c.loop-root.root (omega arith) c.loop-root.invariant.visited,
)
