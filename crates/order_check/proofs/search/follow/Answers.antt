use Rattle.std.proofs.Common.{◌≡◌, ◌<◌, ◌-◌, length, take, arith, ◌∙◌, sym, ap, vec_len}
use Rattle.order_check.specs.declared.search.Mark.TheVariants.{New, Open, Done}
use Rattle.order_check.specs.declared.search.Visit.{Visit}
use Rattle.order_check.specs.Graphs.{edges_of}
use Rattle.order_check.specs.Search.{mark_in, next_in}
use Rattle.order_check.proofs.SearchTurns.{turn, visit_is, closing, opening, passing, edge_there, next_within, closing_falls, opening_falls, passing_falls, stuck_at}
use Rattle.order_check.proofs.search.follow.Goals as goal

pub index-requires : goal.index-requires
index-requires c =
    let t = turn c.args.graph.now c.loop-path.visits c.loop-path.path c.loop-path.order c.index-top.result.now c.len.result c.is_empty.result c.loop-path.invariant.keeps c.is_empty.ensures c.loop-path-test.true c.len.ensures c.index-top.ensures in
    omega (arith, t.below, t.len, c.loop-path.visits.ok.0)

pub loop-path-smaller-then-at-len : goal.loop-path-smaller-then-at-len
loop-path-smaller-then-at-len c =
    let t = turn c.args.graph.now c.loop-path.visits c.loop-path.path c.loop-path.order c.index-top.result.now c.len.result c.is_empty.result c.loop-path.invariant.keeps c.is_empty.ensures c.loop-path-test.true c.len.ensures c.index-top.ensures in
    closing_falls c.args.graph.now c.loop-path.visits.items c.loop-path.path.items c.loop-path.order.items c.index-top.result.now c.index_mut.result.now t c.index_mut.ensures.value

pub loop-path-preserved-then-at-len : goal.loop-path-preserved-then-at-len
loop-path-preserved-then-at-len c =
    let t = turn c.args.graph.now c.loop-path.visits c.loop-path.path c.loop-path.order c.index-top.result.now c.len.result c.is_empty.result c.loop-path.invariant.keeps c.is_empty.ensures c.loop-path-test.true c.len.ensures c.index-top.ensures in
    let within = next_within c.args.graph.now c.loop-path.visits.items c.loop-path.path.items c.loop-path.order.items c.index-top.result.now c.index-graph-top.result c.index.result.now t c.index-graph-top.is c.index.ensures in
    let all : c.index.result.now.next ≡ length (edges_of c.args.graph.now c.index-top.result.now) = omega (arith, within.1, c.if-at-len.true, c.len-in-loop-path.ensures) in
    let k = closing c.args.graph.now c.loop-path.visits.items c.loop-path.path.items c.loop-path.order.items c.index-top.result.now c.index_mut.result.now c.index.result.now c.pop.new.self.items c.push.new.self.items t c.index_mut.ensures.value c.index.ensures all (c.pop.ensures.rest ∙ ap (λ n. take (n - 1) c.loop-path.path.items) c.loop-path.path.ok.0) c.in_ok-push.ensures.items in
    record { keeps = k.keeps; visited = λ u is. c.loop-path.invariant.visited u (k.visited u is) }

pub index-requires-else-at-len : goal.index-requires-else-at-len
index-requires-else-at-len c =
    let t = turn c.args.graph.now c.loop-path.visits c.loop-path.path c.loop-path.order c.index-top.result.now c.len.result c.is_empty.result c.loop-path.invariant.keeps c.is_empty.ensures c.loop-path-test.true c.len.ensures c.index-top.ensures in
    let first = next_within c.args.graph.now c.loop-path.visits.items c.loop-path.path.items c.loop-path.order.items c.index-top.result.now c.index-graph-top.result c.index.result.now t c.index-graph-top.is c.index.ensures in
    let within = next_within c.args.graph.now c.loop-path.visits.items c.loop-path.path.items c.loop-path.order.items c.index-top.result.now c.index-graph-top-else-at-len.result c.index.result.now t c.index-graph-top-else-at-len.is c.index.ensures in
    omega (arith, first.0, first.1, within.1, c.if-at-len.false, c.len-in-loop-path.ensures)

pub index-requires-else-at-len-2 : goal.index-requires-else-at-len-2
index-requires-else-at-len-2 c =
    let t = turn c.args.graph.now c.loop-path.visits c.loop-path.path c.loop-path.order c.index-top.result.now c.len.result c.is_empty.result c.loop-path.invariant.keeps c.is_empty.ensures c.loop-path-test.true c.len.ensures c.index-top.ensures in
    let first = next_within c.args.graph.now c.loop-path.visits.items c.loop-path.path.items c.loop-path.order.items c.index-top.result.now c.index-graph-top.result c.index.result.now t c.index-graph-top.is c.index.ensures in
    let within = next_within c.args.graph.now c.loop-path.visits.items c.loop-path.path.items c.loop-path.order.items c.index-top.result.now c.index-graph-top-else-at-len.result c.index.result.now t c.index-graph-top-else-at-len.is c.index.ensures in
    let l = c.index-else-at-len.result.now in
    let in_row : c.index.result.now.next < vec_len c.index-graph-top-else-at-len.result = omega (arith, first.0, first.1, within.1, c.if-at-len.false, c.len-in-loop-path.ensures) in
    let there = edge_there c.args.graph.now c.loop-path.visits.items c.index-top.result.now c.index-graph-top-else-at-len.result c.index.result.now l t.below t.len c.index-graph-top-else-at-len.is c.index.ensures in_row c.index-else-at-len.ensures in
    let in_range = c.requires.range c.index-top.result.now l (record { number = next_in c.loop-path.visits.items c.index-top.result.now; there = there }) in
    omega (arith, in_range, t.len, c.loop-path.visits.ok.0)

pub index_mut-requires-in-New : goal.index_mut-requires-in-New
index_mut-requires-in-New c =
    let t = turn c.args.graph.now c.loop-path.visits c.loop-path.path c.loop-path.order c.index-top.result.now c.len.result c.is_empty.result c.loop-path.invariant.keeps c.is_empty.ensures c.loop-path-test.true c.len.ensures c.index-top.ensures in
    let first = next_within c.args.graph.now c.loop-path.visits.items c.loop-path.path.items c.loop-path.order.items c.index-top.result.now c.index-graph-top.result c.index.result.now t c.index-graph-top.is c.index.ensures in
    let within = next_within c.args.graph.now c.loop-path.visits.items c.loop-path.path.items c.loop-path.order.items c.index-top.result.now c.index-graph-top-else-at-len.result c.index.result.now t c.index-graph-top-else-at-len.is c.index.ensures in
    let l = c.index-else-at-len.result.now in
    let in_row : c.index.result.now.next < vec_len c.index-graph-top-else-at-len.result = omega (arith, first.0, first.1, within.1, c.if-at-len.false, c.len-in-loop-path.ensures) in
    let there = edge_there c.args.graph.now c.loop-path.visits.items c.index-top.result.now c.index-graph-top-else-at-len.result c.index.result.now l t.below t.len c.index-graph-top-else-at-len.is c.index.ensures in_row c.index-else-at-len.ensures in
    let in_range = c.requires.range c.index-top.result.now l (record { number = next_in c.loop-path.visits.items c.index-top.result.now; there = there }) in
    omega (arith, in_range, t.len, c.loop-path.visits.ok.0)

pub loop-path-smaller-in-New : goal.loop-path-smaller-in-New
loop-path-smaller-in-New c =
    let t = turn c.args.graph.now c.loop-path.visits c.loop-path.path c.loop-path.order c.index-top.result.now c.len.result c.is_empty.result c.loop-path.invariant.keeps c.is_empty.ensures c.loop-path-test.true c.len.ensures c.index-top.ensures in
    let first = next_within c.args.graph.now c.loop-path.visits.items c.loop-path.path.items c.loop-path.order.items c.index-top.result.now c.index-graph-top.result c.index.result.now t c.index-graph-top.is c.index.ensures in
    let within = next_within c.args.graph.now c.loop-path.visits.items c.loop-path.path.items c.loop-path.order.items c.index-top.result.now c.index-graph-top-else-at-len.result c.index.result.now t c.index-graph-top-else-at-len.is c.index.ensures in
    let l = c.index-else-at-len.result.now in
    let in_row : c.index.result.now.next < vec_len c.index-graph-top-else-at-len.result = omega (arith, first.0, first.1, within.1, c.if-at-len.false, c.len-in-loop-path.ensures) in
    let there = edge_there c.args.graph.now c.loop-path.visits.items c.index-top.result.now c.index-graph-top-else-at-len.result c.index.result.now l t.below t.len c.index-graph-top-else-at-len.is c.index.ensures in_row c.index-else-at-len.ensures in
    let in_range = c.requires.range c.index-top.result.now l (record { number = next_in c.loop-path.visits.items c.index-top.result.now; there = there }) in
    let is_new : mark_in c.loop-path.visits.items l.from ≡ New = ap (λ (x : Visit). x.mark) (sym (visit_is c.loop-path.visits.items l.from c.index-else-at-len-2.result.now (omega (arith, in_range, t.len)) c.index-else-at-len-2.ensures)) ∙ c.in-New.is in
    opening_falls c.args.graph.now c.loop-path.visits.items l.from c.index_mut-in-New.result.now in_range t.len is_new c.index_mut-in-New.ensures.value

pub loop-path-preserved-in-New : goal.loop-path-preserved-in-New
loop-path-preserved-in-New c =
    let t = turn c.args.graph.now c.loop-path.visits c.loop-path.path c.loop-path.order c.index-top.result.now c.len.result c.is_empty.result c.loop-path.invariant.keeps c.is_empty.ensures c.loop-path-test.true c.len.ensures c.index-top.ensures in
    let first = next_within c.args.graph.now c.loop-path.visits.items c.loop-path.path.items c.loop-path.order.items c.index-top.result.now c.index-graph-top.result c.index.result.now t c.index-graph-top.is c.index.ensures in
    let within = next_within c.args.graph.now c.loop-path.visits.items c.loop-path.path.items c.loop-path.order.items c.index-top.result.now c.index-graph-top-else-at-len.result c.index.result.now t c.index-graph-top-else-at-len.is c.index.ensures in
    let l = c.index-else-at-len.result.now in
    let in_row : c.index.result.now.next < vec_len c.index-graph-top-else-at-len.result = omega (arith, first.0, first.1, within.1, c.if-at-len.false, c.len-in-loop-path.ensures) in
    let there = edge_there c.args.graph.now c.loop-path.visits.items c.index-top.result.now c.index-graph-top-else-at-len.result c.index.result.now l t.below t.len c.index-graph-top-else-at-len.is c.index.ensures in_row c.index-else-at-len.ensures in
    let in_range = c.requires.range c.index-top.result.now l (record { number = next_in c.loop-path.visits.items c.index-top.result.now; there = there }) in
    let is_new : mark_in c.loop-path.visits.items l.from ≡ New = ap (λ (x : Visit). x.mark) (sym (visit_is c.loop-path.visits.items l.from c.index-else-at-len-2.result.now (omega (arith, in_range, t.len)) c.index-else-at-len-2.ensures)) ∙ c.in-New.is in
    let k = opening c.args.graph.now c.loop-path.visits.items c.loop-path.path.items c.loop-path.order.items c.index-top.result.now l c.index_mut-in-New.result.now c.push-in-New.new.self.items t there in_range is_new c.index_mut-in-New.ensures.value c.in_ok-push-in-New.ensures.items in
    record { keeps = k.keeps; visited = λ u is. c.loop-path.invariant.visited u (k.visited u is) }

pub overflow_add-at : goal.overflow_add-at
overflow_add-at c =
    let t = turn c.args.graph.now c.loop-path.visits c.loop-path.path c.loop-path.order c.index-top.result.now c.len.result c.is_empty.result c.loop-path.invariant.keeps c.is_empty.ensures c.loop-path-test.true c.len.ensures c.index-top.ensures in
    let first = next_within c.args.graph.now c.loop-path.visits.items c.loop-path.path.items c.loop-path.order.items c.index-top.result.now c.index-graph-top.result c.index.result.now t c.index-graph-top.is c.index.ensures in
    let within = next_within c.args.graph.now c.loop-path.visits.items c.loop-path.path.items c.loop-path.order.items c.index-top.result.now c.index-graph-top-else-at-len.result c.index.result.now t c.index-graph-top-else-at-len.is c.index.ensures in
    let in_row : c.index.result.now.next < vec_len c.index-graph-top-else-at-len.result = omega (arith, first.0, first.1, within.1, c.if-at-len.false, c.len-in-loop-path.ensures) in
    omega (arith, in_row, c.index-graph-top-else-at-len.result.small)

pub index_mut-requires-in-Done : goal.index_mut-requires-in-Done
index_mut-requires-in-Done c =
    let t = turn c.args.graph.now c.loop-path.visits c.loop-path.path c.loop-path.order c.index-top.result.now c.len.result c.is_empty.result c.loop-path.invariant.keeps c.is_empty.ensures c.loop-path-test.true c.len.ensures c.index-top.ensures in
    omega (arith, t.below, t.len, c.loop-path.visits.ok.0)

pub loop-path-smaller : goal.loop-path-smaller
loop-path-smaller c =
    let t = turn c.args.graph.now c.loop-path.visits c.loop-path.path c.loop-path.order c.index-top.result.now c.len.result c.is_empty.result c.loop-path.invariant.keeps c.is_empty.ensures c.loop-path-test.true c.len.ensures c.index-top.ensures in
    let first = next_within c.args.graph.now c.loop-path.visits.items c.loop-path.path.items c.loop-path.order.items c.index-top.result.now c.index-graph-top.result c.index.result.now t c.index-graph-top.is c.index.ensures in
    let within = next_within c.args.graph.now c.loop-path.visits.items c.loop-path.path.items c.loop-path.order.items c.index-top.result.now c.index-graph-top-else-at-len.result c.index.result.now t c.index-graph-top-else-at-len.is c.index.ensures in
    let l = c.index-else-at-len.result.now in
    let in_row : c.index.result.now.next < vec_len c.index-graph-top-else-at-len.result = omega (arith, first.0, first.1, within.1, c.if-at-len.false, c.len-in-loop-path.ensures) in
    let there = edge_there c.args.graph.now c.loop-path.visits.items c.index-top.result.now c.index-graph-top-else-at-len.result c.index.result.now l t.below t.len c.index-graph-top-else-at-len.is c.index.ensures in_row c.index-else-at-len.ensures in
    let in_range = c.requires.range c.index-top.result.now l (record { number = next_in c.loop-path.visits.items c.index-top.result.now; there = there }) in
    passing_falls c.args.graph.now c.loop-path.visits.items c.loop-path.path.items c.loop-path.order.items c.index-top.result.now c.index_mut-in-Done.result.now c.index.result.now t c.index_mut-in-Done.ensures.value c.index.ensures (omega (arith, in_row, within.1))

pub loop-path-preserved : goal.loop-path-preserved
loop-path-preserved c =
    let t = turn c.args.graph.now c.loop-path.visits c.loop-path.path c.loop-path.order c.index-top.result.now c.len.result c.is_empty.result c.loop-path.invariant.keeps c.is_empty.ensures c.loop-path-test.true c.len.ensures c.index-top.ensures in
    let first = next_within c.args.graph.now c.loop-path.visits.items c.loop-path.path.items c.loop-path.order.items c.index-top.result.now c.index-graph-top.result c.index.result.now t c.index-graph-top.is c.index.ensures in
    let within = next_within c.args.graph.now c.loop-path.visits.items c.loop-path.path.items c.loop-path.order.items c.index-top.result.now c.index-graph-top-else-at-len.result c.index.result.now t c.index-graph-top-else-at-len.is c.index.ensures in
    let l = c.index-else-at-len.result.now in
    let in_row : c.index.result.now.next < vec_len c.index-graph-top-else-at-len.result = omega (arith, first.0, first.1, within.1, c.if-at-len.false, c.len-in-loop-path.ensures) in
    let there = edge_there c.args.graph.now c.loop-path.visits.items c.index-top.result.now c.index-graph-top-else-at-len.result c.index.result.now l t.below t.len c.index-graph-top-else-at-len.is c.index.ensures in_row c.index-else-at-len.ensures in
    let in_range = c.requires.range c.index-top.result.now l (record { number = next_in c.loop-path.visits.items c.index-top.result.now; there = there }) in
    let is_done : mark_in c.loop-path.visits.items l.from ≡ Done = ap (λ (x : Visit). x.mark) (sym (visit_is c.loop-path.visits.items l.from c.index-else-at-len-2.result.now (omega (arith, in_range, t.len)) c.index-else-at-len-2.ensures)) ∙ c.in-Done.is in
    let k = passing c.args.graph.now c.loop-path.visits.items c.loop-path.path.items c.loop-path.order.items c.index-top.result.now l c.index_mut-in-Done.result.now c.index.result.now t there is_done c.index_mut-in-Done.ensures.value c.index.ensures in
    record { keeps = k.keeps; visited = λ u is. c.loop-path.invariant.visited u (k.visited u is) }

pub returns-in-Open-clause-stuck : goal.returns-in-Open-clause-stuck
returns-in-Open-clause-stuck c =
    let t = turn c.args.graph.now c.loop-path.visits c.loop-path.path c.loop-path.order c.index-top.result.now c.len.result c.is_empty.result c.loop-path.invariant.keeps c.is_empty.ensures c.loop-path-test.true c.len.ensures c.index-top.ensures in
    let first = next_within c.args.graph.now c.loop-path.visits.items c.loop-path.path.items c.loop-path.order.items c.index-top.result.now c.index-graph-top.result c.index.result.now t c.index-graph-top.is c.index.ensures in
    let within = next_within c.args.graph.now c.loop-path.visits.items c.loop-path.path.items c.loop-path.order.items c.index-top.result.now c.index-graph-top-else-at-len.result c.index.result.now t c.index-graph-top-else-at-len.is c.index.ensures in
    let l = c.index-else-at-len.result.now in
    let in_row : c.index.result.now.next < vec_len c.index-graph-top-else-at-len.result = omega (arith, first.0, first.1, within.1, c.if-at-len.false, c.len-in-loop-path.ensures) in
    let there = edge_there c.args.graph.now c.loop-path.visits.items c.index-top.result.now c.index-graph-top-else-at-len.result c.index.result.now l t.below t.len c.index-graph-top-else-at-len.is c.index.ensures in_row c.index-else-at-len.ensures in
    let in_range = c.requires.range c.index-top.result.now l (record { number = next_in c.loop-path.visits.items c.index-top.result.now; there = there }) in
    let is_open : mark_in c.loop-path.visits.items l.from ≡ Open = ap (λ (x : Visit). x.mark) (sym (visit_is c.loop-path.visits.items l.from c.index-else-at-len-2.result.now (omega (arith, in_range, t.len)) c.index-else-at-len-2.ensures)) ∙ c.in-Open.is in
    λ stuck. stuck_at c.args.graph.now c.loop-path.visits.items c.loop-path.path.items c.loop-path.order.items c.index-top.result.now l t there is_open
