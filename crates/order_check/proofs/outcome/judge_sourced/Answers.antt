use Rattle.std.proofs.Common.{◌≡◌, ℕ, List, arith, length, map, sym, ap, subst, ◌∙◌, refl}
use Rattle.order_check.specs.declared.access.Access.{Access}
use Rattle.order_check.specs.declared.edge.Edge.{Edge}
use Rattle.order_check.specs.declared.link.Link.{Link}
use Rattle.order_check.specs.Forces.{Forces}
use Rattle.order_check.specs.Joined.{edge_of}
use Rattle.order_check.specs.Orders.{HasNoOrder}
use Rattle.order_check.specs.Graphs.{AreInRange, IsCycle, IsFound, IsRing}
use Rattle.order_check.specs.declared.search.Found.TheVariants.{Order, Cycle}
use Rattle.std.specs.List.{All}
use Rattle.order_check.specs.Outcomes.{IsOnce, IsRepeated, IsTxn, AreCertain, footprints_of}
use Rattle.order_check.specs.Timing.{Leads, since_in}
use Rattle.order_check.proofs.Meanings.{in_range, order_found, cycle_found, certain_found, repeated}
use Rattle.order_check.proofs.RealTimes.{timed_below}
use Rattle.order_check.proofs.Times.{keeps_time}
use Rattle.order_check.proofs.outcome.judge_sourced.Goals as goal

-- The cycle of the edges that the links stand for.
is_cycle : (count : ℕ) (accesses : List Access) (since : ℕ → ℕ) (links row : List Link) (edges : List Edge) → row ≡ links → edges ≡ map (edge_of accesses) row
    → IsCycle (Forces (footprints_of accesses) since) (map (edge_of accesses) links) × HasNoOrder (IsTxn count) (footprints_of accesses) since → IsCycle (Forces (footprints_of accesses) since) edges × HasNoOrder (IsTxn count) (footprints_of accesses) since
is_cycle count accesses since links row edges same is found = (subst (IsCycle (Forces (footprints_of accesses) since)) (sym (is ∙ ap (map (edge_of accesses)) same)) found.0, found.1)

pub find_shortest-requires : goal.find_shortest-requires
find_shortest-requires c =
    let early = timed_below c.args.count c.args.since.now c.requires.timing in
    subst AreInRange (sym c.deref.ensures.value)
    (in_range c.args.count c.args.accesses.now c.requires.are (since_in c.args.since.now) c.in_ok-graph.graph.items c.in_ok-graph.ensures.meant
    (λ t u less. let parts = early t u less in let first = parts.0 in let below = parts.1 in omega arith) c.in_ok-graph.ensures.len)

pub returns-in-Order : goal.returns-in-Order
returns-in-Order c =
    let early = timed_below c.args.count c.args.since.now c.requires.timing in
    let found : IsFound (Leads (since_in c.args.since.now) c.in_ok-graph.graph.items) c.in_ok-graph.graph.items (Order c.in-Order.order) = subst (λ graph. IsFound (Leads (since_in c.args.since.now) graph) graph (Order c.in-Order.order)) c.deref.ensures.value (subst (IsFound (Leads (since_in c.args.since.now) c.deref.result.now) c.deref.result.now) c.in-Order.is c.in_ok-order.ensures) in
    order_found c.args.count c.args.accesses.now c.requires.are c.in_ok-replacers.replacers c.in_ok-replacers.ensures (since_in c.args.since.now) c.in_ok-graph.graph.items c.in_ok-graph.ensures.joined c.in-Order.order.items found.1
    (keeps_time (since_in c.args.since.now) (λ t u less. (early t u less).0) c.in_ok-graph.graph.items c.in_ok-graph.ensures.timed c.in-Order.order.items found.1) (length c.in_ok-graph.graph.items) c.in_ok-graph.ensures.len found.0

pub returns : goal.returns
returns c =
    let found : IsRing (Leads (since_in c.args.since.now) c.in_ok-graph.graph.items) c.in-Cycle.edges.items = subst (λ graph. IsFound (Leads (since_in c.args.since.now) graph) graph (Cycle c.in-Cycle.edges)) c.deref.ensures.value (subst (IsFound (Leads (since_in c.args.since.now) c.deref.result.now) c.deref.result.now) c.in-Cycle.is c.in_ok-order.ensures) in
    is_cycle c.args.count c.args.accesses.now (since_in c.args.since.now) c.in-Cycle.edges.items c.deref-in-None.result.now c.in_ok-edges_of-in-None.field-0.items c.deref-in-None.ensures.value c.in_ok-edges_of-in-None.ensures
    (cycle_found c.args.count c.args.accesses.now c.requires.are (since_in c.args.since.now) c.in_ok-writers-in-Cycle.writers c.in_ok-writers-in-Cycle.ensures c.in_ok-graph.graph.items c.in_ok-graph.ensures.meant c.in-Cycle.edges.items found (subst (All (IsOnce c.args.accesses.now c.in_ok-writers-in-Cycle.writers)) c.deref-in-Cycle.ensures.value (c.in-None.ensures.none refl)))

pub returns-in-Some : goal.returns-in-Some
returns-in-Some c =
    subst (λ (l : Edge). IsRepeated c.args.accesses.now (l.key, l.value)) (sym c.edge_of.ensures)
    (repeated c.args.count c.args.accesses.now c.requires.are (since_in c.args.since.now) c.in_ok-writers-in-Cycle.writers c.in_ok-writers-in-Cycle.ensures c.in-Some.edge c.in-Some.ensures.some)

pub find_shortest-requires-in-Some : goal.find_shortest-requires-in-Some
find_shortest-requires-in-Some c =
    let certain : AreCertain c.args.accesses.now c.in_ok-writers-in-Cycle.writers c.in_ok-graph.graph.items c.in_ok-certain-in-Some.certain.items = subst (λ graph. AreCertain c.args.accesses.now c.in_ok-writers-in-Cycle.writers graph c.in_ok-certain-in-Some.certain.items) c.deref-in-Some.ensures.value c.in_ok-certain-in-Some.ensures in
    let early = timed_below c.args.count c.args.since.now c.requires.timing in
    subst AreInRange (sym c.deref-in-Some-2.ensures.value)
    (in_range c.args.count c.args.accesses.now c.requires.are (since_in c.args.since.now) c.in_ok-certain-in-Some.certain.items
    (λ u l has. c.in_ok-graph.ensures.meant u l (certain.certain u l has).0) (λ t u less. let parts = early t u less in let first = parts.0 in let below = parts.1 in omega arith) (certain.len ∙ c.in_ok-graph.ensures.len))

pub returns-in-Cycle-2 : goal.returns-in-Cycle-2
returns-in-Cycle-2 c =
    let certain : AreCertain c.args.accesses.now c.in_ok-writers-in-Cycle.writers c.in_ok-graph.graph.items c.in_ok-certain-in-Some.certain.items = subst (λ graph. AreCertain c.args.accesses.now c.in_ok-writers-in-Cycle.writers graph c.in_ok-certain-in-Some.certain.items) c.deref-in-Some.ensures.value c.in_ok-certain-in-Some.ensures in
    let found : IsRing (Leads (since_in c.args.since.now) c.in_ok-certain-in-Some.certain.items) c.in-Cycle-2.edges.items = subst (λ graph. IsFound (Leads (since_in c.args.since.now) graph) graph (Cycle c.in-Cycle-2.edges)) c.deref-in-Some-2.ensures.value (subst (IsFound (Leads (since_in c.args.since.now) c.deref-in-Some-2.result.now) c.deref-in-Some-2.result.now) c.in-Cycle-2.is c.in_ok-edges-in-Some.ensures) in
    is_cycle c.args.count c.args.accesses.now (since_in c.args.since.now) c.in-Cycle-2.edges.items c.deref-in-Cycle-2.result.now c.in_ok-edges_of-in-Cycle-2.field-0.items c.deref-in-Cycle-2.ensures.value c.in_ok-edges_of-in-Cycle-2.ensures
    (certain_found c.args.count c.args.accesses.now c.requires.are (since_in c.args.since.now) c.in_ok-writers-in-Cycle.writers c.in_ok-writers-in-Cycle.ensures c.in_ok-certain-in-Some.certain.items
    (λ u l has. c.in_ok-graph.ensures.meant u l (certain.certain u l has).0) (λ u l has. (certain.certain u l has).1) c.in-Cycle-2.edges.items found)
