use Rattle.std.proofs.Common.{arith, ◌<◌, ◌≤◌, length, ◌∙◌, subst, sym, vec_len}
use Rattle.std.proofs.lemmas.Option.{slice_get-get_or}
use Rattle.order_check.specs.Timing.{IsTiming, since_in}
use Rattle.order_check.proofs.Noting.{no_access}
use Rattle.order_check.proofs.Meanings.{tables_below}
use Rattle.order_check.proofs.Times.{meant_timed}
use Rattle.order_check.proofs.Turning.{all_joined, among_at, at_end, joined_more}
use Rattle.order_check.proofs.edges.make_graph.Goals as goal

pub add_edges-requires-clause-range : goal.add_edges-requires-clause-range
add_edges-requires-clause-range c =
    let below : c.loop-index.index < length c.args.accesses.now = omega arith in
    omega (arith, c.requires.are.below _ (among_at c.args.accesses.now c.loop-index.index no_access below), c.loop-index.invariant.len, c.loop-index.graph.ok.0)

pub add_edges-requires-clause-doers : goal.add_edges-requires-clause-doers
add_edges-requires-clause-doers c =
    tables_below c.args.count c.args.accesses.now c.requires.are c.args.replacers.now c.requires.told (vec_len c.loop-index.graph) (c.loop-index.graph.ok.0 ∙ c.loop-index.invariant.len)

pub loop-index-preserved : goal.loop-index-preserved
loop-index-preserved c =
    let below : c.loop-index.index < length c.args.accesses.now = omega arith in
    let one = c.in_ok-add_edges.ensures c.requires.told c.requires.are.sourced in
    record {
      len = one.len ∙ c.loop-index.invariant.len;
      meant = one.meant (since_in c.args.since.now) c.loop-index.invariant.meant;
      joined = all_joined c.args.replacers.now c.args.accesses.now c.args.accesses.now c.loop-index.index c.loop-index.graph.items c.add_edges.new.graph.items below one c.loop-index.invariant.joined;
    }

pub add_times-requires : goal.add_times-requires
add_times-requires c = subst (λ n. IsTiming n c.args.since.now) (sym (c.loop-index.graph.ok.0 ∙ c.loop-index.invariant.len)) c.requires.timing

pub returns : goal.returns
returns c =
    let end : length c.args.accesses.now ≤ c.loop-index.index = omega arith in
    let timed = c.in_ok-add_times.ensures in
    let joined = at_end c.args.accesses.now c.args.replacers.now c.args.accesses.now c.loop-index.index c.loop-index.graph.items end c.loop-index.invariant.joined in
    record {
      len = timed.len ∙ c.loop-index.invariant.len;
      meant = meant_timed c.args.accesses.now (since_in c.args.since.now) c.loop-index.graph.items c.add_times.new.graph.items timed c.loop-index.invariant.meant;
      joined = λ a is_in. joined_more c.args.accesses.now c.args.replacers.now c.loop-index.graph.items c.add_times.new.graph.items a timed.keeps (joined a is_in);
      timed = timed.timed;
    }

pub add_edges-requires-clause-here : goal.add_edges-requires-clause-here
add_edges-requires-clause-here c = slice_get-get_or c.args.accesses.now c.loop-index.index no_access c.loop-index-test.true
