use Rattle.std.proofs.Common.{max, ◌≡◌, ◌+◌, ◌<◌, ◌≤◌, ◌∷◌, ◌++◌, [], ap, get_or, length, subst, sym, arith, ◌∙◌}
use Rattle.order_check.specs.Timing.{AddsTimes, since_in}
use Rattle.order_check.proofs.EntrySteps.{same_default}
use Rattle.order_check.proofs.Times.{TimesSome, below_max, times_all, times_more, times_none}
use Rattle.order_check.proofs.timing.add_times.Goals as goal

pub loop-txn-init : goal.loop-txn-init
loop-txn-init c = times_none c.args.since.now c.push.new.self.items c.args.graph.now.items (c.in_ok-push.ensures.items ∙ ap (λ xs. xs ++ 0 ∷ []) c.new-covered.ensures.items)

pub returns : goal.returns
returns c =
    let past : length c.args.since.now ≤ c.loop-txn.txn = omega arith in
    times_all c.args.since.now c.loop-txn.txn c.loop-txn.covered.items c.args.graph.now.items c.loop-txn.graph.items past c.loop-txn.invariant

pub loop-txn-preserved : goal.loop-txn-preserved
loop-txn-preserved c =
    let since = c.args.since.now in
    let txn = c.loop-txn.txn in
    let covered = c.loop-txn.covered.items in
    let size = c.loop-txn.invariant.size in
    let early : since_in since txn ≤ txn = c.requires.early txn in
    let start : c.index.result.now ≡ get_or covered (since_in since txn) 0 = c.index.ensures ∙ same_default covered (since_in since txn) c.index.result.now 0 (omega arith) in
    let last : c.index-in-loop-txn.result.now ≡ get_or covered txn 0 = c.index-in-loop-txn.ensures ∙ same_default covered txn c.index-in-loop-txn.result.now 0 (omega arith) in
    let most : c.max.result ≡ max (get_or covered txn 0) (since_in since txn) = c.max.ensures ∙ ap (λ n. max n (since_in since txn)) last in
    let added : AddsTimes (get_or covered (since_in since txn) 0) (since_in since txn) txn c.loop-txn.graph.items c.add_between.new.graph.items =
    subst (λ n. AddsTimes n (since_in since txn) txn c.loop-txn.graph.items c.add_between.new.graph.items) start c.in_ok-add_between.ensures in
    subst (λ xs. TimesSome since (txn + 1) xs c.args.graph.now.items c.add_between.new.graph.items) (sym c.in_ok-push-2.ensures.items)
    (times_more since txn covered c.args.graph.now.items c.loop-txn.graph.items c.add_between.new.graph.items early c.loop-txn.invariant c.max.result
    (λ t less. below_max (get_or covered txn 0) (since_in since txn) t (subst (λ n. t < n) most less)) added)
