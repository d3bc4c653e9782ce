use Rattle.std.proofs.Common.{◌≡◌, ◌<◌, ◌≤◌, length, ◌∙◌, sym, subst, slice_index_or, false, arith}
use Rattle.txn_words.specs.Sizes.{Sizes, is_bad_key}
use Rattle.owned_map.proofs.TrimmedMap.{HasPut, fresh_at, put_at, put_all, filled, same_listed}
use Rattle.owned_map.proofs.FirstTransaction.{taken_at}
use Rattle.owned_map.proofs.owned_map.OwnedMap.fill.Goals as goal

pub put_new-requires : goal.put_new-requires
put_new-requires c =
    let less : c.loop-pair.pair-index < length c.args.pairs.now = omega (arith, c.loop-pair-test.true) in record {
      only = c.loop-pair.invariant.only;
      fresh = fresh_at c.requires.listed.0 c.args.pairs.now c.loop-pair.self.core.history c.loop-pair.pair-index c.requires.listed.1 less c.loop-pair.invariant.put;
      taken = subst (λ (l : Sizes). is_bad_key l.half (slice_index_or c.args.pairs.now c.loop-pair.pair-index (0, 0)).0 ≡ false) (sym c.loop-pair.invariant.limits)
          (taken_at c.args.self.now.core.limits.half c.requires.listed.0 c.args.pairs.now c.loop-pair.pair-index c.requires.listed.1 c.requires.listed.2 less);
    }

pub loop-pair-preserved : goal.loop-pair-preserved
loop-pair-preserved c =
    let less : c.loop-pair.pair-index < length c.args.pairs.now = omega (arith, c.loop-pair-test.true) in
    let fresh = fresh_at c.requires.listed.0 c.args.pairs.now c.loop-pair.self.core.history c.loop-pair.pair-index c.requires.listed.1 less c.loop-pair.invariant.put in record {
      put = put_at c.args.pairs.now c.loop-pair.self.core.history c.put_new.new.self.core.history c.loop-pair.pair-index less c.loop-pair.invariant.put fresh c.in_ok-put_new.ensures.ok c.in_ok-put_new.ensures.map;
      limits = c.in_ok-put_new.ensures.limits ∙ c.loop-pair.invariant.limits;
      only = c.in_ok-put_new.ensures.only;
      stamp = (let before = c.loop-pair.invariant.stamp in let more = c.in_ok-put_new.ensures.stamp in omega (arith, before, more));
    }

pub returns-clause-ok : goal.returns-clause-ok
returns-clause-ok c =
    let all : length c.args.pairs.now ≤ c.loop-pair.pair-index = omega (arith, c.loop-pair-test.false) in
    let put : HasPut c.args.pairs.now c.loop-pair.self.core.history = put_all c.args.pairs.now _ c.loop-pair.pair-index all c.loop-pair.invariant.put in
    c.commit_first.ensures.ok ∙ filled c.args.pairs.now c.loop-pair.self.core.history put.history

pub returns-clause-map : goal.returns-clause-map
returns-clause-map c m is =
    let all : length c.args.pairs.now ≤ c.loop-pair.pair-index = omega (arith, c.loop-pair-test.false) in
    let put : HasPut c.args.pairs.now c.loop-pair.self.core.history = put_all c.args.pairs.now _ c.loop-pair.pair-index all c.loop-pair.invariant.put in
    c.commit_first.ensures.map ∙ same_listed c.args.pairs.now c.loop-pair.self.core.history put m is
