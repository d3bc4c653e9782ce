use Rattle.std.proofs.Common.{◌<◌, ◌∷◌, [], ◌++◌, List, length, take, sym, ap, ◌∙◌, arith}
use Rattle.std.proofs.lemmas.List.{take_more}
use Rattle.std.proofs.lemmas.Option.{get_or_from_slice_get}
use Rattle.striped_map.specs.declared.record.Record.{Record}
use Rattle.striped_map.specs.Records.{spread}
use Rattle.striped_map.proofs.Recording.{count_more}
use Rattle.striped_map.proofs.gather.count_of.Goals as goal

pub loop-place-preserved : goal.loop-place-preserved
loop-place-preserved c = let rs = c.args.records.now.items in let k = c.loop-place.place in
    let lt : k < length rs = (let lt = c.loop-place-test.true in let e = c.len-place-end.ensures in omega arith) in
    let sum = c.in_ok-count.ensures in let more = c.in_ok-more.ensures in
    sum.1
    ∙ count_more (take k rs) c.at.result c.loop-place.count c.in_ok-more.more c.loop-place.invariant more
    ∙ ap (λ (l : List Record). length (spread 0 l)) (ap (λ (r : Record). take k rs ++ r ∷ []) (sym (get_or_from_slice_get rs k c.at.result c.at.result c.at.ensures)) ∙ sym (take_more rs k c.at.result lt))
