use Rattle.std.proofs.Common.{◌∷◌, [], ◌++◌, List, take, sym, ap, ◌∙◌, arith}
use Rattle.std.proofs.lemmas.List.{take_more}
use Rattle.std.proofs.lemmas.Option.{get_or_from_slice_get}
use Rattle.striped_map.specs.declared.record.Record.{Record}
use Rattle.striped_map.specs.Gathered.{written}
use Rattle.striped_map.specs.Records.{spread}
use Rattle.striped_map.proofs.Recording.{put_more}
use Rattle.striped_map.proofs.gather.put_records.Goals as goal

pub loop-place-preserved : goal.loop-place-preserved
loop-place-preserved c = let n = c.args.number in let t = c.args.table.now.items in let rs = c.args.records.now.items in let k = c.loop-place.place in
    put_more t c.loop-place.table.items c.put_record.new.table.items n (take k rs) c.at-at.result c.loop-place.invariant c.put_record.ensures
    ∙ ap (λ (l : List Record). written t (spread n l)) (ap (λ (r : Record). take k rs ++ r ∷ []) (sym (get_or_from_slice_get rs k c.at-at.result c.at-at.result c.at-at.ensures)) ∙ sym (take_more rs k c.at-at.result (let lt = c.loop-place-test.true in let e = c.len-place-end.ensures in omega arith)))
