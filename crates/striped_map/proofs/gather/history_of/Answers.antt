use Rattle.std.proofs.Common.{◌≡◌, ◌+◌, ◌<◌, ℕ, ◌∷◌, [], ◌++◌, List, Vec, Global, Option, Some, take, length, replicate, sym, ap, ◌∙◌, arith}
use Rattle.std.proofs.lemmas.List.{take_more, length-take-le}
use Rattle.txn_words.specs.declared.entry.Entry.{Entry}
use Rattle.txn_words.specs.declared.entry.Entry.TheVariants.{Aborted}
use Rattle.striped_map.specs.Apart.{Listed}
use Rattle.striped_map.specs.declared.record.Record.{Record}
use Rattle.striped_map.specs.Gathered.{entries_in, records_of, written, written_from}
use Rattle.striped_map.specs.Records.{spread}
use Rattle.striped_map.proofs.Merging.{Theirs}
use Rattle.striped_map.proofs.Recording.{written_more}
use Rattle.striped_map.proofs.gather.history_of.Goals as goal
use Rattle.striped_map.proofs.gather.history_of.Goals.{in-Some-index, in_default-index}

pub loop-place-preserved : goal.loop-place-preserved
loop-place-preserved c = let ps : Theirs = c.args.theirs.now.items in let k = c.loop-place.place in let their = c.index.result.now in
    let t = written (replicate (entries_in (Some c.args.own.now ∷ ps)) (Aborted 0)) (spread 0 c.args.own.now.items) in
    let lt : k < length ps = (let lt = c.loop-place-test.true in let e = c.len-place-end.ensures in omega arith) in
    let long = length-take-le k ps (omega arith) in
    let more : written_from 1 t (take (k + 1) ps) ≡ written (written_from 1 t (take k ps)) (spread (k + 1) (records_of their)) =
    ap (written_from 1 t) (take_more ps k their lt ∙ ap (λ (p : Option (Listed Record)). take k ps ++ p ∷ []) (sym c.index.ensures)) ∙ written_more 1 t (take k ps) their
    ∙ ap (λ (i : ℕ). written (written_from 1 t (take k ps)) (spread i (records_of their))) (omega arith) in
    let before : c.loop-place.table.items ≡ written_from 1 t (take k ps) = c.loop-place.invariant in
    elim c.match-index.branch [
      | in-Some-index w ↦
          ap (λ (v : Vec Entry Global). v.items) w.table-is ∙ w.put_records-in-Some-index.ensures ∙ ap (λ (l : List Entry). written l (spread (k + 1) w.in-Some-index.records.items)) before
          ∙ sym (more ∙ ap (λ (p : Option (Listed Record)). written (written_from 1 t (take k ps)) (spread (k + 1) (records_of p))) w.in-Some-index.is)
      | in_default-index w ↦
          ap (λ (v : Vec Entry Global). v.items) w.table-is ∙ before ∙ sym (more ∙ ap (λ (p : Option (Listed Record)). written (written_from 1 t (take k ps)) (spread (k + 1) (records_of p))) w.in_default-index.is)
    ]
