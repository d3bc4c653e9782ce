use Rattle.std.proofs.Common.{◌≡◌, ◌<◌, ◌+◌, ◌∷◌, [], ◌++◌, ℕ, Option, length, take, sym, ap, ◌∙◌, arith}
use Rattle.std.proofs.lemmas.List.{take_more}
use Rattle.striped_map.specs.Apart.{Listed}
use Rattle.striped_map.specs.declared.record.Record.{Record}
use Rattle.striped_map.specs.Gathered.{entries_in, records_of}
use Rattle.striped_map.specs.Records.{spread}
use Rattle.striped_map.proofs.Merging.{Theirs}
use Rattle.striped_map.proofs.Recording.{records_more}
use Rattle.striped_map.proofs.gather.count_all.Goals as goal
use Rattle.striped_map.proofs.gather.count_all.Goals.{in-Some+in_ok-more+in_ok-count, in_default}

pub loop-place-preserved : goal.loop-place-preserved
loop-place-preserved c = let ps : Theirs = c.args.theirs.now.items in let k = c.loop-place.place in let their = c.index.result.now in
    let lt : k < length ps = (let lt = c.loop-place-test.true in let e = c.len-place-end.ensures in omega arith) in
    let more : entries_in (take (k + 1) ps) ≡ entries_in (take k ps) + length (spread 0 (records_of their)) =
    ap entries_in (take_more ps k their lt ∙ ap (λ (p : Option (Listed Record)). take k ps ++ p ∷ []) (sym c.index.ensures)) ∙ records_more (take k ps) their in
    let before : c.loop-place.count ≡ entries_in (take k ps) = c.loop-place.invariant in
    elim c.match-index.branch [
      | in-Some+in_ok-more+in_ok-count w ↦
          let sum = w.in_ok-count.ensures in let count = w.in_ok-more.ensures in
          w.count-is ∙ sum.1 ∙ ap (λ (n : ℕ). n + w.in_ok-more.more) before ∙ ap (λ (n : ℕ). entries_in (take k ps) + n) (count ∙ sym (ap (λ (p : Option (Listed Record)). length (spread 0 (records_of p))) w.in-Some.is)) ∙ sym more
      | in_default w ↦ w.count-is ∙ before ∙ sym (more ∙ ap (λ (p : Option (Listed Record)). entries_in (take k ps) + length (spread 0 (records_of p))) w.in_default.is ∙ (omega arith))
    ]
