use Rattle.std.proofs.Common.{◌≡◌, ◌<◌, ◌≤◌, ◌+◌, Some, length, map, vec_len, vec_capacity, rules, sym, ap, subst, ◌∙◌}
use Rattle.std.specs.List.{All}
use Rattle.std.proofs.lemmas.List.Elements.{All-push}
use Rattle.txn_words.specs.Kinds.{caller_of}
use Rattle.boostmap_c.specs.Entries.{judged_entry}
use Rattle.boostmap_c.proofs.Reading.{read_more}
use Rattle.boostmap_c.proofs.any_order.read_history.Goals as goal

pub reads-preserved : goal.reads-preserved
reads-preserved c =
    let inv = c.reads.invariant in
    let es = c.args.entries.now in
    let long : vec_len c.push_reserved.new.self ≡ c.reads.i + 1 = search rules in
    let room : length es ≤ vec_capacity c.push_reserved.new.self = search rules in (
      ap (map Some) c.push_reserved.ensures.items ∙ read_more judged_entry es c.reads.i _ c.reads.history.items _ c.reads-test.true inv.0 c.in-Some.ensures.value,
      long,
      room,
      subst (All (λ entry. caller_of entry < 64)) (sym c.push_reserved.ensures.items) (All-push (λ entry. caller_of entry < 64) c.reads.history.items _ inv.3 c.in-Some.ensures.caller),
    )
