use Rattle.std.proofs.Common.{refl, ◌≡◌, ◌^◌, ℕ, ◌∙◌, ap, sym, subst, arith}
use Rattle.txn_words.specs.declared.entry.Entry.TheVariants.{Aborted}
use Rattle.striped_map.specs.Records.{spread}
use Rattle.striped_map.specs.Hosts.{kept_by}
use Rattle.striped_map.specs.Rule.{most}
use Rattle.striped_map.specs.declared.keep.Keep.TheVariants.{Entries}
use Rattle.striped_map.specs.Seats.{known}
use Rattle.striped_map.specs.Steps.{marks}
use Rattle.striped_map.proofs.Merging.{all_merged, host_history}
use Rattle.striped_map.proofs.host.Host.history.Goals as goal

pub missing-requires : goal.missing-requires
missing-requires c = let me = c.gather-numbers.new.self in let seat = me.hand.seat in
    let all = seat.moded ∙ c.in-Entries.is in let sized = me.sized all in
    let few = c.gather-numbers.ensures.few in let kept : kept_by me ≡ Entries = sym me.alike ∙ all in let most_is : most (kept_by me) ≡ 2 ^ 16 = ap most kept in omega arith

pub returns-in-Ok-clause-ok : goal.returns-in-Ok-clause-ok
returns-in-Ok-clause-ok c = let me = c.gather-numbers.new.self in let seat = me.hand.seat in let v = known seat in
    let all = seat.moded ∙ c.in-Entries.is in let long = me.theirs.ok.0 in let done = c.in-Ok.ensures in
    let none = c.in_default-missing.ensures in let sized = me.sized all in let found = c.gather-numbers.ensures.found in
    let few = c.gather-numbers.ensures.few in let kept : kept_by me ≡ Entries = sym me.alike ∙ all in let most_is : most (kept_by me) ≡ 2 ^ 16 = ap most kept in
    done.ok ∙ host_history v seat.records me.theirs.items (me.recorded all) c.gather-numbers.ensures.all _ (Aborted 0)
    (subst (λ (k : ℕ). marks k 0 v.seen ≡ spread k seat.records.items) (sym seat.numbered ∙ me.first) (seat.marked c.in-Entries.is))
    (λ k pos lt. none.none refl k pos (omega arith)) (omega arith) c.gather-numbers.ensures.others c.gather-numbers.ensures.legal done.few

pub returns-in-Ok-clause-merged : goal.returns-in-Ok-clause-merged
returns-in-Ok-clause-merged c = let me = c.gather-numbers.new.self in let seat = me.hand.seat in let v = known seat in
    let all = seat.moded ∙ c.in-Entries.is in
    let none = c.in_default-missing.ensures in let found = c.gather-numbers.ensures.found in
    all_merged v seat.records me.theirs.items (me.recorded all) c.gather-numbers.ensures.all (λ k pos lt. none.none refl k pos (omega arith))
