use Rattle.std.proofs.Common.{rules, ◌≡◌, ◌<◌, length, get_or, subst}
use Rattle.std.specs.Option.{option_to_list}
use Rattle.std.proofs.lemmas.List.{get_or_append_left}
use Rattle.striped_map.specs.declared.caller.Caller.{Caller}
use Rattle.striped_tests.proofs.meets.last_of.Goals as goal

pub returns-clause-of : goal.returns-clause-of
returns-clause-of g c = λ place below d.
    let old = c.args.callers.now.items in
    let new = c.pop.new.self.items in
    let within : place < length old = search rules in
    let same : get_or old place d ≡ get_or new place d = rw c.pop.ensures.items (get_or_append_left new (option_to_list c.pop.result) d place below) in
    subst (λ (caller : Caller). caller.map.value ≡ c.args.host.now.map.value) same (c.requires.of place within d)
