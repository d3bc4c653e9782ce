use Rattle.std.proofs.Common.{◌≡◌, map, rules, refl, Some}
use Rattle.std.specs.Map.Iter.{deref_pair}
use Rattle.std.proofs.lemmas.Map.Iter.{iter_end}
use Rattle.serial_check.specs.Kept.{cell_of}
use Rattle.serial_check.proofs.Loops.{item_found, met_push, met_all}
use Rattle.serial_check.proofs.footprint.Footprint.misfit.Goals as goal

pub returns-then-ne-clause-some : goal.returns-then-ne-clause-some
returns-then-ne-clause-some c =
    let there : cell_of c.args.self.now c.in-Some.key.now ≡ Some c.in-Some.cell.now =
    item_found c.args.self.now c.loop-key.yielded c.into_iter-key-iterator.result c.loop-key.key-iterator c.next.new.self c.next.result c.in-Some.key c.in-Some.cell c.into_iter-key-iterator.ensures.into_iter_gives.0 c.into_iter-key-iterator.ensures.into_iter_gives.6 c.loop-key.yielded_by c.in-Some.is c.next.ensures.steps in
    record { cell = c.in-Some.cell.now; there = there; need_is = refl; differs = λ is. absurd (search (rules, is)) }

pub loop-key-preserved : goal.loop-key-preserved
loop-key-preserved c =
    let there : cell_of c.args.self.now c.in-Some.key.now ≡ Some c.in-Some.cell.now =
    item_found c.args.self.now c.loop-key.yielded c.into_iter-key-iterator.result c.loop-key.key-iterator c.next.new.self c.next.result c.in-Some.key c.in-Some.cell c.into_iter-key-iterator.ensures.into_iter_gives.0 c.into_iter-key-iterator.ensures.into_iter_gives.6 c.loop-key.yielded_by c.in-Some.is c.next.ensures.steps in
    met_push c.args.values.now c.args.self.now c.loop-key.yielded c.in-Some.key c.in-Some.cell there (search rules) c.loop-key.invariant

pub returns-clause-none : goal.returns-clause-none
returns-clause-none c none =
    let all : map deref_pair c.loop-key.yielded ≡ c.args.self.now.cells.entries = search (rules, iter_end) in
    met_all c.args.values.now c.args.self.now c.loop-key.yielded all c.loop-key.invariant
